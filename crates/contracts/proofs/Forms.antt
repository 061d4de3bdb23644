-- What it is for a contract to determine its call, and what a call is that a contract allows, stated over the contract as the
-- toolchain reads it. Assumes nothing.
use mathlib.Core.Path.{◌≡◌, sym, ◌∙◌}
use seplogic.Ra.Ura.{Ura}
use base.Logic.{SProp, ent, sep}
use prog.Memory.{Memory}
use prog.Routine.{Routine}
use types.Logic.{Logic}
use contract.Lifetimes.{Lfts}
use contract.Monad.{Fun, fact, fact_mono}
use denote.Triple.Clauses.{Ended, Clauses, AtExit}
use denote.Triple.Entry.{Args, Res}
use denote.Triple.Walked.{needs}

-- A contract whose parameters are only read: at any arguments it allows one result.
abbrev pub Answers : {K : Type 0} {A R S : K → Type 0} → ((κ : K) → A κ → R κ → S κ → Type 0) → Type 0
Answers {K} {A} {R} {S} P = (κ : K) (a : A κ) (x y : R κ) (s t : S κ) → P κ a x s → P κ a y t → x ≡ y

-- A contract of a function that returns nothing, where `left` is the content of what was lent: it allows one content.
abbrev pub Leaves : {K : Type 0} {A R S : K → Type 0} {X : Type 0} → ((κ : K) → A κ → R κ → S κ → Type 0) → ((κ : K) → S κ → X) → Type 0
Leaves {K} {A} {R} {S} P left = (κ : K) (a : A κ) (x y : R κ) (s t : S κ) → P κ a x s → P κ a y t → left κ s ≡ left κ t

-- A contract of a function that does both: it allows one answer and one content.
abbrev pub Determines : {K : Type 0} {A R S : K → Type 0} {X : Type 0} → ((κ : K) → A κ → R κ → S κ → Type 0) → ((κ : K) → S κ → X) → Type 0
Determines {K} {A} {R} {S} P left =
    (κ : K) (a : A κ) (x y : R κ) (s t : S κ) → P κ a x s → P κ a y t → (x ≡ y) × (left κ s ≡ left κ t)

-- The contents of two rooms, where a call is lent two.
abbrev pub both : {X Y : Type 0} → X → Y → X × Y
both x y = (x, y)

-- A contract over a slice of records, or over a struct that holds a reference: the borrow checker does not read it, so it is
-- taken as the logic has it. What it ensures of one result, together with what it ensures of another, says that the two
-- are equal. (What these contracts ensure are facts and own nothing, so that both can hold at once.)
abbrev pub Contracts : Ended → Type 2
Contracts T = (M : Type 1) (𝓤 : Ura M) → (𝓛 : Logic 𝓤) → (Memory → SProp 𝓤) → (Routine → Fun 𝓤) → Clauses 𝓤 T

abbrev pub Decides : (T : Ended) → Contracts T → Type 2
Decides T c =
    (M : Type 1) (𝓤 : Ura M) (𝓛 : Logic 𝓤) (mem : Memory → SProp 𝓤) (run : Routine → Fun 𝓤)
    (κs : Lfts T.signature.lifetimes) (a : Args T.signature κs) (g : (c M 𝓤 𝓛 mem run κs a).ghost)
    (x y : Res T.signature κs) (s t : AtExit T κs)
    → ent 𝓤 (sep 𝓤 ((c M 𝓤 𝓛 mem run κs a).ensures g x s) ((c M 𝓤 𝓛 mem run κs a).ensures g y t)) (fact 𝓤 (x ≡ y))

pub both_are :
    {M : Type 1} (𝓤 : Ura M) {X : Type 0} (x y z : X) → ent 𝓤 (sep 𝓤 (fact 𝓤 (x ≡ z)) (fact 𝓤 (y ≡ z))) (fact 𝓤 (x ≡ y))
both_are 𝓤 x y z = needs 𝓤 (y ≡ z) (fact 𝓤 (x ≡ z)) (λ q. fact_mono 𝓤 (x ≡ z) (x ≡ y) (λ p. p ∙ sym q))

-- One call that a contract allows: what it was given, what it answered, and what its parameters were at its end.
pub record Call {K : Type 0} {A R S : K → Type 0} (P : (κ : K) → A κ → R κ → S κ → Type 0) : Type 0 where
  pub lifetimes : K
  pub given : A lifetimes
  pub answer : R lifetimes
  pub ends : S lifetimes
  pub allowed : P lifetimes given answer ends
