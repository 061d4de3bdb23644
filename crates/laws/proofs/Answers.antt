-- Laws of `answered`: what a call answers by its number, and what the number is by what was answered. Assumes nothing.
use Prim.Native.Nat.{ℕ, zero, suc, ◌<◌}
use mathlib.Core.Path.{◌≡◌, refl, ap, sym, ◌∙◌}
use mathlib.Core.Bool.{Bool, true, false, not, true≢false}
use mathlib.Core.Logic.{◌↔◌}
use mathlib.Core.List.{List, [], ◌∷◌}
use native.Mathlib.Omega.{arith}
use lib.Dec.{eqb}
use borrow.Author.Tests.{eqb-true, ne_eqb}
use Rattle.std.specs.Prelude.{Result, Ok, Err}
use Rattle.mps.specs.Words.{among, any, each}
use Rattle.mps.specs.Refusals.{Rule, ◌when◌, refusal, inner_number}
use Rattle.mps.specs.Reasons.{number_of_refusal, refusals, named, refusal_numbered}
use Rattle.mps.specs.Answers.{number_of, answered, numbers_of}
use Rattle.mps.specs.declared.refusals.Refusal.{Refusal}
use Rattle.mps.specs.declared.refusals.Refusal.TheVariants.{BadDump, NoPointer, PointerRevision, FeatureByte, HeaderCut, Signature, BaseLength, BaseSum, Revision}
use Rattle.mps.specs.declared.refusals.Refusal.TheVariants.{EntryType, EntryCut, EntryOrder, ExtendedPart, Processors, Buses, IoApics, Interrupts, Spaces}
use Rattle.mps.specs.declared.refusals.Refusal.TheVariants.{RoomTooSmall, NoEntry, OtherEntry, Changed, Query, Slot, NumbersUsedUp, BadBook, NotLatest, BookFull, NoDefault}
use Rattle.laws.proofs.Tests.{whether, or_parts}

-- ---- What is answered

-- A call that nothing refuses answers,
pub answered_ok : {A : Type 0} (n : ℕ) (a : A) → n ≡ 0 → Ok a ≡ answered n a
answered_ok n a e = rw e

-- and one that is refused with a number answers the refusal of that number.
pub answered_err : {A : Type 0} (n : ℕ) (a : A) {r : Refusal} → (n ≡ 0 → ⊥) → r ≡ refusal_numbered n → Err r ≡ answered n a
answered_err zero a z e = absurd (z refl)
answered_err (suc n) a z e = ap Err e

-- The same number, the same answer.
pub told : {A : Type 0} (a : A) {n m : ℕ} → n ≡ m → answered n a ≡ answered m a
told a e = ap (λ k. answered k a) e

-- ---- And back

is_answer : {A : Type 0} → Result A Refusal → Bool
is_answer (Ok a) = true
is_answer (Err r) = false

answer_or : {A : Type 0} → A → Result A Refusal → A
answer_or d (Ok a) = a
answer_or d (Err r) = d

refusal_or : {A : Type 0} → Refusal → Result A Refusal → Refusal
refusal_or d (Ok a) = d
refusal_or d (Err r) = r

pub given_ok : {A : Type 0} (n : ℕ) (a : A) {b : A} → Ok b ≡ answered n a → (n ≡ 0) × (b ≡ a)
unfolding is_answer answer_or
given_ok zero a e = (refl, ap (answer_or a) e)
given_ok (suc n) a e = absurd (true≢false (ap is_answer e))

pub given_err : {A : Type 0} (n : ℕ) (a : A) {r : Refusal} → Err r ≡ answered n a → (n ≡ 0 → ⊥) × (r ≡ refusal_numbered n)
unfolding is_answer refusal_or
given_err zero a e = absurd (true≢false (sym (ap is_answer e)))
given_err (suc n) a e = (λ z. absurd (omega (arith, z)), ap (refusal_or (refusal_numbered (suc n))) e)

-- What is refused within a call is what the call is refused with, where that is its number.
pub refused_on : {A B : Type 0} (n m : ℕ) (a : A) (b : B) {r : Refusal} → Err r ≡ answered n a → ((n ≡ 0 → ⊥) → m ≡ n) → Err r ≡ answered m b
refused_on n m a b e f =
    let g = given_err n a e in
    answered_err m b (λ z. g.0 (sym (f g.0) ∙ z)) (g.1 ∙ ap refusal_numbered (sym (f g.0)))

-- ---- The numbers that refusals have

-- 0, or a refusal's.
abbrev pub Known : ℕ → Type 0
Known n = among n (0 ∷ each number_of_refusal refusals) ≡ true

named_number : (n : ℕ) (rs : List Refusal) → among n (each number_of_refusal rs) ≡ true → number_of_refusal (named n rs) ≡ n
unfolding among each
named_number n [] h = absurd (true≢false (sym h))
named_number n (r ∷ rs) h =
    whether (eqb n (number_of_refusal r))
    (λ t. rw t (sym (eqb-true n (number_of_refusal r) t)))
    (λ f. rw f (named_number n rs (rw f at h)))

pub number_numbered : (n : ℕ) → (n ≡ 0 → ⊥) → Known n → number_of_refusal (refusal_numbered n) ≡ n
unfolding refusal_numbered among
number_numbered zero z h = absurd (z refl)
number_numbered (suc n) z h = named_number (suc n) refusals (rw (ne_eqb (suc n) 0 z) at h)

-- Rows whose numbers are such give such a number; which they are is computed.
abbrev pub strange : Rule → Bool
strange (n when b) = not (among n (0 ∷ each number_of_refusal refusals))

pub known_rows : (rows : List Rule) → any strange rows ≡ false → Known (refusal rows)
unfolding refusal any among each
known_rows [] h = refl
known_rows (n when true ∷ rows) h = not_not (among n (0 ∷ each number_of_refusal refusals)) (or_parts (strange (n when true)) (any strange rows) h).0
  where
    not_not : (b : Bool) → not b ≡ false → b ≡ true
    not_not true e = refl
    not_not false e = absurd (true≢false e)
known_rows (n when false ∷ rows) h = known_rows rows (or_parts (strange (n when false)) (any strange rows) h).1

-- The first number of what is answered is the call's,
pub answered_number : {A : Type 0} (values : A → List ℕ) (n : ℕ) (a : A) → Known n → number_of (numbers_of values (answered n a)) ≡ n
answered_number values zero a h = refl
answered_number values (suc n) a h = number_numbered (suc n) (λ z. absurd (omega (arith, z))) h

-- and a refusal has it alone.
pub refused_numbers : {A : Type 0} (values : A → List ℕ) (n : ℕ) (a : A) → Known (suc n) → numbers_of values (answered (suc n) a) ≡ suc n ∷ []
refused_numbers values n a h = rw (number_numbered (suc n) (λ z. absurd (omega (arith, z))) h)

-- No refusal has the number 0, nor that of an edit that would spoil the table, and each number has one byte.
pub refusal_small : (r : Refusal) → (0 < number_of_refusal r) × (number_of_refusal r < 256) × (eqb (number_of_refusal r) inner_number ≡ false)
refusal_small BadDump = (omega arith, omega arith, refl)
refusal_small NoPointer = (omega arith, omega arith, refl)
refusal_small PointerRevision = (omega arith, omega arith, refl)
refusal_small FeatureByte = (omega arith, omega arith, refl)
refusal_small HeaderCut = (omega arith, omega arith, refl)
refusal_small Signature = (omega arith, omega arith, refl)
refusal_small BaseLength = (omega arith, omega arith, refl)
refusal_small BaseSum = (omega arith, omega arith, refl)
refusal_small Revision = (omega arith, omega arith, refl)
refusal_small EntryType = (omega arith, omega arith, refl)
refusal_small EntryCut = (omega arith, omega arith, refl)
refusal_small EntryOrder = (omega arith, omega arith, refl)
refusal_small ExtendedPart = (omega arith, omega arith, refl)
refusal_small Processors = (omega arith, omega arith, refl)
refusal_small Buses = (omega arith, omega arith, refl)
refusal_small IoApics = (omega arith, omega arith, refl)
refusal_small Interrupts = (omega arith, omega arith, refl)
refusal_small Spaces = (omega arith, omega arith, refl)
refusal_small RoomTooSmall = (omega arith, omega arith, refl)
refusal_small NoEntry = (omega arith, omega arith, refl)
refusal_small OtherEntry = (omega arith, omega arith, refl)
refusal_small Changed = (omega arith, omega arith, refl)
refusal_small Query = (omega arith, omega arith, refl)
refusal_small Slot = (omega arith, omega arith, refl)
refusal_small NumbersUsedUp = (omega arith, omega arith, refl)
refusal_small BadBook = (omega arith, omega arith, refl)
refusal_small NotLatest = (omega arith, omega arith, refl)
refusal_small BookFull = (omega arith, omega arith, refl)
refusal_small NoDefault = (omega arith, omega arith, refl)

-- A refusal is the one of its number.
pub numbered_number : (r : Refusal) → refusal_numbered (number_of_refusal r) ≡ r
unfolding refusal_numbered
numbered_number BadDump = refl
numbered_number NoPointer = refl
numbered_number PointerRevision = refl
numbered_number FeatureByte = refl
numbered_number HeaderCut = refl
numbered_number Signature = refl
numbered_number BaseLength = refl
numbered_number BaseSum = refl
numbered_number Revision = refl
numbered_number EntryType = refl
numbered_number EntryCut = refl
numbered_number EntryOrder = refl
numbered_number ExtendedPart = refl
numbered_number Processors = refl
numbered_number Buses = refl
numbered_number IoApics = refl
numbered_number Interrupts = refl
numbered_number Spaces = refl
numbered_number RoomTooSmall = refl
numbered_number NoEntry = refl
numbered_number OtherEntry = refl
numbered_number Changed = refl
numbered_number Query = refl
numbered_number Slot = refl
numbered_number NumbersUsedUp = refl
numbered_number BadBook = refl
numbered_number NotLatest = refl
numbered_number BookFull = refl
numbered_number NoDefault = refl

-- ---- What is answered, exactly when

module _ {A : Type 0} (n : ℕ) (a : A) where
  pub ok_exactly : (answered n a ≡ Ok a) ↔ (n ≡ 0)
  ok_exactly = (λ e. (given_ok n a (sym e)).0, λ z. sym (answered_ok n a z))

  pub err_exactly : (r : Refusal) → Known n → (answered n a ≡ Err r) ↔ (n ≡ number_of_refusal r)
  err_exactly r k = (
    λ e. let g = given_err n a (sym e) in sym (number_numbered n g.0 k) ∙ ap number_of_refusal (sym g.1),
    λ h. sym (answered_err n a (λ z. absurd (omega (arith, refusal_small r, h, z))) (sym (numbered_number r) ∙ ap refusal_numbered (sym h))),
  )
