-- Laws of the tests that definitions are made of. Assumes nothing.
use Prim.Native.Nat.{ℕ}
use mathlib.Core.Path.{◌≡◌, refl, sym, ◌∙◌}
use mathlib.Core.Bool.{Bool, true, false, ◌||◌, ◌&&◌, true≢false}
use lib.Dec.{eqb}
use borrow.Author.Tests.{eq-eqb, ne_eqb, eqb-true, eqb-false}

-- ---- eqb

pub eqb_comm : (a b : ℕ) → eqb a b ≡ eqb b a
eqb_comm a b = cases (eqb b a) refl
  where
    cases : (t : Bool) → eqb b a ≡ t → eqb a b ≡ t
    cases true e = eq-eqb a b (sym (eqb-true b a e))
    cases false e = ne_eqb a b (λ p. eqb-false b a e (sym p))

-- ---- A test is true or false

pub whether : {C : Type 0} (a : Bool) → (a ≡ true → C) → (a ≡ false → C) → C
whether true f g = f refl
whether false f g = g refl

-- What would make true what is false is false.
pub contrary : (a b : Bool) → (a ≡ true → b ≡ true) → b ≡ false → a ≡ false
contrary true b f h = absurd (true≢false (sym (f refl) ∙ h))
contrary false b f h = refl

-- Two tests that follow from one another are the same.
pub same_test : (a b : Bool) → (a ≡ true → b ≡ true) → (b ≡ true → a ≡ true) → a ≡ b
same_test true b f g = sym (f refl)
same_test false b f g = sym (contrary b false g refl)

-- ---- &&

pub and_parts : (p q : Bool) → (p && q) ≡ true → (p ≡ true) × (q ≡ true)
and_parts true q e = (refl, e)
and_parts false q e = absurd (true≢false (sym e))

-- ---- ||

pub either : {C : Type 0} (a b : Bool) → (a || b) ≡ true → (a ≡ true → C) → (b ≡ true → C) → C
either true b e f g = f e
either false b e f g = g e

pub or_parts : (p q : Bool) → (p || q) ≡ false → (p ≡ false) × (q ≡ false)
or_parts true q e = absurd (true≢false e)
or_parts false q e = (refl, e)

pub or_swap : (a b c : Bool) → (a || (b || c)) ≡ (b || (a || c))
or_swap true true c = refl
or_swap true false c = refl
or_swap false b c = refl

pub or_four : (a b c d : Bool) → ((a || b) || (c || d)) ≡ ((a || c) || (b || d))
or_four true b c d = refl
or_four false b c d = or_swap b c d
