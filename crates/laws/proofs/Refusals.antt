-- Laws of `refusal`, the number of the first row that is so. Assumes nothing.
use Prim.Native.Nat.{ℕ, zero, suc, ◌<◌}
use mathlib.Core.Path.{◌≡◌, refl, sym, ◌∙◌}
use mathlib.Core.Bool.{Bool, true, false, cond, true≢false}
use mathlib.Core.Logic.{◌↔◌}
use mathlib.Core.List.{List, [], ◌∷◌, ◌++◌}
use native.Mathlib.Omega.{arith}
use lib.Dec.{eqb, leb}
use borrow.Author.Tests.{eqb-false, leb-false}
use Rattle.mps.specs.Words.{among, any, each, only, first}
use Rattle.mps.specs.Refusals.{Rule, ◌when◌, refusal}
use Rattle.laws.proofs.Tests.{or_parts}

-- The two halves of a row.
abbrev pub number : Rule → ℕ
number (n when b) = n

abbrev pub so : Rule → Bool
so (n when b) = b

-- ---- The first number of two

pub first_some : (a b : ℕ) → (a ≡ 0 → ⊥) → first a b ≡ a
first_some zero b n = absurd (n refl)
first_some (suc a) b n = refl

pub first_none : (a b : ℕ) → first a b ≡ 0 → (a ≡ 0) × (b ≡ 0)
first_none zero b e = (refl, e)
first_none (suc a) b e = absurd (omega arith)

-- ---- The first row

pub refusal_stop : {b : Bool} (n : ℕ) (rows : List Rule) → b ≡ true → refusal (n when b ∷ rows) ≡ n
unfolding refusal
refusal_stop n rows e = rw e

pub refusal_go : {b : Bool} (n : ℕ) (rows : List Rule) → b ≡ false → refusal (n when b ∷ rows) ≡ refusal rows
unfolding refusal
refusal_go n rows e = rw e

-- Where no number is given, the first row is not so.
pub refusal_pass : (n : ℕ) (b : Bool) (rows : List Rule) → 0 < n → refusal (n when b ∷ rows) ≡ 0 → (b ≡ false) × (refusal rows ≡ 0)
unfolding refusal
refusal_pass n true rows p e = absurd (omega arith)
refusal_pass n false rows p e = (refl, e)

-- Neither is any row of those in front.
pub refusal_before : (a b : List Rule) → refusal (a ++ b) ≡ 0 → refusal a ≡ 0
unfolding refusal
refusal_before [] b e = refl
refusal_before (n when true ∷ a) b e = e
refusal_before (n when false ∷ a) b e = refusal_before a b e

pub refusal_end : refusal [] ≡ 0
unfolding refusal
refusal_end = refl

-- Two tables of rows, one behind the other, where 0 is no row's number.
append_step : (n : ℕ) (b : Bool) (x y : ℕ) → eqb 0 n ≡ false → cond b n (first x y) ≡ first (cond b n x) y
append_step zero true x y e = absurd (true≢false e)
append_step (suc n) true x y e = refl
append_step n false x y e = refl

pub refusal_append : (a b : List Rule) → among 0 (each number a) ≡ false → refusal (a ++ b) ≡ first (refusal a) (refusal b)
unfolding refusal among each
refusal_append [] b e = refl
refusal_append (n when c ∷ a) b e =
    let h = or_parts (eqb 0 n) (among 0 (each number a)) e in
    rw (refusal_append a b h.1) (append_step n c (refusal a) (refusal b) h.0)

-- Rows of which none is so decide nothing.
pub refusal_passed : (a b : List Rule) → any so a ≡ false → refusal (a ++ b) ≡ refusal b
unfolding refusal any
refusal_passed [] b e = refl
refusal_passed (n when true ∷ a) b e = absurd (true≢false e)
refusal_passed (n when false ∷ a) b e = refusal_passed a b e

-- One row that is not so decides nothing where it stands.
pub row_passed : (n : ℕ) (a b : List Rule) → refusal ((a ++ (n when false ∷ [])) ++ b) ≡ refusal (a ++ b)
unfolding refusal
row_passed n [] b = refl
row_passed n (m when true ∷ a) b = refl
row_passed n (m when false ∷ a) b = row_passed n a b

-- No number is given exactly when no row is so, where 0 is no row's number.
pub refusal_none : (rows : List Rule) → among 0 (each number rows) ≡ false → (refusal rows ≡ 0) ↔ (any so rows ≡ false)
unfolding refusal among each any
refusal_none [] a = (λ e. refl, λ e. refl)
refusal_none (n when true ∷ rows) a =
    (λ e. absurd (eqb-false 0 n (or_parts (eqb 0 n) (among 0 (each number rows)) a).0 (sym e)), λ e. absurd (true≢false e))
refusal_none (n when false ∷ rows) a = refusal_none rows (or_parts (eqb 0 n) (among 0 (each number rows)) a).1

-- A number that the rows before have not is given by those behind, and only where no row before is so.
pub refusal_behind : (n : ℕ) (a b : List Rule) → among n (each number a) ≡ false → refusal (a ++ b) ≡ n → any so a ≡ false
unfolding refusal among each any
refusal_behind n [] b f e = refl
refusal_behind n (m when true ∷ a) b f e = absurd (eqb-false n m (or_parts (eqb n m) (among n (each number a)) f).0 (sym e))
refusal_behind n (m when false ∷ a) b f e = refusal_behind n a b (or_parts (eqb n m) (among n (each number a)) f).1 e

-- ---- "Given exactly when"

-- A number that no row has is not given.
pub refusal_absent : (n : ℕ) (rows : List Rule) → 0 < n → among n (each number rows) ≡ false → refusal rows ≡ n → ⊥
unfolding refusal among each
refusal_absent n [] p a e = omega arith
refusal_absent n (m when true ∷ rows) p a e = eqb-false n m (or_parts (eqb n m) (among n (each number rows)) a).0 (sym e)
refusal_absent n (m when false ∷ rows) p a e = refusal_absent n rows p (or_parts (eqb n m) (among n (each number rows)) a).1 e

-- A number that one row has is given exactly when that row is so and none before it is.
pub given_exactly :
    (before : List Rule) (n : ℕ) (b : Bool) (after : List Rule) → 0 < n → among n (each number before) ≡ false → among n (each number after) ≡ false
    → (refusal (before ++ (n when b ∷ after)) ≡ n) ↔ ((any so before ≡ false) × (b ≡ true))
unfolding refusal among each any
given_exactly [] n true after p f g = (λ e. (refl, refl), λ h. refl)
given_exactly [] n false after p f g = (λ e. absurd (refusal_absent n after p g e), λ h. absurd (true≢false (sym h.1)))
given_exactly (m when true ∷ before) n b after p f g =
    (λ e. absurd (eqb-false n m (or_parts (eqb n m) (among n (each number before)) f).0 (sym e)), λ h. absurd (true≢false h.0))
given_exactly (m when false ∷ before) n b after p f g =
    given_exactly before n b after p (or_parts (eqb n m) (among n (each number before)) f).1 g

-- A number that the rows behind have not is given exactly when those before give it.
pub given_before : (a b : List Rule) → among 0 (each number a) ≡ false → (n : ℕ) → 0 < n → among n (each number b) ≡ false
    → (refusal (a ++ b) ≡ n) ↔ (refusal a ≡ n)
given_before a b z n p f = cases (refusal a) (refusal_append a b z)
  where
    cases : (m : ℕ) → refusal (a ++ b) ≡ first m (refusal b) → (refusal (a ++ b) ≡ n) ↔ (m ≡ n)
    cases zero e = (λ q. absurd (refusal_absent n b p f (sym e ∙ q)), λ q. absurd (omega (arith, p, q)))
    cases (suc m) e = (λ q. sym e ∙ q, λ q. e ∙ q)

-- Rows that are there only under a test have no number that they would not have without it.
pub absent_only : (n : ℕ) (b : Bool) (rows : List Rule) → among n (each number rows) ≡ false → among n (each number (only b rows)) ≡ false
unfolding among each
absent_only n true rows e = e
absent_only n false rows e = refl

-- The number is below what every row's number is below.
pub refusal_below : (k : ℕ) (rows : List Rule) → 0 < k → any (λ (r : Rule). leb k (number r)) rows ≡ false → refusal rows < k
unfolding refusal any
refusal_below k [] p a = p
refusal_below k (n when true ∷ rows) p a =
    leb-false k n (or_parts (leb k n) (any (λ (r : Rule). leb k (number r)) rows) a).0
refusal_below k (n when false ∷ rows) p a =
    refusal_below k rows p (or_parts (leb k n) (any (λ (r : Rule). leb k (number r)) rows) a).1
