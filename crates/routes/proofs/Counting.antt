-- Laws of what an entry names. Assumes nothing.
use Prim.Native.Nat.{ℕ, ◌≤◌, ◌<◌}
use mathlib.Core.Path.{◌≡◌, sym, ◌∙◌}
use mathlib.Core.Bool.{Bool, true, false}
use mathlib.Core.List.{List, [], ◌∷◌}
use native.Mathlib.Omega.{arith}
use lib.Dec.{eqb}
use lib.ListN.{length, take, drop}
use lib.Seq.{drop-cons}
use borrow.Author.Tests.{eq-eqb, ne_eqb}
use Rattle.mps.specs.Words.{among}
use Rattle.mps.specs.Layout.{Entry, destination}
use Rattle.laws.proofs.Tests.{whether}
use Rattle.laws.proofs.Lists.{among_at}
use Rattle.roll.specs.Roll.{taken_bit, marked, OnRoll}
use Rattle.routes.specs.Pairs.{named}

-- ---- named: all of the IDs, or, by the answer of the roll that they are on, one or none

module _ (ids : List ℕ) (to : ℕ) where
  pub named_all : to ≡ 255 → named ids to ≡ ids
  unfolding named
  named_all e = rw (eq-eqb to 255 e)

  module _ (n : to ≡ 255 → ⊥) (h : to < 256) (roll : List ℕ) (on : OnRoll taken_bit roll ids) {r : Bool} (e : r ≡ marked 1 roll to) where
    found : {b : Bool} → r ≡ b → among to ids ≡ b
    found f = sym (on to h) ∙ sym e ∙ f

    pub named_one : r ≡ true → named ids to ≡ to ∷ []
    unfolding named
    named_one f = rw (ne_eqb to 255 n, found f)

    pub named_none : r ≡ false → named ids to ≡ []
    unfolding named
    named_none f = rw (ne_eqb to 255 n, found f)

-- The byte of an entry that is its destination.
pub row_to : (e : Entry) → length e ≡ 8 → take 1 (drop 6 e) ≡ destination e ∷ []
row_to e h = let at : 6 < length e = omega (arith, h) in rw (drop-cons e 6 0 at)

-- An entry names no more IDs than there are.
pub named_most : (ids : List ℕ) (to : ℕ) → length (named ids to) ≤ length ids
unfolding named
named_most ids to =
    whether (eqb to 255) (λ e. rw e (omega arith))
    (λ e. rw e (whether (among to ids) (λ f. rw f (omega (arith, (among_at to ids f).1))) (λ f. rw f (omega arith))))
