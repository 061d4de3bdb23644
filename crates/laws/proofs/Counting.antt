-- How many numbers, elements: of a test and its contrary, of numbers that are apart, and of a range from which some are taken.
-- Assumes nothing.
use Prim.Native.Nat.{ℕ, zero, suc, ◌+◌, ◌≤◌, ◌<◌}
use mathlib.Core.Path.{◌≡◌, refl, sym, ap, ◌∙◌}
use mathlib.Core.Bool.{Bool, true, false, not, ◌||◌, ◌&&◌, false≢true, or_assoc, and-false}
use mathlib.Core.List.{List, [], ◌∷◌, ◌++◌, nil≢cons, head-eq_of_cons-eq, tail-eq_of_cons-eq}
use native.Mathlib.Omega.{arith}
use lib.ListN.{length}
use lib.Dec.{eqb}
use borrow.Author.Tests.{ne_eqb, eq-eqb, eqb-true}
use Rattle.mps.specs.Words.{byte, among, twice, keep, rising, below}
use Rattle.laws.proofs.Tests.{whether, contrary, eqb_comm, or_parts, or_swap, or_four}
use Rattle.laws.proofs.Lists.{among_none, among_first, among_rest, among_cases, at_among, keep_in, keep_out, keep_nothing}
use Rattle.laws.proofs.Rising.{length_rising, keep_rising, keep_more}

-- ---- A test and its contrary

pub keep_both : {A : Type 0} (p : A → Bool) (xs : List A)
    → length (keep p xs) + length (keep (λ (x : A). not (p x)) xs) ≡ length xs
unfolding keep
keep_both p [] = refl
keep_both p (x ∷ xs) =
    whether (p x)
    (λ e. rw (e, keep) (omega (arith, keep_both p xs)))
    (λ e. rw (e, keep) (omega (arith, keep_both p xs)))

-- ---- Two lists, one behind the other

pub among_append : (x : ℕ) (a b : List ℕ) → among x (a ++ b) ≡ (among x a || among x b)
unfolding among
among_append x [] b = refl
among_append x (y ∷ a) b = rw (among_append x a b) (sym (or_assoc (eqb x y) (among x a) (among x b)))

-- One that is among them already adds nothing.
pub among_again : (n x : ℕ) (xs : List ℕ) → among x xs ≡ true → among n (x ∷ xs) ≡ among n xs
unfolding among
among_again n x xs a = whether (eqb n x) (λ t. rw (t, eqb-true n x t, a)) (λ f. rw f)

-- A number may stand before both lists or between them.
pub among_between : (x y : ℕ) (a b : List ℕ) → among x (a ++ (y ∷ b)) ≡ among x (y ∷ (a ++ b))
unfolding among
among_between x y [] b = refl
among_between x y (z ∷ a) b = rw (among_between x y a b) (or_swap (eqb x z) (eqb x y) (among x (a ++ b)))

pub twice_between : (y : ℕ) (a b : List ℕ) → twice (a ++ (y ∷ b)) ≡ twice (y ∷ (a ++ b))
unfolding twice among
twice_between y [] b = refl
twice_between y (z ∷ a) b =
    rw (among_between z y a b, twice_between y a b, eqb_comm z y)
    (or_four (eqb y z) (among z (a ++ b)) (among y (a ++ b)) (twice (a ++ b)))

-- ---- Numbers that are apart

-- Every number of a list is below one.
abbrev pub Below : ℕ → List ℕ → Type 0
Below n xs = (z : ℕ) → among z xs ≡ true → z < n

pub below_first : (n x : ℕ) (xs : List ℕ) → Below n (x ∷ xs) → x < n
below_first n x xs b = b x (among_first x x xs refl)

pub below_rest : (n x : ℕ) (xs : List ℕ) → Below n (x ∷ xs) → Below n xs
below_rest n x xs b z a = b z (among_rest z x xs a)

-- Of numbers that are apart no two places have one.
pub apart_places : (xs : List ℕ) → twice xs ≡ false → (i j : ℕ) → i < j → j < length xs → byte xs i ≡ byte xs j → ⊥
unfolding twice
apart_places [] d i j h k e = omega arith
apart_places (x ∷ xs) d i zero h k e = omega arith
apart_places (x ∷ xs) d zero (suc j) h k e =
    false≢true (sym (or_parts (among x xs) (twice xs) d).0 ∙ rw e (at_among xs j (omega arith)))
apart_places (x ∷ xs) d (suc i) (suc j) h k e =
    apart_places xs (or_parts (among x xs) (twice xs) d).1 i j (omega arith) (omega arith) e

-- Those of them that pass a test are apart,
pub among_kept : (p : ℕ → Bool) (x : ℕ) (xs : List ℕ) → among x (keep p xs) ≡ true → (among x xs ≡ true) × (p x ≡ true)
unfolding keep
among_kept p x [] a = absurd (among_none x a)
among_kept p x (y ∷ xs) a =
    whether (p y)
    (λ t. among_cases x y (keep p xs) (rw (keep_in p y xs t) at a)
    (λ q. (among_first x y xs q, rw q t))
    (λ b. let r = among_kept p x xs b in (among_rest x y xs r.0, r.1)))
    (λ f. let r = among_kept p x xs (rw (keep_out p y xs f) at a) in (among_rest x y xs r.0, r.1))

pub apart_kept : (p : ℕ → Bool) (xs : List ℕ) → twice xs ≡ false → twice (keep p xs) ≡ false
unfolding keep twice
apart_kept p [] d = refl
apart_kept p (x ∷ xs) d =
    let h = or_parts (among x xs) (twice xs) d in
    whether (p x)
    (λ t. rw (keep_in p x xs t) (rw (contrary _ _ (λ a. (among_kept p x xs a).0) h.0) (apart_kept p xs h.1)))
    (λ f. rw (keep_out p x xs f) (apart_kept p xs h.1))

-- and so are two lists of such that have no number in common.
pub apart_append : (a b : List ℕ) → twice a ≡ false → twice b ≡ false → ((z : ℕ) → among z b ≡ true → among z a ≡ false)
    → twice (a ++ b) ≡ false
unfolding twice among
apart_append [] b d e f = e
apart_append (x ∷ a) b d e f =
    let h = or_parts (among x a) (twice a) d in
    let none : among x b ≡ false =
    whether (among x b) (λ t. absurd (false≢true (sym (f x t) ∙ among_first x x a refl))) (λ g. g) in
    rw (among_append x a b, h.0, none)
    (apart_append a b h.1 e (λ z t. (or_parts (eqb z x) (among z a) (f z t)).1))

-- And back: where two lists, one behind the other, are apart, so is the second, and none of it is among the first.
pub apart_parts : (a b : List ℕ) → twice (a ++ b) ≡ false → (twice b ≡ false) × ((z : ℕ) → among z b ≡ true → among z a ≡ false)
unfolding twice among
apart_parts [] b d = (d, λ z h. refl)
apart_parts (x ∷ a) b d =
    let h = or_parts (among x (a ++ b)) (twice (a ++ b)) d in
    let r = apart_parts a b h.1 in
    let none = (or_parts (among x a) (among x b) (sym (among_append x a b) ∙ h.0)).1 in
    let other : (z : ℕ) → among z b ≡ true → eqb z x ≡ false =
    λ z t. ne_eqb z x (λ q. false≢true (sym none ∙ rw q at t)) in
    (r.0, λ z t. rw (other z t) (r.1 z t))

-- Of a range they are as many as there are of them.
pub apart_count : (n : ℕ) (xs : List ℕ) → twice xs ≡ false → Below n xs
    → length (keep (λ (y : ℕ). among y xs) (below n)) ≡ length xs
unfolding twice among
apart_count n [] d b = ap length (keep_nothing (below n))
apart_count n (x ∷ xs) d b =
    let p = or_parts (among x xs) (twice xs) d in
    let rest = apart_count n xs p.1 (below_rest n x xs b) in
    let more =
    keep_more (λ (y : ℕ). among y xs) (λ (y : ℕ). among y (x ∷ xs)) x (λ y. refl) n 0 (omega arith)
    (omega (arith, below_first n x xs b)) p.0 in
    omega (arith, rest, more)

-- So the others of the range are the rest of it,
pub apart_others : (n : ℕ) (xs : List ℕ) → twice xs ≡ false → Below n xs
    → length (keep (λ (y : ℕ). not (among y xs)) (below n)) + length xs ≡ n
apart_others n xs d b =
    omega (arith, keep_both (λ (y : ℕ). among y xs) (below n), apart_count n xs d b, length_rising n 0)

-- and they are no more than the range has.
pub apart_below : (n : ℕ) (xs : List ℕ) → twice xs ≡ false → Below n xs → length xs ≤ n
apart_below n xs d b = omega (arith, apart_others n xs d b)

-- ---- The lowest of a range, taken out of it

module _ (p q : ℕ → Bool) (x : ℕ) (but : (y : ℕ) → q y ≡ (not (eqb y x) && p y)) where
  -- The rest is what passes and is not it.
  pub keep_behind : (xs : List ℕ) (n k : ℕ) → keep p (rising n k) ≡ x ∷ xs → keep q (rising n k) ≡ xs
  unfolding rising keep
  keep_behind xs zero k e = absurd (nil≢cons e)
  keep_behind xs (suc n) k e =
      let rest = rising n (suc k) in
      whether (p k)
      (λ t.
      let first = rw (keep_in p k rest t) at e in
      let same : k ≡ x = head-eq_of_cons-eq first in
      let here : q k ≡ false = but k ∙ rw (eq-eqb k x same) in
      let others = keep_rising q p n (suc k) (λ y a b. but y ∙ rw (ne_eqb y x (λ z. omega (arith, same, z, a)))) in
      keep_out q k rest here ∙ others ∙ tail-eq_of_cons-eq first)
      (λ f.
      let here : q k ≡ false = but k ∙ rw f (and-false (not (eqb k x))) in
      keep_out q k rest here ∙ keep_behind xs n (suc k) (rw (keep_out p k rest f) at e))
