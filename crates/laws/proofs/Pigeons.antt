-- The pigeonhole: numbers that are all among fewer ones are not all different. Assumes nothing.
use Prim.Native.Nat.{ℕ, suc, ◌≤◌, ◌<◌}
use mathlib.Core.Path.{◌≡◌, refl, sym, ap, ◌∙◌}
use mathlib.Core.Bool.{true, false, true≢false}
use mathlib.Core.List.{List, [], ◌∷◌}
use native.Mathlib.Omega.{arith}
use lib.ListN.{length}
use lib.Dec.{ltb}
use borrow.Author.Tests.{ltb-true, ltb-false}
use Rattle.mps.specs.Words.{among, twice}
use Rattle.laws.proofs.Tests.{whether}
use Rattle.laws.proofs.Small.{Bytes}
use Rattle.laws.proofs.Lists.{among_none, among_first, among_rest, among_cases, Within}
use Rattle.laws.proofs.Counting.{apart_below}

-- A number can be taken out of a list that it is among, and the others stay.
taken_out : (x : ℕ) (ys : List ℕ) → among x ys ≡ true
    → (zs : List ℕ) × (length ys ≡ suc (length zs)) × ((z : ℕ) → (z ≡ x → ⊥) → among z ys ≡ true → among z zs ≡ true)
taken_out x [] a = absurd (among_none x a)
taken_out x (y ∷ ys) a =
    among_cases x y ys a
    (λ q. (ys, refl, λ z d b. among_cases z y ys b (λ r. absurd (d (r ∙ sym q))) (λ c. c)))
    (λ k. let t = taken_out x ys k in
    (y ∷ t.0, ap suc t.1, λ z d b. among_cases z y ys b (among_first z y t.0) (λ c. among_rest z y t.0 (t.2 z d c))))

pub pigeonhole : (xs ys : List ℕ) → Within xs ys → length ys < length xs → twice xs ≡ true
unfolding twice
pigeonhole [] ys f h = absurd (omega arith)
pigeonhole (x ∷ xs) ys f h = whether (among x xs) (λ e. rw e) λ e.
    let t = taken_out x ys (f x (among_first x x xs refl)) in
    rw e (pigeonhole xs t.0
    (λ z a. t.2 z (λ q. true≢false (sym a ∙ ap (λ (k : ℕ). among k xs) q ∙ e)) (f z (among_rest z x xs a)))
    (omega arith))

-- So different ones are no more than those that they are among.
pub apart_most : (xs ys : List ℕ) → Within xs ys → twice xs ≡ false → length xs ≤ length ys
apart_most xs ys f d =
    whether (ltb (length ys) (length xs))
    (λ q. absurd (true≢false (sym (pigeonhole xs ys f (ltb-true (length ys) (length xs) q)) ∙ d)))
    (λ q. ltb-false (length ys) (length xs) q)

-- ---- Bytes

pub among_byte : (xs : List ℕ) → Bytes xs → (x : ℕ) → among x xs ≡ true → x < 256
among_byte [] b x a = absurd (among_none x a)
among_byte (y ∷ ys) b x a = among_cases x y ys a (λ q. rw q (b 0)) (among_byte ys (λ i. b (suc i)) x)

-- There are no more than 256 different bytes.
pub bytes_most : (xs : List ℕ) → Bytes xs → twice xs ≡ false → length xs ≤ 256
bytes_most xs b d = apart_below 256 xs d (among_byte xs b)
