-- The bits of a word that are set, from the lowest on. Assumes nothing.
use Prim.Native.Nat.{ℕ, zero, suc, ◌+◌, ◌-◌, ◌*◌, ◌/◌, ◌%◌, ◌^◌, ◌<◌}
use mathlib.Core.Path.{◌≡◌, refl, sym, ap, ◌∙◌}
use mathlib.Core.Bool.{Bool, not}
use mathlib.Core.List.{[], ◌∷◌}
use native.Mathlib.Omega.{arith}
use native.Mathlib.Nat.{pow-suc, div-one, add-zero, add-suc, suc-add, min-zero, zero-min}
use lib.Bits.{bit_and, and_step, and_self}
use lib.Count.{count_trailing_zeros, ones, ones_step}
use lib.Dec.{eqb}
use lib.ListN.{length}
use borrow.Author.Tests.{eqb-true, eqb-false}
use Rattle.mps.specs.Words.{bit, keep, rising}
use Rattle.laws.proofs.Tests.{whether}
use Rattle.laws.proofs.Bits.{bit_half}
use Rattle.sets.specs.Sets.{set_bits}

-- ---- A word's bits are those of its half, and the lowest

half_below : (d w : ℕ) → w < 2 ^ suc d → w / 2 < 2 ^ d
half_below d w h = omega (arith, rw (pow-suc 2 d) at h)

module _ (d n w : ℕ) where
  bits_odd : w % 2 ≡ 1 → set_bits (suc d) n w ≡ n ∷ set_bits d (suc n) (w / 2)
  unfolding set_bits
  bits_odd e = rw e

  bits_even : w % 2 ≡ 0 → set_bits (suc d) n w ≡ set_bits d (suc n) (w / 2)
  unfolding set_bits
  bits_even e = rw e

module _ (d w : ℕ) where
  zeros_odd : w % 2 ≡ 1 → count_trailing_zeros (suc d) w ≡ 0
  unfolding count_trailing_zeros
  zeros_odd e = rw e

  zeros_even : w % 2 ≡ 0 → count_trailing_zeros (suc d) w ≡ suc (count_trailing_zeros d (w / 2))
  unfolding count_trailing_zeros
  zeros_even e = rw e

parity : {C : Type 0} (w : ℕ) → (w % 2 ≡ 1 → C) → (w % 2 ≡ 0 → C) → C
parity w f g = whether (eqb (w % 2) 1) (λ t. f (eqb-true (w % 2) 1 t)) (λ t. g (omega (arith, eqb-false (w % 2) 1 t)))

-- ---- The lowest bit that is set

-- It is taken out by one less: of an odd number that is the lowest, of an even one it is that of the half.
odd_out : (w : ℕ) → w % 2 ≡ 1 → bit_and w (w - 1) ≡ w / 2 * 2
odd_out w e =
    let half : (w - 1) / 2 ≡ w / 2 = omega (arith, e) in
    let even : (w - 1) % 2 ≡ 0 = omega (arith, e) in
    and_step w (w - 1) ∙ rw (half, even, and_self (w / 2), min-zero (w % 2)) (omega arith)

even_out : (w : ℕ) → (w ≡ 0 → ⊥) → w % 2 ≡ 0 → bit_and w (w - 1) ≡ bit_and (w / 2) (w / 2 - 1) * 2
even_out w some e =
    let half : (w - 1) / 2 ≡ w / 2 - 1 = omega (arith, e, some) in
    and_step w (w - 1) ∙ rw (half, e, zero-min ((w - 1) % 2)) (omega arith)

-- It is one of the bits, it comes first, and the others follow.
pub bits_lowest :
    (d n w : ℕ) → (w ≡ 0 → ⊥) → w < 2 ^ d
    → (count_trailing_zeros d w < d) × (set_bits d n w ≡ (n + count_trailing_zeros d w) ∷ set_bits d n (bit_and w (w - 1)))
bits_lowest zero n w some h = absurd (some (omega (arith, h)))
bits_lowest (suc d) n w some h =
    parity w
    (λ e. let out = odd_out w e in
    let even : w / 2 * 2 % 2 ≡ 0 = omega arith in
    let half : w / 2 * 2 / 2 ≡ w / 2 = omega arith in
    (rw (zeros_odd d w e) (omega arith), rw (bits_odd d n w e, zeros_odd d w e, add-zero n, out, bits_even d n (w / 2 * 2) even, half)))
    (λ e. let out = even_out w some e in
    let left = bit_and (w / 2) (w / 2 - 1) in
    let even : left * 2 % 2 ≡ 0 = omega arith in
    let half : left * 2 / 2 ≡ left = omega arith in
    let rest = bits_lowest d (suc n) (w / 2) (λ k. some (omega (arith, k, e))) (half_below d w h) in (
      rw (zeros_even d w e) (omega (arith, rest.0)),
      rw (bits_even d n w e, zeros_even d w e, out, bits_even d n (left * 2) even, half)
          (rest.1 ∙ rw (suc-add n (count_trailing_zeros d (w / 2)), add-suc n (count_trailing_zeros d (w / 2)))),
    ))

-- ---- How many are set

ones_none : ones 0 ≡ 0
unfolding ones
ones_none = refl

pub bits_count : (d n w : ℕ) → w < 2 ^ d → length (set_bits d n w) ≡ ones w
unfolding set_bits
bits_count zero n w h = let none : w ≡ 0 = omega (arith, h) in rw none (sym ones_none)
bits_count (suc d) n w h =
    let rest = bits_count d (suc n) (w / 2) (half_below d w h) in
    parity w
    (λ e. omega (arith, ap length (bits_odd d n w e), rest, ones_step w, e))
    (λ e. omega (arith, ap length (bits_even d n w e), rest, ones_step w, e))

pub bits_none : (d n w : ℕ) → w ≡ 0 → set_bits d n w ≡ []
unfolding set_bits
bits_none zero n w e = refl
bits_none (suc d) n w e = rw e (bits_none d (suc n) 0 refl)

-- ---- By a test

-- The numbers from n on that pass a test, which asks the bits one after the other.
pub bits_keep : (p : ℕ → Bool) (d n w : ℕ) → ((j : ℕ) → j < d → p (n + j) ≡ bit j w) → keep p (rising d n) ≡ set_bits d n w
unfolding keep rising set_bits bit
bits_keep p zero n w h = refl
bits_keep p (suc d) n w h =
    rw (own, bits_keep p d (suc n) (w / 2) (λ j l. rw (suc-add n j, ← add-suc n j) (h (suc j) (omega arith) ∙ bit_half j w)))
  where
    own : p n ≡ eqb (w % 2) 1
    own = rw (add-zero n, div-one w) at (h 0 (omega arith))

-- ---- The complement

bit_low : (w : ℕ) → bit 0 w ≡ eqb (w % 2) 1
unfolding bit
bit_low w = rw (div-one w)

-- A bit of a word's complement is set where that of the word is not.
pub bit_not : (d j w : ℕ) → w < 2 ^ d → j < d → bit j (2 ^ d - 1 - w) ≡ not (bit j w)
bit_not zero j w h l = absurd (omega (arith, l))
bit_not (suc d) zero w h l =
    let odd : (2 ^ suc d - 1 - w) % 2 ≡ 1 - w % 2 = rw (pow-suc 2 d) (omega (arith, rw (pow-suc 2 d) at h)) in
    bit_low (2 ^ suc d - 1 - w) ∙ rw odd (parity w (λ e. rw e) (λ e. rw e)) ∙ ap not (sym (bit_low w))
bit_not (suc d) (suc j) w h l =
    let half : (2 ^ suc d - 1 - w) / 2 ≡ 2 ^ d - 1 - w / 2 = rw (pow-suc 2 d) (omega (arith, rw (pow-suc 2 d) at h)) in
    bit_half j (2 ^ suc d - 1 - w) ∙ rw (half, bit_half j w) (bit_not d j (w / 2) (half_below d w h) (omega (arith, l)))
