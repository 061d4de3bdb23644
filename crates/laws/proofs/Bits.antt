-- Laws of `bit`. Assumes nothing.
use Prim.Native.Nat.{ℕ, zero, suc, ◌/◌, ◌%◌, ◌^◌, ◌<◌}
use mathlib.Core.Path.{◌≡◌, refl, sym, ◌∙◌}
use mathlib.Core.Bool.{false, ◌||◌}
use native.Mathlib.Omega.{arith}
use native.Mathlib.Nat.{pow-suc, pow-succ', div-one, zero-div, div-div-eq-div-mul}
use lib.Bits.{bit_or, or_shr, or_mod, or_zero_l}
use lib.Dec.{eqb, eqb-zero-suc, eqb-suc-zero, eqb-suc-suc}
use Rattle.mps.specs.Words.{bit}

pub bit_none : (k : ℕ) → bit k 0 ≡ false
unfolding bit
bit_none k = rw (zero-div (2 ^ k))

pub bit_half : (k n : ℕ) → bit (suc k) n ≡ bit k (n / 2)
unfolding bit
bit_half k n = rw (pow-succ', ← div-div-eq-div-mul n 2 (2 ^ k))

pub bit_power : (j k : ℕ) → bit j (2 ^ k) ≡ eqb j k
unfolding bit
bit_power zero zero = refl
bit_power zero (suc k) =
    let even : 2 ^ suc k / 1 % 2 ≡ 0 = rw (div-one, pow-suc) (omega arith) in
    rw (even, eqb-zero-suc k)
bit_power (suc j) zero = bit_half j 1 ∙ bit_none j ∙ sym (eqb-suc-zero j)
bit_power (suc j) (suc k) =
    let half : 2 ^ suc k / 2 ≡ 2 ^ k = rw pow-suc (omega arith) in
    bit_half j (2 ^ suc k) ∙ rw (half, eqb-suc-suc j k) (bit_power j k)

pub bit_or_lem : (k a b : ℕ) → bit k (bit_or a b) ≡ (bit k a || bit k b)
unfolding bit
bit_or_lem k a b =
    let p = a / 2 ^ k in
    let q = b / 2 ^ k in
    rw (or_shr a b k, or_mod p q 1) (low (p % 2) (q % 2) (omega arith) (omega arith))
  where
    low : (p q : ℕ) → p < 2 → q < 2 → eqb (bit_or p q) 1 ≡ (eqb p 1 || eqb q 1)
    low zero q h i = rw (or_zero_l q)
    low (suc zero) zero h i = refl
    low (suc zero) (suc zero) h i = refl
    low (suc zero) (suc (suc q)) h i = absurd (omega (arith, i))
    low (suc (suc p)) q h i = absurd (omega (arith, h))
