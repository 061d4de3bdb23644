-- Laws of numbers in a room: how their digits are stored, and the byte behind them. Assumes nothing.
use Prim.Native.Nat.{ℕ, zero, suc, ◌+◌, ◌-◌, ◌/◌, ◌%◌, ◌≤◌, ◌<◌}
use mathlib.Core.Path.{◌≡◌, refl, ap, sym, ◌∙◌}
use mathlib.Core.List.{List, [], ◌∷◌}
use native.Mathlib.Omega.{arith}
use lib.ListN.{length, set}
use lib.Seq.{sets}
use borrow.Author.Tests.{lt-ltb, le-ltb}
use Rattle.mps.specs.Listing.{digits, decimal_digit, hex_digit, decimal_width, decimal, hex}
use Rattle.laws.proofs.Stores.{sets_append, sets_swap}
use Rattle.text.specs.Text.{ended}
use Rattle.text.proofs.Laws.{ended_length, length_digits}

-- ---- Digits, stored from the last to the first

module _ (b : ℕ) (f : ℕ → ℕ) where
  digits_suc : (m n at : ℕ) (t : List ℕ)
      → sets t at (digits b f (suc m) n) ≡ sets (set t (at + m) (f (n % b))) at (digits b f m (n / b))
  unfolding digits
  digits_suc m n at t =
      let d = digits b f m (n / b) in
      let l = length_digits b f m (n / b) in
      sets_append t at d (f (n % b) ∷ [])
      ∙ rw l (sym (sets_swap t at d (at + m) (f (n % b) ∷ []) (omega (arith, l))))

  pub digits_next : (m n at : ℕ) (t : List ℕ) → 0 < m
      → sets t at (digits b f m n) ≡ sets (set t (at + (m - 1)) (f (n % b))) at (digits b f (m - 1) (n / b))
  digits_next zero n at t h = absurd (omega arith)
  digits_next (suc m) n at t h =
      let e : suc m - 1 ≡ m = omega arith in
      rw e (digits_suc m n at t)

  pub digits_done : (m n at : ℕ) (t : List ℕ) → m ≤ 0 → sets t at (digits b f m n) ≡ t
  unfolding digits
  digits_done zero n at t h = refl
  digits_done (suc m) n at t h = absurd (omega arith)

-- The digits of a decimal number are the first of the hexadecimal ones.
digit_small : (d : ℕ) → d < 10 → hex_digit d ≡ decimal_digit d
unfolding hex_digit decimal_digit
digit_small d h = rw (lt-ltb d 10 h)

decimal_digits : (k n : ℕ) → digits 10 hex_digit k n ≡ digits 10 decimal_digit k n
unfolding digits
decimal_digits zero n = refl
decimal_digits (suc k) n = rw (decimal_digits k (n / 10), digit_small (n % 10) (omega arith))

-- ---- Numbers and the byte behind them

pub decimal_is : (k n : ℕ) → k ≡ decimal_width n → digits 10 hex_digit k n ≡ decimal n
unfolding decimal
decimal_is k n e = decimal_digits k n ∙ rw e

pub hex_is : (k n : ℕ) → digits 16 hex_digit k n ≡ hex k n
unfolding hex
hex_is k n = refl

module _ (b : ℕ) (f : ℕ → ℕ) (k n : ℕ) (w : List ℕ) (e : digits b f k n ≡ w) (t : List ℕ) (at last : ℕ) where
  pub number_length : k + 1 ≡ length (ended w last)
  number_length = ended_length w k last (sym (length_digits b f k n) ∙ ap length e)

  number_stored : set (sets t at w) (at + k) last ≡ sets t at (ended w last)
  unfolding ended
  number_stored =
      let l : length w ≡ k = sym (ap length e) ∙ length_digits b f k n in
      sym (rw l at (sets_append t at w (last ∷ [])))

  pub number_fits : (u : List ℕ) → u ≡ sets t at (digits b f k n)
      → (k + 1 ≡ length (ended w last)) × (set u (at + k) last ≡ sets t at (ended w last))
  number_fits u p = (number_length, rw (p, e) number_stored)

-- ---- Numbers of up to three digits, written out

module _ (n last : ℕ) where
  one_digit : n < 10 → ended (decimal n) last ≡ (48 + n) ∷ last ∷ []
  unfolding ended decimal decimal_width digits decimal_digit
  one_digit h =
      let d : n % 10 ≡ n = omega arith in
      simp (lt-ltb n 10 h, d)

  two_digits : 10 ≤ n → n < 100 → ended (decimal n) last ≡ (48 + n / 10) ∷ (48 + n % 10) ∷ last ∷ []
  unfolding ended decimal decimal_width digits decimal_digit
  two_digits l h =
      let d : n / 10 % 10 ≡ n / 10 = omega arith in
      simp (le-ltb n 10 l, lt-ltb n 100 h, d)

  three_digits : 100 ≤ n → n < 1000 → ended (decimal n) last ≡ (48 + n / 100) ∷ (48 + n / 10 % 10) ∷ (48 + n % 10) ∷ last ∷ []
  unfolding ended decimal decimal_width digits decimal_digit
  three_digits l h =
      let d : n / 10 / 10 % 10 ≡ n / 100 = omega arith in
      simp (le-ltb n 10 (omega arith), le-ltb n 100 l, lt-ltb n 1000 h, d)

  -- .. and stored one behind the other.
  module _ (t : List ℕ) (at : ℕ) where
    pub stored_1 : n < 10 → (2 ≡ length (ended (decimal n) last)) × (set (set t at (48 + n)) (at + 1) last ≡ sets t at (ended (decimal n) last))
    stored_1 h = let a : at + 1 ≡ suc at = omega arith in rw (one_digit h, a) (refl, refl)

    pub stored_2 : 10 ≤ n → n < 100 → (3 ≡ length (ended (decimal n) last))
        × (set (set (set t at (48 + n / 10)) (at + 1) (48 + n % 10)) (at + 2) last ≡ sets t at (ended (decimal n) last))
    stored_2 l h =
        let a : at + 1 ≡ suc at = omega arith in
        let b : at + 2 ≡ suc (suc at) = omega arith in
        rw (two_digits l h, a, b) (refl, refl)

    pub stored_3 : 100 ≤ n → n < 1000 → (4 ≡ length (ended (decimal n) last))
        × (set (set (set (set t at (48 + n / 100)) (at + 1) (48 + n / 10 % 10)) (at + 2) (48 + n % 10)) (at + 3) last ≡ sets t at (ended (decimal n) last))
    stored_3 l h =
        let a : at + 1 ≡ suc at = omega arith in
        let b : at + 2 ≡ suc (suc at) = omega arith in
        let c : at + 3 ≡ suc (suc (suc at)) = omega arith in
        rw (three_digits l h, a, b, c) (refl, refl)
