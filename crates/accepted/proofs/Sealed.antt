-- Laws of `sealed`, a table with its base checksum: what stays, and the sum. Assumes nothing.
use Prim.Native.Nat.{ℕ, ◌<◌, ◌≤◌}
use mathlib.Core.Path.{◌≡◌, refl, sym, ◌∙◌}
use mathlib.Core.List.{List}
use native.Mathlib.Omega.{arith}
use native.Mathlib.Nat.{add-zero}
use lib.ListN.{length, set, take, drop, length-set}
use lib.Seq.{take-set-le, take-set-lt, drop-set-lt, get_or-set_other, length-take-le}
use Rattle.mps.specs.Words.{byte, part}
use Rattle.mps.specs.Sums.{sum256, to_store}
use Rattle.mps.specs.Numbers.{le}
use Rattle.mps.specs.Layout.{checksum_at, base_length, base_bytes}
use Rattle.mps.specs.Edits.{sealed}
use Rattle.laws.proofs.Small.{Bytes, bytes_set}
use Rattle.sums.proofs.Laws.{stored_sum}
use Rattle.numbers.proofs.Laws.{le_take, le_drop}

-- Whatever byte is stored as the checksum, the length of the base stays.
pub base_set : (t : List ℕ) (x : ℕ) → base_length (set t checksum_at x) ≡ base_length t
base_set t x =
    rw (← le_take 2 checksum_at (set t checksum_at x) 4 (omega arith), take-set-le checksum_at t checksum_at x (omega arith))
    (le_take 2 checksum_at t 4 (omega arith))

module _ (t : List ℕ) where
  pub sealed_length : length (sealed t) ≡ length t
  unfolding sealed
  sealed_length = length-set t checksum_at _

  -- Every byte but the checksum stays.
  pub sealed_byte : (i : ℕ) → (i ≡ checksum_at → ⊥) → byte (sealed t) i ≡ byte t i
  unfolding sealed
  sealed_byte i n = get_or-set_other t checksum_at i _ 0 n

  pub sealed_take : (n : ℕ) → n ≤ checksum_at → take n (sealed t) ≡ take n t
  unfolding sealed
  sealed_take n h = take-set-le n t checksum_at _ h

  pub sealed_drop : (n : ℕ) → checksum_at < n → drop n (sealed t) ≡ drop n t
  unfolding sealed
  sealed_drop n h = drop-set-lt n t checksum_at _ h

  pub sealed_part : (m n : ℕ) → checksum_at < m → part m n (sealed t) ≡ part m n t
  sealed_part m n h = rw (sealed_drop m h)

  pub sealed_le : (k i : ℕ) → checksum_at < i → le k (sealed t) i ≡ le k t i
  sealed_le k i h =
      let e = rw add-zero at (le_drop k i (sealed t) 0) in
      let f = rw add-zero at (le_drop k i t 0) in
      sym e ∙ rw (sealed_drop i h) f

  pub sealed_base : base_length (sealed t) ≡ base_length t
  unfolding sealed
  sealed_base = base_set t _

  -- The base adds to 0.
  pub sealed_sum : checksum_at < base_length t → base_length t ≤ length t → sum256 (base_bytes (sealed t)) ≡ 0
  unfolding sealed
  sealed_sum h i =
      let n = base_length t in
      let x = sum256 (set (take n t) checksum_at 0) in
      rw (base_set t 0, take-set-lt n t checksum_at 0 h, base_set t (to_store x), take-set-lt n t checksum_at (to_store x) h)
      (stored_sum (take n t) checksum_at x (omega (arith, h, length-take-le n t i)) refl)

  pub sealed_bytes : Bytes t → Bytes (sealed t)
  unfolding sealed to_store
  sealed_bytes b = bytes_set t checksum_at _ b (omega arith)
