-- The header fields of a table are told by the bytes between the checksum and the header's end. Assumes nothing.
use Prim.Native.Nat.{ℕ, ◌+◌, ◌≤◌}
use mathlib.Core.Path.{◌≡◌, ap, sym, ◌∙◌}
use mathlib.Core.List.{List}
use native.Mathlib.Omega.{arith}
use Rattle.mps.specs.Words.{byte, part}
use Rattle.mps.specs.Numbers.{le}
use Rattle.mps.specs.Layout.{header_size}
use Rattle.mps.specs.Writing.{fields_of}
use Rattle.laws.proofs.Parts.{row_part}
use Rattle.laws.proofs.Rows.{row_byte}
use Rattle.numbers.proofs.Laws.{le_row}

module _ (t u : List ℕ) (same : part 8 header_size u ≡ part 8 header_size t) where
  number : (k at : ℕ) → at + k ≤ 36 → le k u (8 + at) ≡ le k t (8 + at)
  number k at h = sym (le_row k 36 u 8 at h) ∙ ap (λ (s : List ℕ). le k s at) same ∙ le_row k 36 t 8 at h

  texts : (i j : ℕ) → j ≤ 36 → part (8 + i) (8 + j) u ≡ part (8 + i) (8 + j) t
  texts i j h = sym (row_part 36 u 8 i j h) ∙ ap (part i j) same ∙ row_part 36 t 8 i j h

  pub fields_by : fields_of u ≡ fields_of t
  unfolding fields_of
  fields_by =
      let reserved : byte u 43 ≡ byte t 43 = sym (row_byte 36 u 8 35 (omega arith)) ∙ ap (λ (s : List ℕ). byte s 35) same ∙ row_byte 36 t 8 35 (omega arith) in
      rw (
        texts 0 8 (omega arith),
        texts 8 20 (omega arith),
        number 4 20 (omega arith),
        number 2 24 (omega arith),
        number 4 28 (omega arith),
        reserved,
      )
