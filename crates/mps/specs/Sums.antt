-- Checksums. Document 01, "The floating pointer" and "The table"; MPS 4.1 and 4.2, CHECKSUM.
use Rattle.std.specs.Prelude.{ℕ, ◌+◌, ◌-◌, ◌%◌, List, [], ◌∷◌}

-- All the bytes of a list, added.
unfoldable pub total : List ℕ → ℕ
total [] = 0
total (x ∷ xs) = x + total xs

-- "The bytes add to 0, sums taken modulo 256": this is the sum.
unfoldable pub sum256 : List ℕ → ℕ
sum256 s = total s % 256

-- The byte that brings a sum to 0 modulo 256.
unfoldable pub to_store : ℕ → ℕ
to_store x = (256 - x % 256) % 256
