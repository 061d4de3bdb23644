-- "Multibyte numbers are little endian." Document 01, head.
use Rattle.std.specs.Prelude.{ℕ, zero, suc, ◌+◌, ◌*◌, ◌/◌, ◌%◌, List, [], ◌∷◌}
use Rattle.mps.specs.Words.{byte}

-- The number that stands in k bytes of a list from a place on.
unfoldable pub le : ℕ → List ℕ → ℕ → ℕ
le zero s at = 0
le (suc k) s at = byte s at + 256 * le k s (at + 1)

-- The lowest k bytes of a number, the lowest first.
unfoldable pub bytes : ℕ → ℕ → List ℕ
bytes zero n = []
bytes (suc k) n = n % 256 ∷ bytes k (n / 256)
