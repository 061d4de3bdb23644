-- A word of a line and the byte behind it. Document 01, "The bench board": "each line ended by byte 10".
use Rattle.std.specs.Prelude.{ℕ, List, [], ◌∷◌, ◌++◌}

-- A space between two words, byte 10 at the end of the line.
unfoldable pub ended : List ℕ → ℕ → List ℕ
ended word last = word ++ (last ∷ [])
