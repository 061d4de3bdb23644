-- Names as numbers: a quick way past the table, by those that most buses have, and whether a bus is of PCI.
use Rattle.std.specs.Prelude.{ℕ, Bool, List, [], ◌∷◌, eqb}
use Rattle.mps.specs.Words.{text, any}
use Rattle.mps.specs.Numbers.{le}

-- Whether a number is that of "PCI   ", in six bytes.
unfoldable pub pci_name : ℕ → Bool
pci_name n = eqb n (le 6 (text "PCI   ") 0)

unfoldable pub quick_names : List (List ℕ)
quick_names = text "PCI   " ∷ text "ISA   " ∷ []

-- Whether a number is that of one of them.
unfoldable pub quick_name : ℕ → Bool
quick_name n = any (λ (name : List ℕ). eqb n (le 6 name 0)) quick_names
