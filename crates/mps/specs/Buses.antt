-- The bus names. Document 01, "The table": "MPS Table 4-8 decides. They stand in one constant table."
use Rattle.std.specs.Prelude.{ℕ, Bool, List, [], ◌∷◌}
use Rattle.mps.specs.Words.{text, same, any}

-- MPS Table 4-8, in its order: "6-character ASCII (blank-filled) strings" (Table 4-7).
unfoldable pub bus_names : List (List ℕ)
unfolding text
bus_names =
    text "CBUS  "
    ∷ text "CBUSII"
    ∷ text "EISA  "
    ∷ text "FUTURE"
    ∷ text "INTERN"
    ∷ text "ISA   "
    ∷ text "MBI   "
    ∷ text "MBII  "
    ∷ text "MCA   "
    ∷ text "MPI   "
    ∷ text "MPSA  "
    ∷ text "NUBUS "
    ∷ text "PCI   "
    ∷ text "PCMCIA"
    ∷ text "TC    "
    ∷ text "VL    "
    ∷ text "VME   "
    ∷ text "XPRESS"
    ∷ []

-- Whether six bytes are one of the names.
unfoldable pub is_bus_name : List ℕ → Bool
is_bus_name name = any (same name) bus_names
