-- What a route query of a default configuration finds, read from the cells of Intel's Tables 5-2 and 5-3. Document 02, ask 6.
use Rattle.std.specs.Prelude.{ℕ, suc, List, [], ◌∷◌, ◌++◌}
use Rattle.mps.specs.Words.{same, only, joined}
use Rattle.mps.specs.Layout.{vectored, non_maskable, external}
use Rattle.mps.specs.Defaults.{Line, cell}
use Rattle.mps.specs.Defaults.Line.{INTR, IRQ, NMI, NC}

-- What a cell stands for: interrupt type, bus and IRQ. "IRQ1" is IRQ 1 of bus 0 and of type INT; "8259A INTR", of type ExtINT, and
-- NMI are no lines of a bus, and are asked for as IRQ 0 of bus 0; what is not connected is not asked for.
unfoldable pub source_of : Line → List ℕ
source_of INTR = external ∷ 0 ∷ 0 ∷ []
source_of (IRQ k) = vectored ∷ 0 ∷ k ∷ []
source_of NMI = non_maskable ∷ 0 ∷ 0 ∷ []
source_of NC = []

-- The inputs, rising from one on, whose cells in a configuration's column stand for what is asked.
unfoldable pub inputs_asked : List ℕ → ℕ → ℕ → List (List Line) → List ℕ
inputs_asked source n input [] = []
inputs_asked source n input (lines ∷ rows) =
    only (same (source_of (cell n lines)) source) (input ∷ []) ++ inputs_asked source n (suc input) rows

-- The pairs of an input with each of these APICs.
unfoldable pub pairs_at : List ℕ → ℕ → List ℕ
pairs_at ids input = joined (λ (id : ℕ). id ∷ input ∷ []) ids
