-- The rows of the contents, as a walk along them goes.
use Rattle.std.specs.Prelude.{ℕ, ◌/◌, List, length, leb}
use Rattle.mps.specs.Words.{only}
use Rattle.mps.specs.Layout.{row_length}
use Rattle.mps.specs.Dump.{contents_end, regions_from, regions}
use Rattle.mps.specs.declared.Region.{Region}

-- The regions of all whole rows of some bytes, the body of the first at `offset`.
unfoldable pub rows_from : ℕ → List ℕ → List Region
rows_from offset s = regions_from (length s / row_length) offset s

-- The regions of a dump, none where it ends before its rows do.
unfoldable pub listed : List ℕ → List Region
listed d = only (leb (contents_end d) (length d)) (regions d)
