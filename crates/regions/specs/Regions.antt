-- The regions of a dump as the code reads them: a row, and eight records by value, the regions of the dump first.
use Rattle.std.specs.Prelude.{ℕ, suc, cond, List, [], ◌∷◌, ◌++◌, take, replicate}
use Rattle.mps.specs.Words.{keep, head}
use Rattle.mps.specs.Layout.{regions_most, row_kind, row_base, row_size}
use Rattle.mps.specs.Dump.{of_kind, no_region, holds}
use Rattle.mps.specs.declared.Region.{Region}

-- A record that is not filled. It holds no address, and no region of a sound dump has its kind.
abbrev pub blank : Region
blank = no_region 0

-- Eight records: the first eight regions, and where there are fewer, blank ones behind them.
unfoldable pub eight : List Region → List Region
eight rs = take regions_most (rs ++ replicate regions_most blank)

-- The region of the row that bytes begin with, its body at `offset`.
unfoldable pub row_of : ℕ → List ℕ → Region
row_of offset s = record { kind = row_kind s; base = row_base s; offset = offset; size = row_size s }

-- The first region of a kind, a blank one where none is listed.
unfoldable pub first_of_kind : ℕ → List Region → Region
first_of_kind kind rs = head blank (keep (of_kind kind) rs)

-- "The list of regions is searched for the one that holds an address": the place of the first that does, or how many there
-- are.
unfoldable pub place_holding : ℕ → List Region → ℕ
place_holding address [] = 0
place_holding address (r ∷ rs) = cond (holds address r) 0 (suc (place_holding address rs))
