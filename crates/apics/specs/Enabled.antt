-- The IDs of the enabled APICs, processors or I/O APICs, of a part of a table: what the queries go over.
use Rattle.std.specs.Prelude.{ℕ, List}
use Rattle.mps.specs.Words.{keep, each}
use Rattle.mps.specs.Layout.{id_of, enabled}
use Rattle.mps.specs.Sections.{rows}

-- Of entries of n bytes each, one behind the other.
unfoldable pub enabled_in : ℕ → List ℕ → List ℕ
enabled_in n s = each id_of (keep enabled (rows n s))
