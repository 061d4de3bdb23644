-- The reader that holds the lent table and its place, as it is made and as it goes on. What stands at a place, and which
-- place is behind it, is in mps's Reader. Assumes nothing.
use Rattle.std.specs.Prelude.{ℕ, List}
use Rattle.std.specs.Borrow.{Bor}
use Rattle.mps.specs.Reader.{next_place}
use Rattle.reader.specs.declared.Reader.{Reader}

abbrev pub opened : Bor (List ℕ) → ℕ → Reader
opened t place = record { table = t; place = place }

-- The same table, at the place behind the entry that stands at its own; where none stands, it stays.
abbrev pub passed : Reader → Reader
passed r = record { table = r.table; place = next_place r.table.now r.place }
