-- The rows of a history as the code writes them: each from its own fields, and not from what the rows before it come to.
use Rattle.std.specs.Prelude.{ℕ, zero, suc, ◌+◌, List, [], ◌++◌}
use Rattle.mps.specs.Numbers.{bytes}
use Rattle.mps.specs.Layout.{book_row, machine_at, edition_at, body_start, body_size}
use Rattle.mps.specs.History.{history_width}
use Rattle.rows.specs.declared.Row.{Row}

-- That of the row at a place.
unfoldable pub row_listed : ℕ → List ℕ → ℕ → List ℕ
row_listed width s at =
    bytes 2 (machine_at s at)
    ++ (bytes 2 (edition_at s at)
    ++ (bytes history_width (body_start width s at) ++ bytes history_width (body_size width s at)))

-- Those of so many rows from a place on.
unfoldable pub rows_listed : ℕ → List ℕ → ℕ → ℕ → List ℕ
rows_listed width s at zero = []
rows_listed width s at (suc n) = row_listed width s at ++ rows_listed width s (at + book_row width) n

-- That of a row of layout 1, by its fields.
unfoldable pub fields_listed : Row → List ℕ
fields_listed r = bytes 2 r.machine ++ (bytes 2 r.edition ++ (bytes history_width r.start ++ bytes history_width r.size))
