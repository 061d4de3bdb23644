-- A row of a book of layout 1, as the code has it: where it begins, and its fields.
use Rattle.std.specs.Prelude.{ℕ, List, cond, eqb, Option, Some, None}
use Rattle.mps.specs.Layout.{machine_at, edition_at, body_start, body_size}
use Rattle.mps.specs.Book.{layout1}
use Rattle.pages.specs.Pages.{found_in}
use Rattle.rows.specs.declared.Row.{Row}

-- That of the row that begins at a place.
abbrev pub fields_at : List ℕ → ℕ → Row
fields_at s at =
    record { at = at; machine = machine_at s at; edition = edition_at s at; start = body_start 2 s at; size = body_size 2 s at }

-- That of an edition; none where it has no row.
unfoldable pub found_row : ℕ → ℕ → List ℕ → Option Row
found_row machine edition s =
    let at = found_in layout1 machine edition s in
    cond (eqb at 0) None (Some (fields_at s at))

-- Where a row that may have been found begins, 0 where there is none.
abbrev pub place_of : Option Row → ℕ
place_of None = 0
place_of (Some row) = row.at
