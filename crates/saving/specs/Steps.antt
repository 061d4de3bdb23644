-- What saving tests, and what it then stores in a room, step by step, of layout 1. Neither 28 and 29 nor the row look at a
-- body's bytes, but at how many there are: zeros stand for them.
use Rattle.std.specs.Prelude.{ℕ, ◌+◌, List, [], ◌∷◌, replicate}
use Rattle.std.proofs.lemmas.List.Edits.{sets}
use Rattle.mps.specs.Words.{part}
use Rattle.mps.specs.Numbers.{bytes}
use Rattle.mps.specs.Layout.{book_head, book_row}
use Rattle.mps.specs.Refusals.{refusal}
use Rattle.mps.specs.Book.{layout1, bodies_at, rows_from}
use Rattle.mps.specs.Saving.{addition_rules}
use Rattle.pages.specs.Pages.{moved_rows}

-- 28 and 29, for a body of so many bytes as the next edition of a machine.
unfoldable pub addition_number : List ℕ → ℕ → ℕ → ℕ → ℕ
addition_number s machine began more =
    refusal (addition_rules layout1 s (record { machine = machine; began = began; body = replicate more 0 }))

-- The row of a body of so many bytes that begins at `start`.
unfoldable pub row_bytes : ℕ → ℕ → ℕ → ℕ → List ℕ
row_bytes machine edition start more =
    rows_from 2 start (record { machine = machine; edition = edition; body = replicate more 0 } ∷ [])

-- The bodies of so many rows, moved up by one row.
unfoldable pub raised : List ℕ → ℕ → ℕ → List ℕ
raised s rows size = sets s (bodies_at 2 rows + book_row 2) (part (bodies_at 2 rows) size s)

-- And the offsets of the rows with them.
unfoldable pub way_made : List ℕ → ℕ → ℕ → List ℕ
way_made s rows size = sets (raised s rows size) book_head (moved_rows 2 (raised s rows size) book_head rows)

-- Then the new row behind the others, and the number of rows.
unfoldable pub grown_room : List ℕ → ℕ → ℕ → ℕ → ℕ → ℕ → List ℕ
grown_room s rows size machine edition more =
    sets
    (sets (way_made s rows size) (bodies_at 2 rows) (row_bytes machine edition (size + book_row 2) more))
    1
    (bytes 2 (rows + 1))
