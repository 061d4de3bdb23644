-- The book of earlier tables: what it holds, its bytes, and what a good one is. Document 02, ask 3: "A book is: one byte of
-- value 1 (layout), number of rows (two bytes), then rows of machine, edition, offset and length (two bytes each), then the
-- bodies in row order, with nothing between. Offsets count from the book's start."
use Rattle.std.specs.Prelude.{ℕ, zero, suc, ◌+◌, ◌*◌, Bool, true, not, ◌&&◌, List, [], ◌∷◌, ◌++◌, length, take, ltb, leb, eqb}
use Rattle.mps.specs.Words.{same, last, keep, every, each, joined, part}
use Rattle.mps.specs.Refusals.{Rule, ◌when◌, refusal, base_number}
use Rattle.mps.specs.Numbers.{bytes}
use Rattle.mps.specs.Layout.{book_most, book_head, book_rows, book_row, machine_at, edition_at, body_start, body_size, extended_end}
use Rattle.mps.specs.Judge.{table_rules}

-- ---- What a book holds

-- "machine, edition", and the body that its offset and length tell of.
pub record Row : Type 0 where
  pub machine : ℕ
  pub edition : ℕ
  pub body : List ℕ

abbrev pub edition_of : Row → ℕ
edition_of r = r.edition

abbrev pub body_in : Row → List ℕ
body_in r = r.body

-- The rows of a machine, in their order.
unfoldable pub of_machine : ℕ → List Row → List Row
of_machine machine rows = keep (λ (r : Row). eqb r.machine machine) rows

-- The latest edition of a machine: that of its last row, 0 where it has none.
unfoldable pub latest : ℕ → List Row → ℕ
latest machine rows = last 0 (each edition_of (of_machine machine rows))

-- "A machine's editions run from 1 without a gap, rising in row order": each is one more than the machine's one before. Of
-- rows that stand behind others.
unfoldable pub editions_run : List Row → List Row → Bool
editions_run before [] = true
editions_run before (r ∷ rows) = eqb r.edition (latest r.machine before + 1) && editions_run (before ++ (r ∷ [])) rows

-- "A body must be an accepted table with no byte after it": it has "the new body's own number, or 7 if bytes follow the
-- table". The table ends where its extended entries do.
unfoldable pub body_rules : List ℕ → List Rule
body_rules b = table_rules b ++ (base_number when ltb (extended_end b) (length b) ∷ [])

unfoldable pub body_refusal : List ℕ → ℕ
body_refusal b = refusal (body_rules b)

unfoldable pub good_body : List ℕ → Bool
good_body b = eqb (body_refusal b) 0

-- ---- Its bytes

-- A layout: its byte, how many bytes an offset or a length has, and how many bytes a book has at most. What is said of books
-- is said of any layout.
pub record BookLayout : Type 0 where
  pub mark : ℕ
  pub width : ℕ
  pub most : ℕ

-- "one byte of value 1 (layout)", "(two bytes each)", "At most 32,768 bytes"
abbrev pub layout1 : BookLayout
layout1 = record { mark = 1; width = 2; most = book_most }

-- Where the bodies begin: behind so many rows.
unfoldable pub bodies_at : ℕ → ℕ → ℕ
bodies_at width count = book_head + count * book_row width

-- The rows, with the place of the first body: each body begins where the one before it ends.
unfoldable pub rows_from : ℕ → ℕ → List Row → List ℕ
rows_from width at [] = []
rows_from width at (r ∷ rows) =
    bytes 2 r.machine
    ++ (bytes 2 r.edition
    ++ (bytes width at ++ (bytes width (length r.body) ++ rows_from width (at + length r.body) rows)))

-- The book that rows make.
unfoldable pub book_of : BookLayout → List Row → List ℕ
book_of l rows =
    l.mark
    ∷ (bytes 2 (length rows)
    ++ (rows_from l.width (bodies_at l.width (length rows)) rows ++ joined body_in rows))

-- ---- What is read of any bytes

-- The row that begins at a place, with the body that it tells of.
unfoldable pub row_at : ℕ → List ℕ → ℕ → Row
row_at width s at =
    record {
      machine = machine_at s at;
      edition = edition_at s at;
      body = part (body_start width s at) (body_start width s at + body_size width s at) s;
    }

-- So many rows from a place on.
unfoldable pub rows_at : ℕ → List ℕ → ℕ → ℕ → List Row
rows_at width s at zero = []
rows_at width s at (suc n) = row_at width s at ∷ rows_at width s (at + book_row width) n

unfoldable pub rows_of : BookLayout → List ℕ → List Row
rows_of l s = rows_at l.width s book_head (book_rows s)

-- ---- A good book

-- Whether a room begins with these bytes: ".. at the start of its room; what follows isn't read."
unfoldable pub begins : List ℕ → List ℕ → Bool
begins b room = same (take (length b) room) b

-- The room begins with the book that its rows make; this has at most so many bytes; the editions run; the bodies are good.
unfoldable pub good_book : BookLayout → List ℕ → Bool
good_book l s =
    begins (book_of l (rows_of l s)) s
    && leb (length (book_of l (rows_of l s))) l.most
    && editions_run [] (rows_of l s)
    && every good_body (each body_in (rows_of l s))

-- "27 bad book, a bad body inside it too"
unfoldable pub bad_book : BookLayout → List ℕ → Bool
bad_book l s = not (good_book l s)
