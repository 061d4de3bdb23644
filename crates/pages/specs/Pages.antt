-- A book as the code goes over it: row by row, each with the place where its body has to begin.
use Rattle.std.specs.Prelude.{ℕ, zero, suc, ◌+◌, ◌*◌, ◌<◌, ◌^◌, Bool, true, false, cond, ◌&&◌, List, [], ◌++◌, ◌≡◌, length, ltb, leb, eqb}
use Rattle.mps.specs.Words.{byte, part, every}
use Rattle.mps.specs.Numbers.{bytes}
use Rattle.mps.specs.Layout.{book_head, book_rows, book_row, machine_at, edition_at, body_start, body_size}
use Rattle.mps.specs.Book.{Row, BookLayout, good_body, bodies_at, book_of, rows_at, rows_of, good_book}

-- Where a row begins, by its number from 0 on, and the rows before it.
abbrev pub row_place : BookLayout → ℕ → ℕ
row_place l k = book_head + k * book_row l.width

abbrev pub rows_before : BookLayout → List ℕ → ℕ → List Row
rows_before l s k = rows_at l.width s book_head k

-- Whether the row at a place tells of a good body that begins at `start` and does not pass the limit.
unfoldable pub good_place : ℕ → ℕ → List ℕ → ℕ → ℕ → Bool
good_place width limit s at start =
    eqb (body_start width s at) start
    && leb (start + body_size width s at) limit
    && good_body (part start (start + body_size width s at) s)

-- Where the last of so many bodies ends, the first row at a place and its body at `start`; 0 where a row is not good.
unfoldable pub walked : ℕ → ℕ → List ℕ → ℕ → ℕ → ℕ → ℕ
walked width limit s at start zero = start
walked width limit s at start (suc n) =
    elim (good_place width limit s at start) [
      | true ↦ walked width limit s (at + book_row width) (start + body_size width s at) n
      | false ↦ 0
    ]

-- How far a book may reach in its room.
unfoldable pub limit_of : BookLayout → List ℕ → ℕ
limit_of l s = cond (ltb (length s) l.most) (length s) l.most

-- Whether the head is there and says this layout, and the rows have room.
unfoldable pub headed : BookLayout → List ℕ → Bool
headed l s =
    leb book_head (limit_of l s)
    && eqb (byte s 0) l.mark
    && leb (bodies_at l.width (book_rows s)) (limit_of l s)

-- Where a book ends, whatever its editions are; 0 where its head or a row is bad.
unfoldable pub end_of : BookLayout → List ℕ → ℕ
end_of l s =
    elim (headed l s) [
      | true ↦ walked l.width (limit_of l s) s book_head (bodies_at l.width (book_rows s)) (book_rows s)
      | false ↦ 0
    ]

-- A layout that can be read again: its mark is a byte, an offset reaches over every book, and two bytes count the rows of any.
pub record Readable (l : BookLayout) : Type 0 where
  pub marked : l.mark < 256
  pub reaches : l.most < 256 ^ l.width
  pub counted : l.most < 65536 * book_row l.width

-- A good book of layout 1 has no more rows: with its row a body takes at least 52 bytes.
abbrev pub rows_most : ℕ
rows_most = 630

-- A good book with so many rows and bytes, as `booked` answers it.
pub record Measured (l : BookLayout) (s : List ℕ) (rows size : ℕ) : Type 0 where
  pub good : good_book l s ≡ true
  pub count : rows ≡ length (rows_of l s)
  pub ends : size ≡ length (book_of l (rows_of l s))

-- Where the row of an edition begins, of so many rows from a place on; 0 where none of them is it.
unfoldable pub found_from : ℕ → ℕ → ℕ → List ℕ → ℕ → ℕ → ℕ
found_from width machine edition s at zero = 0
found_from width machine edition s at (suc n) =
    elim (eqb (machine_at s at) machine && eqb (edition_at s at) edition) [
      | true ↦ at
      | false ↦ found_from width machine edition s (at + book_row width) n
    ]

unfoldable pub found_in : BookLayout → ℕ → ℕ → List ℕ → ℕ
found_in l machine edition s = found_from l.width machine edition s book_head (book_rows s)

-- The rows once their bodies have moved by one row: the offset of each grows by a row's bytes.
unfoldable pub moved_rows : ℕ → List ℕ → ℕ → ℕ → List ℕ
moved_rows width s at zero = []
moved_rows width s at (suc n) =
    part at (at + 4) s
    ++ (bytes width (body_start width s at + book_row width)
    ++ (part (at + 4 + width) (at + book_row width) s ++ moved_rows width s (at + book_row width) n))

-- Rows that can be written: their machines and editions have two bytes each.
unfoldable pub fitting : List Row → Bool
fitting rows = every (λ (r : Row). ltb r.machine 65536 && ltb r.edition 65536) rows
