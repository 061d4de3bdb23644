-- A good book, field by field: what document 02's "27 bad book, a bad body inside it too" takes in is the lack of one of these.
use Rattle.std.specs.Prelude.{ℕ, zero, suc, ◌+◌, ◌≤◌, ◌<◌, List, ◌≡◌, length}
use Rattle.mps.specs.Words.{byte, part}
use Rattle.mps.specs.Layout.{book_rows, machine_at, edition_at, body_start, body_size}
use Rattle.mps.specs.Book.{BookLayout, latest, body_refusal, bodies_at}
use Rattle.mps.specs.History.{history_width}
use Rattle.pages.specs.Pages.{row_place, rows_before}

-- Where the body of a row begins and where it ends, by the row's offset and length. A row is told by its number from 0 on.
abbrev pub body_from : BookLayout → List ℕ → ℕ → ℕ
body_from l s k = body_start l.width s (row_place l k)

abbrev pub body_to : BookLayout → List ℕ → ℕ → ℕ
body_to l s k = body_from l s k + body_size l.width s (row_place l k)

-- Where it has to begin: ".. then rows .., then the bodies in row order, with nothing between."
unfoldable pub body_due : BookLayout → List ℕ → ℕ → ℕ
body_due l s zero = bodies_at l.width (book_rows s)
body_due l s (suc k) = body_to l s k

-- A row: its offset is just where the body before it ends; its body ends within the room, and within the bytes that a book may
-- have; it is "an accepted table with no byte after it"; and its edition is one more than the latest of its machine before it.
pub record GoodRow (l : BookLayout) (s : List ℕ) (k : ℕ) : Type 0 where
  pub offset : body_from l s k ≡ body_due l s k
  pub in_room : body_to l s k ≤ length s
  pub in_most : body_to l s k ≤ l.most
  pub accepted : body_refusal (part (body_from l s k) (body_to l s k) s) ≡ 0
  pub next : edition_at s (row_place l k) ≡ latest (machine_at s (row_place l k)) (rows_before l s k) + 1

-- A book: its head has three bytes, the first says the layout; its rows end within the room, and within the bytes that a book
-- may have; and every row is good.
pub record GoodRows (l : BookLayout) (s : List ℕ) : Type 0 where
  pub three : 3 ≤ length s
  pub marked : byte s 0 ≡ l.mark
  pub in_room : bodies_at l.width (book_rows s) ≤ length s
  pub in_most : bodies_at l.width (book_rows s) ≤ l.most
  pub each_row : (k : ℕ) → k < book_rows s → GoodRow l s k

-- A row as a history tells it: at a place of that stand the machine, the edition, the offset and the length of the row that
-- begins at a place of the book.
pub record RowTold (width : ℕ) (s : List ℕ) (at : ℕ) (history : List ℕ) (place : ℕ) : Type 0 where
  pub machine : machine_at history place ≡ machine_at s at
  pub edition : edition_at history place ≡ edition_at s at
  pub offset : body_start history_width history place ≡ body_start width s at
  pub size : body_size history_width history place ≡ body_size width s at
