-- What the steps of a save store is the book with the new row. Assumes nothing.
use Rattle.std.proofs.Common.{◌≡◌, ℕ, ◌+◌, ◌*◌, ◌≤◌, List, length, refl, ◌∙◌, append-nil, arith}
use lib.ListN.{length-replicate}
use lib.Seq.{sets}
use Rattle.mps.specs.Words.{part, put}
use Rattle.mps.specs.Numbers.{bytes}
use Rattle.mps.specs.Layout.{book_most, book_head, book_row}
use Rattle.mps.specs.Book.{layout1, bodies_at, rows_from}
use Rattle.mps.specs.Saving.{Addition, new_row, grown_book}
use Rattle.pages.specs.Pages.{Measured, moved_rows}
use Rattle.pages.proofs.Bytes.{readable1}
use Rattle.pages.proofs.Grown.{row_stored, grown}
use Rattle.saving.specs.Steps.{row_bytes, raised, way_made, grown_room}

-- ---- Step by step

pub way_made_lem :
    (s : List ℕ) (rows size : ℕ) {u v : List ℕ}
    → u ≡ sets s (book_head + rows * book_row 2 + book_row 2) (part (book_head + rows * book_row 2) size s)
    → v ≡ sets u book_head (moved_rows 2 u book_head rows) → v ≡ way_made s rows size
unfolding way_made raised bodies_at
way_made_lem s rows size e f = rw e at f

-- The four numbers of a row.
pub row_put :
    (t : List ℕ) (at m e start more : ℕ) {a b c d : List ℕ} → a ≡ sets t at (bytes 2 m) → b ≡ sets a (at + 2) (bytes 2 e)
    → c ≡ sets b (at + 4) (bytes 2 start) → d ≡ sets c (at + 6) (bytes 2 more) → d ≡ sets t at (row_bytes m e start more)
unfolding row_bytes rows_from
row_put t at m e start more p q r s =
    let last : at + 6 ≡ at + 4 + 2 = omega arith in
    rw (length-replicate {A = ℕ} more 0, append-nil (bytes 2 more)) (row_stored 2 t at m e start more refl refl last p q r s)

pub room_grown :
    (s : List ℕ) (rows size m e more : ℕ) {u v w : List ℕ} → u ≡ way_made s rows size
    → v ≡ sets u (book_head + rows * book_row 2) (row_bytes m e (size + book_row 2) more) → w ≡ sets v 1 (bytes 2 (rows + 1))
    → w ≡ grown_room s rows size m e more
unfolding grown_room bodies_at
room_grown s rows size m e more p q r = r ∙ rw (q, p)

-- ---- The book

-- Where the new body has been put one row behind the end.
pub grown_book_lem :
    (s : List ℕ) (rows size : ℕ) (a : Addition) {u v : List ℕ} → Measured layout1 s rows size
    → size + book_row 2 + length a.body ≤ length s → size + book_row 2 + length a.body ≤ book_most
    → u ≡ sets s (size + book_row 2) a.body
    → v ≡ grown_room u rows size a.machine (a.began + 1) (length a.body)
    → v ≡ put (grown_book layout1 s a) s
unfolding grown_book new_row grown_room way_made raised row_bytes rows_from
grown_book_lem s rows size a held inside most e f =
    grown layout1 s rows size (new_row a) readable1 held inside most e refl refl refl
    (rw (length-replicate {A = ℕ} (length a.body) 0) at f)
