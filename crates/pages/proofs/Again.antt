-- A book is read again as it was written. Assumes nothing.
use Prim.Native.Nat.{ℕ, zero, suc, ◌+◌, ◌-◌, ◌*◌, ◌^◌, ◌<◌, ◌≤◌}
use mathlib.Core.Path.{◌≡◌, refl, ◌∙◌}
use mathlib.Core.Bool.{true, ◌&&◌}
use mathlib.Core.List.{List, [], ◌∷◌, ◌++◌}
use native.Mathlib.Omega.{arith}
use native.Mathlib.Nat.{suc-mul, mod-eq_of_lt, lt_of_mul-lt-mul_right}
use lib.ListN.{length, take, drop, length-append}
use lib.Seq.{take-append_seam}
use lib.Dec.{ltb}
use borrow.Author.Tests.{lt-ltb, ltb-true, le-leb}
use Rattle.mps.specs.Words.{every, each, joined}
use Rattle.mps.specs.Numbers.{bytes}
use Rattle.mps.specs.Layout.{book_head, book_rows, book_row, machine_at, edition_at}
use Rattle.mps.specs.Book.{Row, BookLayout, body_in, editions_run, good_body, bodies_at, rows_from, book_of}
use Rattle.mps.specs.Book.{row_at, rows_at, rows_of, begins, good_book}
use Rattle.laws.proofs.Tests.{and_parts}
use Rattle.laws.proofs.Parts.{pieces_split}
use Rattle.laws.proofs.Small.{Bytes}
use Rattle.numbers.proofs.Laws.{le_below, length_bytes, piece_number}
use Rattle.slices.proofs.Laws.{same_refl}
use Rattle.pages.specs.Pages.{Readable, fitting}
use Rattle.pages.proofs.Bytes.{length_rows_from, length_book, row_reads}

-- ---- Rows that fit

-- The first of rows that fit does, and so do the others.
pub fit_first : (r : Row) (rows : List Row) → fitting (r ∷ rows) ≡ true
    → (r.machine < 65536) × (r.edition < 65536) × (fitting rows ≡ true)
unfolding fitting every
fit_first r rows f =
    let h = and_parts (ltb r.machine 65536 && ltb r.edition 65536) (fitting rows) f in
    let g = and_parts (ltb r.machine 65536) (ltb r.edition 65536) h.0 in
    (ltb-true r.machine 65536 g.0, ltb-true r.edition 65536 g.1, h.1)

-- What is read has two bytes.
rows_at_fit : (w : ℕ) (s : List ℕ) (at n : ℕ) → Bytes s → fitting (rows_at w s at n) ≡ true
unfolding fitting every rows_at row_at
rows_at_fit w s at zero b = refl
rows_at_fit w s at (suc n) b =
    rw (
      lt-ltb (machine_at s at) 65536 (le_below 2 s at b),
      lt-ltb (edition_at s at) 65536 (le_below 2 s (at + 2) b),
    ) (rows_at_fit w s (at + book_row w) n b)

pub rows_fit : (l : BookLayout) (s : List ℕ) → Bytes s → fitting (rows_of l s) ≡ true
unfolding rows_of
rows_fit l s b = rows_at_fit l.width s book_head (book_rows s) b

-- ---- Rows are read again

rows_again : (w : ℕ) (s : List ℕ) (at first : ℕ) (rows : List Row) → fitting rows ≡ true
    → first + length (joined body_in rows) < 256 ^ w → take (length rows * book_row w) (drop at s) ≡ rows_from w first rows
    → take (length (joined body_in rows)) (drop first s) ≡ joined body_in rows → rows_at w s at (length rows) ≡ rows
unfolding rows_at row_at rows_from joined
rows_again w s at first [] f h e g = refl
rows_again w s at first (r ∷ rows) f h e g =
    let b = r.body in
    let j = joined body_in rows in
    let n = length rows in
    let m : suc n * book_row w ≡ book_row w + n * book_row w = suc-mul n (book_row w) ∙ omega arith in
    let i : first + (length b + length j) < 256 ^ w = rw (length-append b j) at h in
    let c = row_reads s at w (n * book_row w) r.machine r.edition first (length b) _ (rw m at e) in
    let d = pieces_split s first (length b) (length j) b j refl (rw (length-append b j) at g) in
    let t = fit_first r rows f in
    let k : first + length b - first ≡ length b = omega arith in
    rw (
      c.0 ∙ mod-eq_of_lt t.0,
      c.1 ∙ mod-eq_of_lt t.1,
      c.2 ∙ mod-eq_of_lt (omega (arith, i)),
      c.3 ∙ mod-eq_of_lt (omega (arith, i)),
      k,
      d.0,
      rows_again w s (at + book_row w) (first + length b) rows t.2 (omega (arith, i)) c.4 d.1,
    )

-- ---- A book is read again

-- What stands in a room that begins with a book, at the places of its parts.
pub record Stands (w : ℕ) (rows : List Row) (s : List ℕ) : Type 0 where
  pub number : take 2 (drop 1 s) ≡ bytes 2 (length rows)
  pub first : take (length rows * book_row w) (drop book_head s) ≡ rows_from w (bodies_at w (length rows)) rows
  pub bodies : take (length (joined body_in rows)) (drop (bodies_at w (length rows)) s) ≡ joined body_in rows

pub stands : (l : BookLayout) (rows : List Row) (s : List ℕ) → take (length (book_of l rows)) s ≡ book_of l rows
    → Stands l.width rows s
unfolding book_of bodies_at
stands l rows s e =
    let n = length rows in
    let k = n * book_row l.width in
    let r = rows_from l.width (bodies_at l.width n) rows in
    let j = joined body_in rows in
    let z : 1 + (2 + (k + length j)) ≡ length (book_of l rows) = omega (arith, length_book l rows) in
    let a = pieces_split s 0 1 (2 + (k + length j)) (l.mark ∷ []) (bytes 2 n ++ (r ++ j)) refl (rw z e) in
    let b = pieces_split s 1 2 (k + length j) (bytes 2 n) (r ++ j) (length_bytes 2 n) a.1 in
    let c = pieces_split s book_head k (length j) r j (length_rows_from l.width _ rows) b.1 in
    record { number = b.0; first = c.0; bodies = c.1 }

module _
    (l : BookLayout) (rows : List Row) (rest : List ℕ) (reads : Readable l)
    (fit : fitting rows ≡ true) (most : length (book_of l rows) ≤ l.most) where
  stands_again : Stands l.width rows (book_of l rows ++ rest)
  stands_again = stands l rows (book_of l rows ++ rest) (take-append_seam (book_of l rows) rest)

  -- Each row takes its bytes: their number has two.
  few : length rows < 65536
  unfolding bodies_at
  few = let c = reads.counted in lt_of_mul-lt-mul_right (book_row l.width) (omega (arith, length_book l rows))

  count_again : book_rows (book_of l rows ++ rest) ≡ length rows
  count_again = piece_number (book_of l rows ++ rest) 1 2 (length rows) stands_again.number ∙ mod-eq_of_lt few

  pub again : rows_of l (book_of l rows ++ rest) ≡ rows
  unfolding rows_of
  again =
      let a = stands_again in
      let h : length (book_of l rows) < 256 ^ l.width = let r = reads.reaches in omega arith in
      rw count_again (rows_again l.width _ book_head _ rows fit (rw (length_book l rows) at h) a.first a.bodies)

  -- A book of good rows is good.
  pub good_again : editions_run [] rows ≡ true → every good_body (each body_in rows) ≡ true
      → good_book l (book_of l rows ++ rest) ≡ true
  unfolding good_book begins
  good_again run good =
      let b = book_of l rows in
      rw (again, take-append_seam b rest, same_refl b, le-leb (length b) l.most most, run, good)
