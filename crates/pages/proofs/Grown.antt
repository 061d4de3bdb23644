-- A book with one row more. Assumes nothing.
use Prim.Native.Nat.{ℕ, suc, ◌+◌, ◌-◌, ◌*◌, ◌^◌, ◌<◌, ◌≤◌}
use mathlib.Core.Path.{◌≡◌, refl, ap, sym, ◌∙◌}
use mathlib.Core.Bool.{true}
use mathlib.Core.List.{List, [], ◌∷◌, ◌++◌, append_assoc, append-nil}
use native.Mathlib.Omega.{arith}
use native.Mathlib.Nat.{add-mul, suc-mul, mod-eq_of_lt}
use lib.ListN.{length, set, take, drop, length-append}
use lib.Seq.{sets, take-append_seam}
use borrow.Author.Tests.{lt-ltb, eq-eqb}
use Rattle.mps.specs.Words.{part, put, every, each, joined}
use Rattle.mps.specs.Numbers.{bytes}
use Rattle.mps.specs.Layout.{book_head, book_row}
use Rattle.mps.specs.Book.{Row, BookLayout, body_in, latest, editions_run, good_body, bodies_at, rows_from, book_of, rows_of, good_book}
use Rattle.laws.proofs.Parts.{pieces_split}
use Rattle.laws.proofs.Stores.{sets_part, sets_row, sets_behind, sets_before, sets_at_start}
use Rattle.laws.proofs.Lists.{every_append, every_each}
use Rattle.laws.proofs.Joined.{joined_append}
use Rattle.laws.proofs.Small.{Bytes}
use Rattle.numbers.proofs.Laws.{length_bytes, piece_number}
use Rattle.pages.specs.Pages.{Readable, Measured, moved_rows, fitting}
use Rattle.pages.proofs.Bytes.{length_rows_from, length_book, rows_from_append}
use Rattle.pages.proofs.Again.{Stands, stands, rows_fit, again, good_again}
use Rattle.pages.proofs.Good.{book_stands, good_run, good_bodies}
use Rattle.pages.proofs.Editions.{run_more}

-- ---- A row, by its four stores

pub row_stored :
    (w : ℕ) (t : List ℕ) (at m n start more : ℕ) {p q o : ℕ} {a b c d : List ℕ} → p ≡ at + 2 → q ≡ at + 4 → o ≡ at + 4 + w
    → a ≡ sets t at (bytes 2 m) → b ≡ sets a p (bytes 2 n) → c ≡ sets b q (bytes w start) → d ≡ sets c o (bytes w more)
    → d ≡ sets t at (bytes 2 m ++ (bytes 2 n ++ (bytes w start ++ bytes w more)))
row_stored w t at m n start more {p} {q} {o} {a} {b} i j k e f g h =
    sets_behind t at (bytes 2 m) _ (i ∙ omega (arith, length_bytes 2 m)) e
    (sets_behind a p (bytes 2 n) _ (omega (arith, i, j, length_bytes 2 n)) f
    (sets_behind b q (bytes w start) (bytes w more) (omega (arith, j, k, length_bytes w start)) g h))

-- ---- The rows that were there

length_front : (m e : ℕ) → length (bytes 2 m ++ bytes 2 e) ≡ 4
length_front m e = length-append (bytes 2 m) (bytes 2 e) ∙ omega (arith, length_bytes 2 m, length_bytes 2 e)

-- Their offsets grow by a row.
moved : (w : ℕ) (s : List ℕ) (at first : ℕ) (rows : List Row) → first + length (joined body_in rows) < 256 ^ w
    → take (length rows * book_row w) (drop at s) ≡ rows_from w first rows
    → moved_rows w s at (length rows) ≡ rows_from w (first + book_row w) rows
unfolding moved_rows rows_from joined
moved w s at first [] h e = refl
moved w s at first (r ∷ rows) h e =
    let b = r.body in
    let k = length rows * book_row w in
    let m : suc (length rows) * book_row w ≡ 4 + (w + (w + k)) = suc-mul (length rows) (book_row w) ∙ omega arith in
    let front = bytes 2 r.machine ++ bytes 2 r.edition in
    let tail = bytes w (length b) ++ rows_from w (first + length b) rows in
    let g = rw m at e ∙ sym (append_assoc (bytes 2 r.machine) (bytes 2 r.edition) (bytes w first ++ tail)) in
    let x = pieces_split s at 4 (w + (w + k)) front (bytes w first ++ tail) (length_front r.machine r.edition) g in
    let y = pieces_split s (at + 4) w (w + k) (bytes w first) tail (length_bytes w first) x.1 in
    let z = pieces_split s (at + 4 + w) w k (bytes w (length b)) _ (length_bytes w (length b)) y.1 in
    let c : at + 4 - at ≡ 4 = omega arith in
    let d : at + book_row w - (at + 4 + w) ≡ w = omega arith in
    let o : at + 4 + w + w ≡ at + book_row w = omega arith in
    let q : first + length b + book_row w ≡ first + book_row w + length b = omega arith in
    let i : first + (length b + length (joined body_in rows)) < 256 ^ w = rw (length-append b (joined body_in rows)) at h in
    rw (
      c,
      x.0,
      piece_number s (at + 4) w first y.0 ∙ mod-eq_of_lt (omega (arith, i)),
      d,
      z.0,
      moved w s (at + book_row w) (first + length b) rows (omega (arith, i)) (rw o at z.1),
      q,
    )
    (append_assoc (bytes 2 r.machine) (bytes 2 r.edition) _)

-- ---- One row more

module _ (l : BookLayout) (rows : List Row) (r : Row) where
  -- A row's bytes, and where the bodies begin without the new row.
  abbrev step : ℕ
  step = book_row l.width

  abbrev first : ℕ
  first = bodies_at l.width (length rows)

  bodies_later : bodies_at l.width (length rows + 1) ≡ first + step
  unfolding bodies_at
  bodies_later = rw (add-mul (length rows) 1 step) (omega arith)

  bodies_grown : joined body_in (rows ++ (r ∷ [])) ≡ joined body_in rows ++ r.body
  unfolding joined
  bodies_grown = joined_append body_in rows (r ∷ []) ∙ rw (append-nil r.body)

  pub length_grown : length (book_of l (rows ++ (r ∷ []))) ≡ length (book_of l rows) + book_row l.width + length r.body
  length_grown =
      length_book l (rows ++ (r ∷ []))
      ∙ rw (length-append rows (r ∷ []), bodies_grown, length-append (joined body_in rows) r.body, bodies_later)
      (omega (arith, length_book l rows))

  module _ {size : ℕ} (ends : size ≡ length (book_of l rows)) where
    bodies_end : size ≡ first + length (joined body_in rows)
    bodies_end = ends ∙ length_book l rows

    -- The number of rows, the rows, and the bodies.
    abbrev count : List ℕ
    count = bytes 2 (length rows + 1)

    abbrev old : List ℕ
    old = rows_from l.width (first + step) rows

    abbrev new : List ℕ
    new = rows_from l.width (size + step) (r ∷ [])

    abbrev bodies : List ℕ
    bodies = joined body_in rows ++ r.body

    book_grown : book_of l (rows ++ (r ∷ [])) ≡ l.mark ∷ (count ++ ((old ++ new) ++ bodies))
    unfolding book_of
    book_grown =
        let n : first + step + length (joined body_in rows) ≡ size + step = omega (arith, bodies_end) in
        let a = rows_from_append l.width (first + step) rows (r ∷ []) in
        rw (length-append rows (r ∷ []), bodies_later, a, n, bodies_grown)

    -- What the stores leave in a room that begins with the book.
    module _ (s rest : List ℕ) (begun : s ≡ book_of l rows ++ rest) where
      so : Stands l.width rows s
      so = stands l rows s (rw begun (take-append_seam (book_of l rows) rest))

      same_mark : set s 0 l.mark ≡ s
      unfolding book_of
      same_mark = rw begun

      raised : {u v : List ℕ} → u ≡ sets s (size + step) r.body → v ≡ sets u (first + step) (part first size u)
          → v ≡ sets s (first + step) bodies
      raised {u} i j =
          let n : size - first ≡ length (joined body_in rows) = omega (arith, bodies_end) in
          let p : part first size u ≡ joined body_in rows =
          rw (i, sets_part s (size + step) r.body first size (omega arith), n) so.bodies in
          sets_before s (first + step) (joined body_in rows) r.body (omega (arith, bodies_end)) i (rw p at j)

      advanced : {v x : List ℕ} → size < 256 ^ l.width → v ≡ sets s (first + step) bodies
          → x ≡ sets v book_head (moved_rows l.width v book_head (length rows)) → x ≡ sets v book_head old
      unfolding bodies_at
      advanced {v} h i j =
          let n = length rows * step in
          let p : take n (drop book_head v) ≡ rows_from l.width first rows =
          rw (i, sets_row s (first + step) bodies book_head n (omega arith)) so.first in
          rw (moved l.width v book_head first rows (rw bodies_end at h) p) at j

      laid : {v x y z : List ℕ} → v ≡ sets s (first + step) bodies → x ≡ sets v book_head old → y ≡ sets x first new
          → z ≡ sets y 1 count → z ≡ sets s 0 (book_of l (rows ++ (r ∷ [])))
      unfolding bodies_at
      laid {v} i j k m =
          let a = length_rows_from l.width (first + step) rows in
          let b = length_rows_from l.width (size + step) (r ∷ []) in
          let f = sets_behind v book_head old new (omega (arith, a)) j k in
          let n = length-append old new in
          let g = sets_before s book_head (old ++ new) bodies {j = first + step} (omega (arith, a, b, n)) i f in
          let c = length_bytes 2 (length rows + 1) in
          let h = sets_before s 1 count ((old ++ new) ++ bodies) {j = book_head} (omega (arith, c)) g m in
          rw book_grown (h ∙ ap (λ (t : List ℕ). sets t 1 (count ++ ((old ++ new) ++ bodies))) (sym same_mark))

-- The new body stands one row behind the book's end; the old bodies are raised by a row; their rows are advanced; then the new
-- row is stored, and the number of rows.
pub grown :
    (l : BookLayout) (s : List ℕ) (n size : ℕ) (r : Row) {u v x y z : List ℕ} → Readable l → Measured l s n size
    → size + book_row l.width + length r.body ≤ length s → size + book_row l.width + length r.body ≤ l.most
    → u ≡ sets s (size + book_row l.width) r.body
    → v ≡ sets u (bodies_at l.width n + book_row l.width) (part (bodies_at l.width n) size u)
    → x ≡ sets v book_head (moved_rows l.width v book_head n)
    → y ≡ sets x (bodies_at l.width n) (rows_from l.width (size + book_row l.width) (r ∷ []))
    → z ≡ sets y 1 (bytes 2 (n + 1)) → z ≡ put (book_of l (rows_of l s ++ (r ∷ []))) s
grown l s n size r reads held h most i j k m o =
    let rows = rows_of l s in
    let c = held.count in
    let a = reads.reaches in
    let e = book_stands l s held.good in
    let d = held.ends in
    let p = raised l rows r d s _ e i (rw c at j) in
    let q = advanced l rows r d s _ e (omega arith) p (rw c at k) in
    laid l rows r d s _ e p q (rw c at m) (rw c at o)
    ∙ sets_at_start s (book_of l (rows ++ (r ∷ []))) (omega (arith, length_grown l rows r))

-- ---- It is good

-- The book with one row more, as it stands in its room, is good and has these rows.
module _ (l : BookLayout) (s : List ℕ) (r : Row) (reads : Readable l) (b : Bytes s) (g : good_book l s ≡ true) where
  fit_grown : r.machine < 65536 → r.edition < 65536 → fitting (rows_of l s ++ (r ∷ [])) ≡ true
  unfolding fitting every
  fit_grown m e =
      rw (every_append _ (rows_of l s) (r ∷ []), rows_fit l s b, lt-ltb r.machine 65536 m, lt-ltb r.edition 65536 e)

  bodies_good : good_body r.body ≡ true → every good_body (each body_in (rows_of l s ++ (r ∷ []))) ≡ true
  unfolding every
  bodies_good h =
      let rows = rows_of l s in
      every_each body_in good_body (rows ++ (r ∷ []))
      ∙ rw (every_append _ rows (r ∷ []), ← every_each body_in good_body rows, good_bodies l s g, h)

  pub good_grown :
      r.machine < 65536 → r.edition < 65536 → good_body r.body ≡ true → latest r.machine (rows_of l s) + 1 ≡ r.edition
      → length (book_of l (rows_of l s ++ (r ∷ []))) ≤ l.most
      → (good_book l (put (book_of l (rows_of l s ++ (r ∷ []))) s) ≡ true)
      × (rows_of l (put (book_of l (rows_of l s ++ (r ∷ []))) s) ≡ rows_of l s ++ (r ∷ []))
  good_grown m e h n most =
      let rows = rows_of l s ++ (r ∷ []) in
      let rest = drop (length (book_of l rows)) s in
      let f = fit_grown m e in
      let run : editions_run [] rows ≡ true =
      rw (run_more (rows_of l s) r, good_run l s g, eq-eqb r.edition (latest r.machine (rows_of l s) + 1) (sym n)) in
      (good_again l rows rest reads f most run (bodies_good h), again l rows rest reads f most)
