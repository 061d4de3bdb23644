-- The bytes of rows and of a book: how many there are, and those of rows one behind the other. Assumes nothing.
use Prim.Native.Nat.{ℕ, zero, suc, ◌+◌, ◌*◌, ◌%◌, ◌^◌, ◌≤◌}
use mathlib.Core.Path.{◌≡◌, refl, ap, sym, ◌∙◌}
use mathlib.Core.List.{List, [], ◌∷◌, ◌++◌, append_assoc}
use native.Mathlib.Nat.{zero-add, add-zero, add_assoc, suc-add, zero-mul, suc-mul}
use native.Mathlib.Omega.{arith}
use lib.ListN.{length, take, drop, length-append}
use Rattle.mps.specs.Words.{joined, part}
use Rattle.mps.specs.Numbers.{bytes}
use Rattle.mps.specs.Layout.{book_head, book_rows, book_row, machine_at, edition_at, body_start, body_size}
use Rattle.mps.specs.Book.{Row, body_in, BookLayout, layout1, bodies_at, rows_from, book_of, row_at, rows_at, rows_of}
use Rattle.laws.proofs.Parts.{pieces_join, pieces_split}
use Rattle.laws.proofs.Small.{Bytes}
use Rattle.numbers.proofs.Laws.{length_bytes, piece_number, bytes_le}
use Rattle.pages.specs.Pages.{Readable}

pub readable1 : Readable layout1
readable1 = record { marked = omega arith; reaches = omega arith; counted = omega arith }

-- ---- The bytes that rows make

-- Those of one row, and what is behind them.
length_row : (w m e a n : ℕ) (rest : List ℕ)
    → length (bytes 2 m ++ (bytes 2 e ++ (bytes w a ++ (bytes w n ++ rest)))) ≡ book_row w + length rest
length_row w m e a n rest =
    rw (
      length-append (bytes 2 m) (bytes 2 e ++ (bytes w a ++ (bytes w n ++ rest))),
      length-append (bytes 2 e) (bytes w a ++ (bytes w n ++ rest)),
      length-append (bytes w a) (bytes w n ++ rest),
      length-append (bytes w n) rest,
    )
    (omega (arith, length_bytes 2 m, length_bytes 2 e, length_bytes w a, length_bytes w n))

pub length_rows_from : (w at : ℕ) (rows : List Row) → length (rows_from w at rows) ≡ length rows * book_row w
unfolding rows_from
length_rows_from w at [] = omega arith
length_rows_from w at (r ∷ rows) =
    let next = at + length r.body in
    length_row w r.machine r.edition at (length r.body) (rows_from w next rows)
    ∙ rw (length_rows_from w next rows, suc-mul (length rows) (book_row w)) (omega arith)

pub rows_from_append : (w at : ℕ) (a b : List Row)
    → rows_from w at (a ++ b) ≡ rows_from w at a ++ rows_from w (at + length (joined body_in a)) b
unfolding rows_from joined
rows_from_append w at [] b = rw (add-zero at)
rows_from_append w at (r ∷ a) b =
    rw (
      rows_from_append w (at + length r.body) a b,
      length-append r.body (joined body_in a),
      add_assoc at (length r.body) (length (joined body_in a)),
    )
    (simp append_assoc)

pub length_book : (l : BookLayout) (rows : List Row)
    → length (book_of l rows) ≡ bodies_at l.width (length rows) + length (joined body_in rows)
unfolding book_of bodies_at
length_book l rows =
    let w = l.width in
    let at = bodies_at w (length rows) in
    rw (
      length-append (bytes 2 (length rows)) (rows_from w at rows ++ joined body_in rows),
      length-append (rows_from w at rows) (joined body_in rows),
      length_rows_from w at rows,
    )
    (omega (arith, length_bytes 2 (length rows)))

-- ---- The rows that are read

module _ (w : ℕ) (s : List ℕ) (at : ℕ) where
  pub row_machine : (row_at w s at).machine ≡ machine_at s at
  unfolding row_at
  row_machine = refl

  pub row_edition : (row_at w s at).edition ≡ edition_at s at
  unfolding row_at
  row_edition = refl

  pub row_body : (row_at w s at).body ≡ part (body_start w s at) (body_start w s at + body_size w s at) s
  unfolding row_at
  row_body = refl

length_rows_at : (w : ℕ) (s : List ℕ) (at n : ℕ) → length (rows_at w s at n) ≡ n
unfolding rows_at
length_rows_at w s at zero = refl
length_rows_at w s at (suc n) = ap suc (length_rows_at w s (at + book_row w) n)

pub length_rows : (l : BookLayout) (s : List ℕ) → length (rows_of l s) ≡ book_rows s
unfolding rows_of
length_rows l s = length_rows_at l.width s book_head (book_rows s)

rows_at_append : (w : ℕ) (s : List ℕ) (at m n : ℕ)
    → rows_at w s at (m + n) ≡ rows_at w s at m ++ rows_at w s (at + m * book_row w) n
unfolding rows_at
rows_at_append w s at zero n = rw (zero-add n, zero-mul (book_row w), add-zero at)
rows_at_append w s at (suc m) n =
    let e : at + suc m * book_row w ≡ at + book_row w + m * book_row w = rw (suc-mul m (book_row w)) (omega arith) in
    rw (suc-add m n, e, rows_at_append w s (at + book_row w) m n)

-- One row more.
pub rows_at_more : (w : ℕ) (s : List ℕ) (at n : ℕ)
    → rows_at w s at (n + 1) ≡ rows_at w s at n ++ (row_at w s (at + n * book_row w) ∷ [])
unfolding rows_at
rows_at_more w s at n = rows_at_append w s at n 1

-- ---- The bytes of a row that stands at a place, with m bytes more

module _ (s : List ℕ) (at w m : ℕ) where
  -- They are those of its four numbers.
  pub row_stands : Bytes s → at + book_row w ≤ length s
      → take (book_row w + m) (drop at s)
      ≡ bytes 2 (machine_at s at)
      ++ (bytes 2 (edition_at s at)
      ++ (bytes w (body_start w s at) ++ (bytes w (body_size w s at) ++ take m (drop (at + book_row w) s))))
  row_stands b h =
      let n : book_row w + m ≡ 2 + (2 + (w + (w + m))) = omega arith in
      let e : at + 2 + 2 ≡ at + 4 = omega arith in
      let f : at + 4 + w + w ≡ at + book_row w = omega arith in
      rw n
      (pieces_join s at 2 (2 + (w + (w + m))) _ _
      (sym (bytes_le 2 s at (omega arith) b))
      (pieces_join s (at + 2) 2 (w + (w + m)) _ _
      (sym (bytes_le 2 s (at + 2) (omega arith) b))
      (rw e
      (pieces_join s (at + 4) w (w + m) _ _
      (sym (bytes_le w s (at + 4) (omega arith) b))
      (pieces_join s (at + 4 + w) w m _ _
      (sym (bytes_le w s (at + 4 + w) (omega arith) b))
      (rw f))))))

  -- Where they are those of four numbers, these are read.
  pub row_reads : (a b c d : ℕ) (rest : List ℕ)
      → take (book_row w + m) (drop at s) ≡ bytes 2 a ++ (bytes 2 b ++ (bytes w c ++ (bytes w d ++ rest)))
      → (machine_at s at ≡ a % 256 ^ 2) × (edition_at s at ≡ b % 256 ^ 2)
      × (body_start w s at ≡ c % 256 ^ w) × (body_size w s at ≡ d % 256 ^ w)
      × (take m (drop (at + book_row w) s) ≡ rest)
  row_reads a b c d rest h =
      let n : book_row w + m ≡ 2 + (2 + (w + (w + m))) = omega arith in
      let e : at + 2 + 2 ≡ at + 4 = omega arith in
      let f : at + 4 + w + w ≡ at + book_row w = omega arith in
      let y : List ℕ = bytes w c ++ (bytes w d ++ rest) in
      let first = pieces_split s at 2 (2 + (w + (w + m))) (bytes 2 a) (bytes 2 b ++ y) (length_bytes 2 a) (rw n at h) in
      let second = pieces_split s (at + 2) 2 (w + (w + m)) (bytes 2 b) y (length_bytes 2 b) first.1 in
      let third = pieces_split s (at + 4) w (w + m) _ _ (length_bytes w c) (rw e at second.1) in
      let fourth = pieces_split s (at + 4 + w) w m _ _ (length_bytes w d) third.1 in (
        piece_number s at 2 a first.0,
        piece_number s (at + 2) 2 b second.0,
        piece_number s (at + 4) w c third.0,
        piece_number s (at + 4 + w) w d fourth.0,
        rw f at fourth.1,
      )
