-- Document 02, ask 3, "27 bad book, a bad body inside it too": what a good book is, row by row, and each fault that makes a bad
-- one; every call gives 27 exactly then (BookNumbers). Then how a machine's editions run, that what follows isn't read, what a
-- history tells, and a room that every one fits. Assumes nothing.
use Prim.Native.Nat.{ℕ, zero, suc, ◌+◌, ◌*◌, ◌^◌, ◌≤◌, ◌<◌}
use mathlib.Core.Path.{◌≡◌, refl, sym, ap, ◌∙◌}
use mathlib.Core.Bool.{Bool, true, false, not, ◌&&◌, true≢false}
use mathlib.Core.List.{List, [], ◌∷◌, ◌++◌}
use mathlib.Core.Logic.{◌↔◌}
use native.Mathlib.Nat.{add-zero, zero-mul, suc-mul, mod-eq_of_lt}
use native.Mathlib.Numerals.{add-one}
use native.Mathlib.Omega.{arith}
use lib.ListN.{length, take, drop}
use lib.Seq.{take-append_seam}
use lib.Dec.{ltb, leb, eqb}
use borrow.Author.Tests.{ltb-true, leb-true, lt-ltb, le-leb, eqb-true, eqb-false, eq-eqb, ne_eqb}
use Rattle.mps.specs.Words.{byte, each, rising, part}
use Rattle.mps.specs.Layout.{book_head, book_rows, book_row, machine_at, edition_at, body_size}
use Rattle.mps.specs.Rooms.{too_small}
use Rattle.mps.specs.Book.{Row, BookLayout, layout1, edition_of, of_machine, latest, body_refusal, good_body, editions_run, bodies_at}
use Rattle.mps.specs.Book.{rows_from, book_of, row_at, rows_at, rows_of, good_book, bad_book}
use Rattle.mps.specs.History.{book_rules, book_refusal, booked, latest_told, holds_edition, edition_rules, edition_refusal, body_told}
use Rattle.mps.specs.History.{history_width, history_of, history_refusal, history_told, history_left}
use Rattle.mps.specs.Saving.{grown_book, not_latest, book_full, addition_rules, grown, Ask, save, restore, addition, ask_rules, add_refusal, added}
use Rattle.std.specs.Prelude.{Ok}
use Rattle.laws.proofs.Tests.{whether, and_parts}
use Rattle.laws.proofs.Small.{Bytes}
use Rattle.numbers.proofs.Laws.{le_below}
use Rattle.pages.specs.Pages.{row_place, rows_before, good_place, walked, limit_of, headed, Readable}
use Rattle.pages.proofs.Bytes.{readable1, length_rows_from, length_rows, rows_at_more, row_machine, row_edition, row_reads}
use Rattle.pages.proofs.Again.{rows_fit, again, good_again}
use Rattle.pages.proofs.Placed.{Fits, Placed, placed_none, placed_row}
use Rattle.pages.proofs.Good.{limit_inside, limit_most, limit_least, bad_end, ends_rows}
use Rattle.pages.proofs.Good.{book_most_lem, good_exactly, good_run, good_bodies, good_placed}
use Rattle.pages.proofs.Editions.{run_more, editions_rise, holds_exactly}
use Rattle.promises.specs.GoodBooks.{body_from, body_to, body_due, GoodRow, GoodRows, RowTold}
use Rattle.promises.proofs.BookNumbers.{history_19, history_27, history_number, history_shown}

-- ---- What the code tests of a book, row by row

module _ (l : BookLayout) (s : List ℕ) where
  abbrev w : ℕ
  w = l.width

  abbrev limit : ℕ
  limit = limit_of l s

  -- What is asked of the offset, the length and the body of row k.
  record Stands (k : ℕ) : Type 0 where
    pub offset : body_from l s k ≡ body_due l s k
    pub ends : body_to l s k ≤ limit
    pub accepted : body_refusal (part (body_from l s k) (body_to l s k) s) ≡ 0

  abbrev test : ℕ → Bool
  test k = good_place w limit s (row_place l k) (body_due l s k)

  test_stands : (k : ℕ) → test k ≡ true → Stands k
  unfolding good_place good_body
  test_stands k t =
      let from = body_due l s k in
      let to = from + body_size w s (row_place l k) in
      let p = and_parts _ (eqb (body_refusal (part from to s)) 0) t in
      let q = and_parts (eqb (body_from l s k) from) (leb to limit) p.0 in
      let e = eqb-true (body_from l s k) from q.0 in
      record { offset = e; ends = rw e (leb-true to limit q.1); accepted = rw e (eqb-true _ 0 p.1) }

  stands_test : (k : ℕ) → Stands k → test k ≡ true
  unfolding good_place good_body
  stands_test k h =
      let to = body_due l s k + body_size w s (row_place l k) in
      rw (
        eq-eqb (body_from l s k) (body_due l s k) h.offset,
        le-leb to limit (omega (arith, h.offset, h.ends)),
        ← h.offset,
        h.accepted,
      )

  -- The code goes on to the next row.
  walked_next : (k n : ℕ) → test k ≡ true
      → walked w limit s (row_place l k) (body_due l s k) (suc n) ≡ walked w limit s (row_place l (suc k)) (body_due l s (suc k)) n
  unfolding walked body_due
  walked_next k n t =
      let place : row_place l k + book_row w ≡ row_place l (suc k) = rw (suc-mul k (book_row w)) (omega arith) in
      rw (t, walked, place, ← (test_stands k t).offset)

  walked_none : (k n : ℕ) → test k ≡ false → walked w limit s (row_place l k) (body_due l s k) (suc n) ≡ 0
  unfolding walked
  walked_none k n f = rw (f, walked)

  walked_stands : (k n : ℕ) → (walked w limit s (row_place l k) (body_due l s k) n ≡ 0 → ⊥)
      → (j : ℕ) → k ≤ j → j < k + n → Stands j
  walked_stands k zero e j a b = absurd (omega arith)
  walked_stands k (suc n) e j a b =
      whether (test k)
      (λ t.
      whether (eqb j k)
      (λ h. rw (eqb-true j k h) (test_stands k t))
      (λ h. let apart = eqb-false j k h in
      walked_stands (suc k) n (λ z. e (walked_next k n t ∙ z)) j (omega (arith, apart)) (omega arith)))
      (λ f. absurd (e (walked_none k n f)))

  stands_walked : (k n : ℕ) → 0 < body_due l s k → ((j : ℕ) → j < k + n → Stands j)
      → walked w limit s (row_place l k) (body_due l s k) n ≡ 0 → ⊥
  unfolding walked body_due
  stands_walked k zero some h z = omega (arith, some, z)
  stands_walked k (suc n) some h z =
      let here = h k (omega arith) in
      stands_walked (suc k) n (omega (arith, some, here.offset)) (λ j b. h j (omega arith))
      (sym (walked_next k n (stands_test k here)) ∙ z)

  -- ---- The editions

  abbrev Next : ℕ → Type 0
  Next k = edition_at s (row_place l k) ≡ latest (machine_at s (row_place l k)) (rows_before l s k) + 1

  run_next : (n : ℕ) → editions_run [] (rows_before l s (suc n))
      ≡ (editions_run [] (rows_before l s n)
      && eqb (edition_at s (row_place l n)) (latest (machine_at s (row_place l n)) (rows_before l s n) + 1))
  run_next n =
      let r = row_at w s (row_place l n) in
      let more : rows_before l s (suc n) ≡ rows_before l s n ++ (r ∷ []) = rw (add-one n) at (rows_at_more w s book_head n) in
      rw (more, run_more (rows_before l s n) r, row_machine w s (row_place l n), row_edition w s (row_place l n))

  run_each : (n : ℕ) → editions_run [] (rows_before l s n) ≡ true → (k : ℕ) → k < n → Next k
  run_each zero e k h = absurd (omega arith)
  run_each (suc n) e k h =
      let p = and_parts (editions_run [] (rows_before l s n)) _ (sym (run_next n) ∙ e) in
      whether (eqb k n)
      (λ t. rw (eqb-true k n t) (eqb-true _ _ p.1))
      (λ f. let apart = eqb-false k n f in run_each n p.0 k (omega (arith, apart)))

  each_run : (n : ℕ) → ((k : ℕ) → k < n → Next k) → editions_run [] (rows_before l s n) ≡ true
  unfolding rows_at editions_run
  each_run zero h = refl
  each_run (suc n) h =
      run_next n ∙ rw (each_run n (λ k b. h k (omega arith)), eq-eqb _ _ (h n (omega arith)))

  -- ---- A good book, exactly

  abbrev end : ℕ
  end = walked w limit s book_head (bodies_at w (book_rows s)) (book_rows s)

  walk_starts : walked w limit s (row_place l 0) (body_due l s 0) (book_rows s) ≡ end
  unfolding body_due
  walk_starts = rw (zero-mul (book_row w))

  module _ (reads : Readable l) (b : Bytes s) where
    good_rows : good_book l s ≡ true → GoodRows l s
    unfolding headed rows_of
    good_rows g =
        let at = bodies_at w (book_rows s) in
        let p = and_parts _ (editions_run [] (rows_of l s)) (sym (good_exactly l s reads b) ∙ g) in
        let q = and_parts (headed l s) (not (eqb end 0)) p.0 in
        let h = and_parts _ (leb at limit) q.0 in
        let i = and_parts (leb book_head limit) (eqb (byte s 0) l.mark) h.0 in
        let three = leb-true book_head limit i.0 in
        let rows = leb-true at limit h.1 in
        let room = limit_inside l s in
        let most = limit_most l s in
        let some : end ≡ 0 → ⊥ = λ z. true≢false (sym q.1 ∙ ap not (eq-eqb end 0 z)) in
        let stands = walked_stands 0 (book_rows s) (λ z. some (sym walk_starts ∙ z)) in
        record {
          three = omega (arith, three, room);
          marked = eqb-true (byte s 0) l.mark i.1;
          in_room = omega (arith, rows, room);
          in_most = omega (arith, rows, most);
          each_row = λ k below.
              let row = stands k (omega arith) (omega (arith, below)) in
              record {
                offset = row.offset;
                in_room = omega (arith, row.ends, room);
                in_most = omega (arith, row.ends, most);
                accepted = row.accepted;
                next = run_each (book_rows s) p.1 k below;
              };
        }

    rows_good : GoodRows l s → good_book l s ≡ true
    unfolding headed rows_of body_due bodies_at
    rows_good g =
        let at = bodies_at w (book_rows s) in
        let rows = limit_least l s at g.in_room g.in_most in
        let stands : (k : ℕ) → k < book_rows s → Stands k = λ k below.
        let row = g.each_row k below in
        let ends = limit_least l s (body_to l s k) row.in_room row.in_most in
        record { offset = row.offset; ends = ends; accepted = row.accepted } in
        let walks = stands_walked 0 (book_rows s) (omega arith) (λ k below. stands k (omega (arith, below))) in
        good_exactly l s reads b
        ∙ rw (
          le-leb book_head limit (omega (arith, rows)),
          eq-eqb (byte s 0) l.mark g.marked,
          le-leb at limit rows,
          ne_eqb end 0 (λ z. walks (walk_starts ∙ z)),
          each_run (book_rows s) (λ k below. (g.each_row k below).next),
        )

    pub good_by_rows : (good_book l s ≡ true) ↔ GoodRows l s
    good_by_rows = (good_rows, rows_good)

    -- A bad book, exactly: one of these is not so.
    pub bad_by_rows : (bad_book l s ≡ true) ↔ (GoodRows l s → ⊥)
    unfolding bad_book
    bad_by_rows = (
      λ e g. true≢false (sym e ∙ ap not (rows_good g)),
      λ h. whether (good_book l s) (λ g. absurd (h (good_rows g))) (λ f. ap not f),
    )

    -- ---- Each fault of its head

    pub room_under_three : length s < 3 → bad_book l s ≡ true
    room_under_three h = bad_by_rows.1 (λ g. omega (arith, h, g.three))

    pub other_layout : (byte s 0 ≡ l.mark → ⊥) → bad_book l s ≡ true
    other_layout h = bad_by_rows.1 (λ g. h g.marked)

    pub rows_past_room : length s < bodies_at l.width (book_rows s) → bad_book l s ≡ true
    rows_past_room h = bad_by_rows.1 (λ g. omega (arith, h, g.in_room))

    pub rows_past_most : l.most < bodies_at l.width (book_rows s) → bad_book l s ≡ true
    rows_past_most h = bad_by_rows.1 (λ g. omega (arith, h, g.in_most))

    -- ---- Each fault of one of its rows

    module _ (k : ℕ) (below : k < book_rows s) where
      bad_row : (GoodRow l s k → ⊥) → bad_book l s ≡ true
      bad_row h = bad_by_rows.1 (λ g. h (g.each_row k below))

      pub body_past_room : length s < body_to l s k → bad_book l s ≡ true
      body_past_room h = bad_row (λ r. omega (arith, h, r.in_room))

      pub body_past_most : l.most < body_to l s k → bad_book l s ≡ true
      body_past_most h = bad_row (λ r. omega (arith, h, r.in_most))

      pub offset_elsewhere : (body_from l s k ≡ body_due l s k → ⊥) → bad_book l s ≡ true
      offset_elsewhere h = bad_row (λ r. h r.offset)

      -- "a bad body inside it too"
      pub body_refused : (body_refusal (part (body_from l s k) (body_to l s k) s) ≡ 0 → ⊥) → bad_book l s ≡ true
      body_refused h = bad_row (λ r. h r.accepted)

      pub edition_not_next :
          (edition_at s (row_place l k) ≡ latest (machine_at s (row_place l k)) (rows_before l s k) + 1 → ⊥) → bad_book l s ≡ true
      edition_not_next h = bad_row (λ r. h r.next)

-- ---- The editions of a good book

module _ (l : BookLayout) (s : List ℕ) (good : good_book l s ≡ true) (machine : ℕ) where
  -- "A machine's editions run from 1 without a gap, rising in row order."
  pub editions_run_lem :
      each edition_of (of_machine machine (rows_of l s)) ≡ rising (length (of_machine machine (rows_of l s))) 1
  editions_run_lem = editions_rise machine (rows_of l s) (good_run l s good)

  -- It holds those from 1 to the latest, and no other.
  pub editions_held : (edition : ℕ)
      → (holds_edition machine edition (rows_of l s) ≡ true) ↔ ((1 ≤ edition) × (edition ≤ latest machine (rows_of l s)))
  editions_held e =
      let n = latest machine (rows_of l s) in
      rw (holds_exactly machine e (rows_of l s) (good_run l s good)) (
        λ h. let p = and_parts (ltb 0 e) (leb e n) h in (ltb-true 0 e p.0, leb-true e n p.1),
        λ h. rw (lt-ltb 0 e (omega (arith, h.0)), le-leb e n h.1),
      )

-- ---- "what follows isn't read"

module _ (l : BookLayout) (reads : Readable l) (s : List ℕ) (b : Bytes s) (good : good_book l s ≡ true) (rest : List ℕ) where
  abbrev followed : List ℕ
  followed = book_of l (rows_of l s) ++ rest

  -- With any other bytes behind it the book is good and has the same rows,
  pub rest_unread : (good_book l followed ≡ true) × (rows_of l followed ≡ rows_of l s)
  rest_unread =
      let rows = rows_of l s in
      let fit = rows_fit l s b in
      let most = book_most_lem l s good in
      (good_again l rows rest reads fit most (good_run l s good) (good_bodies l s good), again l rows rest reads fit most)

  -- so every question has the same answer.
  pub rest_booked : booked l followed ≡ booked l s
  unfolding booked book_refusal book_rules bad_book
  rest_booked = rw (rest_unread.0, rest_unread.1, good)

  pub rest_latest : (machine : ℕ) → latest_told l followed machine ≡ latest_told l s machine
  unfolding latest_told book_refusal book_rules bad_book
  rest_latest machine = rw (rest_unread.0, rest_unread.1, good)

  pub rest_body : (machine edition : ℕ) → body_told l followed machine edition ≡ body_told l s machine edition
  unfolding body_told edition_refusal edition_rules bad_book
  rest_body machine edition = rw (rest_unread.0, rest_unread.1, good)

  pub rest_history : (room : List ℕ)
      → (history_told l followed room ≡ history_told l s room) × (history_left l followed room ≡ history_left l s room)
  unfolding history_told history_left history_refusal history_of book_rules bad_book
  rest_history room = rw (rest_unread.0, rest_unread.1, good) (refl, refl)

  rest_addition : (ask : Ask) → addition l followed ask ≡ addition l s ask
  unfolding addition
  rest_addition (save machine began body) = refl
  rest_addition (restore machine old now) = rw rest_unread.1

  rest_asked : (ask : Ask) → ask_rules l followed ask ≡ ask_rules l s ask
  unfolding ask_rules book_rules edition_rules bad_book
  rest_asked (save machine began body) = rw (rest_unread.0, good)
  rest_asked (restore machine old now) = rw (rest_unread.0, rest_unread.1, good)

  -- And so, in a room of the same length, have a save and a restore.
  pub rest_added : length followed ≡ length s → (ask : Ask) → added l followed ask ≡ added l s ask
  unfolding added grown add_refusal addition_rules not_latest book_full too_small grown_book
  rest_added e ask = rw (e, rest_unread.1, rest_asked ask, rest_addition ask)

-- ---- What a history tells

-- Rows whose bodies stand one behind the other are told in twelve bytes each.
module _ (w limit : ℕ) (s : List ℕ) (b : Bytes s) (reach : limit < 256 ^ history_width) (h : List ℕ) where
  abbrev told : ℕ
  told = book_row history_width

  -- The first of them, and what is told behind it.
  row_told : (place rest : ℕ) {at start : ℕ} → Fits w limit s at start → (rows : List Row)
      → take (told + rest) (drop place h) ≡ rows_from history_width start (row_at w s at ∷ rows)
      → RowTold w s at h place
      × (take rest (drop (place + told) h) ≡ rows_from history_width (start + length (row_at w s at).body) rows)
  unfolding rows_from
  row_told place rest {at} {start} f rows e =
      let row = row_at w s at in
      let t = row_reads h place history_width rest row.machine row.edition start (length row.body) _ e in (
        record {
          machine = t.0 ∙ rw (row_machine w s at) (mod-eq_of_lt (le_below 2 s at b));
          edition = t.1 ∙ rw (row_edition w s at) (mod-eq_of_lt (le_below 2 s (at + 2) b));
          offset = t.2 ∙ mod-eq_of_lt (omega (arith, f.ends, reach)) ∙ sym f.starts;
          size = t.3 ∙ mod-eq_of_lt (omega (arith, f.ends, reach)) ∙ sym f.sized;
        },
        t.4,
      )

  rows_told : (place : ℕ) {at start n : ℕ} → Placed w limit s at start n
      → take (n * told) (drop place h) ≡ rows_from history_width start (rows_at w s at n)
      → (k : ℕ) → k < n → RowTold w s (at + k * book_row w) h (place + k * told)
  unfolding rows_at
  rows_told place placed_none e k below = absurd (omega arith)
  rows_told place (placed_row {at} {start} {n} f p) e zero below =
      let more : suc n * told ≡ told + n * told = omega arith in
      rw (zero-mul (book_row w), add-zero at, add-zero place) (row_told place (n * told) f _ (rw more at e)).0
  rows_told place (placed_row {at} {start} {n} f p) e (suc k) below =
      let more : suc n * told ≡ told + n * told = omega arith in
      let i : at + suc k * book_row w ≡ at + book_row w + k * book_row w = rw (suc-mul k (book_row w)) (omega arith) in
      let j : place + suc k * told ≡ place + told + k * told = omega arith in
      rw (i, j) (rows_told (place + told) p (row_told place (n * told) f _ (rw more at e)).1 k (omega arith))

-- "the book's rows are the history": of a history that is given, the twelve bytes at 12 * k have the numbers of the book's row k.
pub history_rows : (l : BookLayout) → Readable l → l.most < 256 ^ history_width → (s : List ℕ) → Bytes s
    → (room : List ℕ) {n : ℕ} → history_told l s room ≡ Ok n
    → (k : ℕ) → k < n → RowTold l.width s (row_place l k) (history_left l s room) (12 * k)
unfolding rows_of history_of bad_book
history_rows l reads reach s b room {n} e k below =
    let w = l.width in
    let shown = history_shown l s room e in
    let none : history_refusal l s room ≡ 0 = sym (history_number l s room) ∙ rw e in
    whether (good_book l s)
    (λ good.
    let limit = length (book_of l (rows_of l s)) in
    let answer = history_of l s in
    let starts : take (length answer) (history_left l s room) ≡ answer = rw shown.1 (take-append_seam answer _) in
    let size : length answer ≡ book_rows s * 12 =
    length_rows_from history_width _ (rows_of l s) ∙ ap (λ (n : ℕ). n * 12) (length_rows l s) in
    let most = book_most_lem l s good in
    let place : 0 + k * 12 ≡ 12 * k = omega arith in
    rw place at (rows_told w limit s b (omega (arith, most, reach)) (history_left l s room) 0
    (good_placed l s reads good) (rw (size, length_rows l s) at starts) k (omega (arith, below, shown.0, length_rows l s))))
    (λ bad. absurd (omega (arith, none, (history_27 l s room).1 (ap not bad))))

-- ---- The room of a history

-- 7,560 bytes are never too small: a good book of layout 1 has at most 630 rows, and each is told in 12 bytes.
pub history_room : (s room : List ℕ) → 7560 ≤ length room → history_refusal layout1 s room ≡ 19 → ⊥
unfolding history_of too_small bad_book
history_room s room h e =
    let at = bodies_at layout1.width (length (rows_of layout1 s)) in
    whether (good_book layout1 s)
    (λ good.
    omega (
      arith,
      h,
      ltb-true (length room) (length (history_of layout1 s)) ((history_19 layout1 s room).0 e).1,
      length_rows_from history_width at (rows_of layout1 s),
      length_rows layout1 s,
      ends_rows s (λ z. true≢false (sym good ∙ bad_end layout1 s readable1 z)),
    ))
    (λ bad. omega (arith, e, (history_27 layout1 s room).1 (ap not bad)))
