-- Document 02, ask 3: nothing that a book holds is lost. What a save or a restore that is taken leaves, any run of them, and two
-- who began from one edition; of every layout that can be read again, and so of layout 1. Assumes nothing.
use Prim.Native.Nat.{ℕ, zero, suc, ◌+◌, ◌≤◌, ◌<◌}
use mathlib.Core.Path.{◌≡◌, refl, sym, ap, ◌∙◌}
use mathlib.Core.Bool.{true, false, false≢true, and-false}
use mathlib.Core.List.{List, [], ◌∷◌, ◌++◌, append-nil, append_assoc}
use native.Mathlib.Omega.{arith}
use lib.ListN.{length, take, drop}
use lib.Seq.{take-append_seam}
use lib.Dec.{ltb, leb, eqb}
use borrow.Author.Tests.{lt-ltb, le-leb, lt-leb, leb-true, eq-eqb, ne_eqb, eqb-true, eqb-false}
use Rattle.mps.specs.Words.{any, each, put, joined}
use Rattle.mps.specs.Numbers.{bytes}
use Rattle.mps.specs.Layout.{edition_most, book_row, body_start, body_size}
use Rattle.std.specs.Prelude.{Result, Ok}
use Rattle.mps.specs.Answers.{answered}
use Rattle.mps.specs.declared.refusals.Refusal.{Refusal}
use Rattle.mps.specs.Book.{Row, BookLayout, body_in, latest, body_refusal, good_body, bodies_at, rows_from, book_of, rows_of, good_book}
use Rattle.mps.specs.History.{is_edition, holds_edition, edition_body}
use Rattle.mps.specs.Saving.{Addition, new_row, grown_book, book_full, grown, Ask, save, restore, addition, add_refusal, added, add_left, add_run, add_answers}
use Rattle.mps.specs.declared.Booked.{Booked}
use Rattle.laws.proofs.Tests.{whether, and_parts, or_parts}
use Rattle.laws.proofs.Lists.{keep_in, keep_out}
use Rattle.laws.proofs.Small.{Bytes, bytes_take, bytes_drop, bytes_part, bytes_none, bytes_cons, bytes_append}
use Rattle.laws.proofs.Stores.{put_put}
use Rattle.laws.proofs.Lent.{left_put}
use Rattle.numbers.proofs.Laws.{bytes_below}
use Rattle.pages.specs.Pages.{Readable, found_in}
use Rattle.pages.proofs.Editions.{latest_append, holds_exactly, held_tells, held_good}
use Rattle.laws.proofs.Joined.{joined_append}
use Rattle.pages.proofs.Again.{stands}
use Rattle.pages.proofs.Grown.{good_grown, length_grown}
use Rattle.pages.proofs.Good.{book_stands, good_run, good_bodies}
use Rattle.pages.proofs.Answered.{not_full}
use Rattle.promises.specs.Books.{taken, row_for, put_rows, more_rows, AskOfBytes, AsksOfBytes, more_asks}
use Rattle.promises.proofs.BookNumbers.{add_number, add_kept, save_28, save_taken, restore_28, restore_taken}

-- ---- What holds of an addition that is taken

-- A good book of bytes: what is taken is made on one, and leaves one.
pub record Shelved (l : BookLayout) (s : List ℕ) : Type 0 where
  pub bytes : Bytes s
  pub good : good_book l s ≡ true

record Taken (l : BookLayout) (s : List ℕ) (a : Addition) : Type 0 where
  good : good_book l s ≡ true
  whole : good_body a.body ≡ true
  small : Bytes a.body
  low : a.machine < 65536
  begun : a.began < 65536
  last : latest a.machine (rows_of l s) ≡ a.began
  roomy : book_full l s a ≡ false

-- Of rows with more behind them, an edition that the first ones hold is found there.
held_first : (m e : ℕ) (rows more : List Row) → holds_edition m e rows ≡ true
    → (holds_edition m e (rows ++ more) ≡ true) × (edition_body m e (rows ++ more) ≡ edition_body m e rows)
unfolding holds_edition any edition_body each
held_first m e [] more h = absurd (false≢true h)
held_first m e (r ∷ rows) more h =
    whether (is_edition m e r)
    (λ t. rw (t, keep_in (is_edition m e) r rows t, keep_in (is_edition m e) r (rows ++ more) t) (refl, refl))
    (λ f.
    let k = held_first m e rows more (rw f at h) in
    rw (f, keep_out (is_edition m e) r rows f, keep_out (is_edition m e) r (rows ++ more) f) k)

-- One that they do not hold is found behind them.
held_last : (m e : ℕ) (rows : List Row) (r : Row) → holds_edition m e rows ≡ false → is_edition m e r ≡ true
    → (holds_edition m e (rows ++ (r ∷ [])) ≡ true) × (edition_body m e (rows ++ (r ∷ [])) ≡ r.body)
unfolding holds_edition any edition_body each
held_last m e [] r h t = rw (t, keep_in (is_edition m e) r [] t) (refl, refl)
held_last m e (x ∷ rows) r h t =
    let p = or_parts (is_edition m e x) (any (is_edition m e) rows) h in
    let k = held_last m e rows r p.1 t in
    rw (p.0, keep_out (is_edition m e) x (rows ++ (r ∷ [])) p.0) k

module _ (l : BookLayout) (reads : Readable l) (s : List ℕ) (b : Bytes s) where
  -- It stands in the book, so it is made of bytes.
  held_bytes : (m e : ℕ) → good_book l s ≡ true → holds_edition m e (rows_of l s) ≡ true → Bytes (edition_body m e (rows_of l s))
  held_bytes m e g h =
      let t = held_tells l m e s reads g h in
      let at = found_in l m e s in
      rw (← t.stands) (bytes_part (body_start l.width s at) (body_start l.width s at + body_size l.width s at) s b)

  was_taken : (ask : Ask) → AskOfBytes ask → add_refusal l s ask ≡ 0 → Taken l s (addition l s ask)
  unfolding addition good_body
  was_taken (save machine began body) k e =
      let t = (save_taken l s machine began body).0 e in
      record { good = t.0; whole = eq-eqb (body_refusal body) 0 t.1; small = k.2; low = k.0; begun = k.1; last = t.2; roomy = t.3 }
  was_taken (restore machine old now) k e =
      let t = (restore_taken l s machine old now).0 e in
      record {
        good = t.0;
        whole = held_good machine old (rows_of l s) (good_bodies l s t.0) t.1;
        small = held_bytes machine old t.0 t.1;
        low = k.0;
        begun = k.1;
        last = t.2;
        roomy = t.3;
      }

-- ---- The bytes of a book

-- The bytes of rows are bytes, and so are those of a book whose bodies are.
rows_bytes : (w at : ℕ) (rows : List Row) → Bytes (rows_from w at rows)
unfolding rows_from
rows_bytes w at [] = bytes_none
rows_bytes w at (r ∷ rows) =
    bytes_append (bytes 2 r.machine) _ (bytes_below 2 r.machine)
    (bytes_append (bytes 2 r.edition) _ (bytes_below 2 r.edition)
    (bytes_append (bytes w at) _ (bytes_below w at)
    (bytes_append (bytes w (length r.body)) _ (bytes_below w (length r.body)) (rows_bytes w (at + length r.body) rows))))

book_bytes : (l : BookLayout) → Readable l → (rows : List Row) → Bytes (joined body_in rows) → Bytes (book_of l rows)
unfolding book_of
book_bytes l reads rows b =
    let front = rows_from l.width (bodies_at l.width (length rows)) rows in
    let bodies = joined body_in rows in
    bytes_cons l.mark (bytes 2 (length rows) ++ (front ++ bodies)) reads.marked
    (bytes_append (bytes 2 (length rows)) (front ++ bodies) (bytes_below 2 (length rows))
    (bytes_append front bodies (rows_bytes l.width _ rows) b))

-- ---- One addition that is taken

module _ (l : BookLayout) (reads : Readable l) (s : List ℕ) (b : Bytes s) (a : Addition) (t : Taken l s a) where
  -- It is within its limits.
  limits : (length (grown_book l s a) ≤ l.most) × (length (grown_book l s a) ≤ length s) × (a.began + 1 < 65536)
  limits =
      let f = not_full l s a t.roomy in
      (f.0, f.1, next t.begun (λ z. f.2 (t.last ∙ z)))
    where
      next : a.began < 65536 → (a.began ≡ edition_most → ⊥) → a.began + 1 < 65536
      next h k = omega (arith, h, k)

  -- "A save adds row and body last": the room begins with a good book again, which has one row more.
  grown_facts : (good_book l (put (grown_book l s a) s) ≡ true) × (rows_of l (put (grown_book l s a) s) ≡ rows_of l s ++ (new_row a ∷ []))
  unfolding grown_book new_row
  grown_facts =
      good_grown l s (new_row a) reads b t.good t.low limits.2 t.whole (rw t.last) limits.0

  -- The bodies that the book has stand in it.
  bodies_bytes : Bytes (joined body_in (rows_of l s))
  bodies_bytes =
      let book = book_of l (rows_of l s) in
      let n = length book in
      let begun : take n s ≡ book = ap (take n) (book_stands l s t.good) ∙ take-append_seam book (drop n s) in
      let so = stands l (rows_of l s) s begun in
      let at = bodies_at l.width (length (rows_of l s)) in
      rw (← so.bodies) (bytes_take (length (joined body_in (rows_of l s))) (drop at s) (bytes_drop at s b))

  -- Its bytes are bytes.
  grown_bytes : Bytes (put (grown_book l s a) s)
  unfolding grown_book new_row joined
  grown_bytes =
      let new = rows_of l s ++ (new_row a ∷ []) in
      let old = joined body_in (rows_of l s) in
      let bodies : Bytes (joined body_in new) =
      rw (joined_append body_in (rows_of l s) (new_row a ∷ []))
      (bytes_append old (a.body ++ []) bodies_bytes (bytes_append a.body [] t.small bytes_none)) in
      bytes_append (book_of l new) (drop (length (book_of l new)) s) (book_bytes l reads new bodies) (bytes_drop (length (book_of l new)) s b)

-- ---- A save or a restore that is taken

module _ (l : BookLayout) (reads : Readable l) (s : List ℕ) (b : Bytes s) (ask : Ask) (given : AskOfBytes ask) (none : add_refusal l s ask ≡ 0) where
  taken_so : Taken l s (addition l s ask)
  taken_so = was_taken l reads s b ask given none

  -- What it leaves: the book with its row and body added, from the room's first byte on, and past its end all as it was.
  pub add_leaves : add_left l s ask ≡ grown_book l s (addition l s ask) ++ drop (length (grown_book l s (addition l s ask))) s
  unfolding add_left
  add_leaves = rw none (left_put (grown_book l s (addition l s ask)) s)

  -- Good stays good: the room begins with a good book,
  pub add_good : good_book l (add_left l s ask) ≡ true
  add_good = rw add_leaves (grown_facts l reads s b (addition l s ask) taken_so).0

  -- with one row more: every row that it held, the same bytes in the same order, and the new one last.
  pub add_rows : rows_of l (add_left l s ask) ≡ rows_of l s ++ (new_row (addition l s ask) ∷ [])
  add_rows = rw add_leaves (grown_facts l reads s b (addition l s ask) taken_so).1

  pub add_bytes : Bytes (add_left l s ask)
  add_bytes = rw add_leaves (grown_bytes l reads s b (addition l s ask) taken_so)

  -- The answer: the rows and the bytes of the book then.
  pub add_answer : added l s ask
      ≡ Ok (record { rows = length (rows_of l s) + 1; size = length (book_of l (rows_of l s)) + book_row l.width + length (addition l s ask).body })
  unfolding added grown grown_book new_row
  add_answer = rw (none, length_grown l (rows_of l s) (new_row (addition l s ask)))

  -- The new one is the latest of its machine,
  pub add_latest : latest (addition l s ask).machine (rows_of l (add_left l s ask)) ≡ (addition l s ask).began + 1
  unfolding new_row
  add_latest =
      let a = addition l s ask in
      rw (add_rows, latest_append a.machine (rows_of l s) (new_row a), eq-eqb a.machine a.machine refl)

  -- and every other machine's is as it was.
  pub add_others : (m : ℕ) → (m ≡ (addition l s ask).machine → ⊥) → latest m (rows_of l (add_left l s ask)) ≡ latest m (rows_of l s)
  unfolding new_row
  add_others m n =
      let a = addition l s ask in
      rw (add_rows, latest_append m (rows_of l s) (new_row a), ne_eqb a.machine m (λ e. n (sym e)))

  -- Nothing is lost: every edition that the book held it still holds, with the same body.
  pub add_holds : (m e : ℕ) → holds_edition m e (rows_of l s) ≡ true
      → (holds_edition m e (rows_of l (add_left l s ask)) ≡ true)
      × (edition_body m e (rows_of l (add_left l s ask)) ≡ edition_body m e (rows_of l s))
  add_holds m e h = rw add_rows (held_first m e (rows_of l s) (new_row (addition l s ask) ∷ []) h)

  -- The new one's body is what was given, or the old edition's, every byte.
  pub add_body : edition_body (addition l s ask).machine ((addition l s ask).began + 1) (rows_of l (add_left l s ask)) ≡ (addition l s ask).body
  unfolding new_row is_edition
  add_body =
      let a = addition l s ask in
      let t = taken_so in
      let absent : holds_edition a.machine (a.began + 1) (rows_of l s) ≡ false =
      holds_exactly a.machine (a.began + 1) (rows_of l s) (good_run l s t.good)
      ∙ rw (t.last, lt-leb (a.began + 1) a.began (omega arith), and-false (ltb 0 (a.began + 1))) in
      rw add_rows
      (held_last a.machine (a.began + 1) (rows_of l s) (new_row a) absent
      (rw (eq-eqb a.machine a.machine refl, eq-eqb (a.began + 1) (a.began + 1) refl))).1

-- ---- Any run of them

-- The row that is added is that of the request.
row_added : (l : BookLayout) (s : List ℕ) (ask : Ask) → new_row (addition l s ask) ≡ row_for (rows_of l s) ask
unfolding new_row addition row_for
row_added l s (save machine began body) = refl
row_added l s (restore machine old now) = refl

-- Rows that are added stand behind those that were there.
put_more : (rows : List Row) (asks : List Ask) → put_rows rows asks ≡ rows ++ more_rows rows asks
unfolding put_rows more_rows
put_more rows [] = sym (append-nil rows)
put_more rows (ask ∷ asks) =
    let new = row_for rows ask ∷ [] in
    put_more (rows ++ new) asks ∙ append_assoc rows new (more_rows (rows ++ new) asks)

bad_refused : (l : BookLayout) (s : List ℕ) (ask : Ask) → good_book l s ≡ false → add_refusal l s ask ≡ 0 → ⊥
bad_refused l s (save machine began body) f e = false≢true (sym f ∙ ((save_taken l s machine began body).0 e).0)
bad_refused l s (restore machine old now) f e = false≢true (sym f ∙ ((restore_taken l s machine old now).0 e).0)

-- One that was not answered with a book is passed over.
taken_none : (l : BookLayout) (s : List ℕ) (ask : Ask) (asks : List Ask) (answers : List (Result Booked Refusal)) → (add_refusal l s ask ≡ 0 → ⊥)
    → taken (ask ∷ asks) (added l s ask ∷ answers) ≡ taken asks answers
unfolding added grown taken
taken_none l s ask asks answers n = cases (add_refusal l s ask) n
  where
    cases : (k : ℕ) → (k ≡ 0 → ⊥) → taken (ask ∷ asks) (answered k (record { rows = length (rows_of l s) + 1; size = length (grown_book l s (addition l s ask)) }) ∷ answers) ≡ taken asks answers
    cases zero h = absurd (h refl)
    cases (suc k) h = refl

-- Over any run of saves and restores, accepted and refused mixed, the book is the first one with the accepted ones added, in
-- order.
module _ (l : BookLayout) (reads : Readable l) where
  -- Of bytes and a good book: what is asked is taken, and leaves the like, or nothing changes.
  either_way : {C : Type 0} (s : List ℕ) (ask : Ask) → AskOfBytes ask → Shelved l s
      → (Shelved l (add_left l s ask) → add_refusal l s ask ≡ 0 → C) → (add_left l s ask ≡ s → C) → C
  either_way s ask k g done kept =
      whether (eqb (add_refusal l s ask) 0)
      (λ t.
      let z = eqb-true (add_refusal l s ask) 0 t in
      done (record { bytes = add_bytes l reads s g.bytes ask k z; good = add_good l reads s g.bytes ask k z }) z)
      (λ f. kept (add_kept l s ask (λ e. eqb-false (add_refusal l s ask) 0 f (sym (add_number l s ask) ∙ e))))

  pub run_rows : (s : List ℕ) (asks : List Ask) → Shelved l s → AsksOfBytes asks
      → Shelved l (add_run l s asks) × (rows_of l (add_run l s asks) ≡ put_rows (rows_of l s) (taken asks (add_answers l s asks)))
  unfolding add_run add_answers taken put_rows
  run_rows s [] g h = (g, refl)
  run_rows s (ask ∷ asks) g (more_asks k h) =
      whether (eqb (add_refusal l s ask) 0)
      (λ t.
      let z = eqb-true (add_refusal l s ask) 0 t in
      let next : Shelved l (add_left l s ask) = record { bytes = add_bytes l reads s g.bytes ask k z; good = add_good l reads s g.bytes ask k z } in
      let r = run_rows (add_left l s ask) asks next h in
      (r.0, r.1 ∙ rw (add_answer l reads s g.bytes ask k z, add_rows l reads s g.bytes ask k z, row_added l s ask)))
      (λ f.
      let n = eqb-false (add_refusal l s ask) 0 f in
      let same : add_left l s ask ≡ s = add_kept l s ask (λ e. n (sym (add_number l s ask) ∙ e)) in
      let r = run_rows s asks g h in
      rw same (r.0, r.1 ∙ sym (ap (put_rows (rows_of l s)) (taken_none l s ask asks (add_answers l s asks) n))))

  -- The rows that it had stand first, the added ones behind them:
  pub run_first : (s : List ℕ) (asks : List Ask) → Shelved l s → AsksOfBytes asks
      → rows_of l (add_run l s asks) ≡ rows_of l s ++ more_rows (rows_of l s) (taken asks (add_answers l s asks))
  run_first s asks g h = (run_rows s asks g h).1 ∙ put_more (rows_of l s) (taken asks (add_answers l s asks))

  -- over a run too nothing is lost.
  pub run_holds : (s : List ℕ) (asks : List Ask) → Shelved l s → AsksOfBytes asks
      → (m e : ℕ) → holds_edition m e (rows_of l s) ≡ true
      → (holds_edition m e (rows_of l (add_run l s asks)) ≡ true)
      × (edition_body m e (rows_of l (add_run l s asks)) ≡ edition_body m e (rows_of l s))
  run_holds s asks g h m e k = rw (run_first s asks g h) (held_first m e (rows_of l s) _ k)

  -- A book never gets shorter,
  run_longer : (s : List ℕ) (asks : List Ask) → Shelved l s → AsksOfBytes asks
      → length (book_of l (rows_of l s)) ≤ length (book_of l (rows_of l (add_run l s asks)))
  unfolding add_run
  run_longer s [] g h = omega arith
  run_longer s (ask ∷ asks) g (more_asks k h) =
      either_way s ask k g
      (λ next z.
      let more = length_grown l (rows_of l s) (new_row (addition l s ask)) in
      let rows = ap (λ (r : List Row). length (book_of l r)) (add_rows l reads s g.bytes ask k z) in
      omega (arith, run_longer (add_left l s ask) asks next h, more, rows))
      (λ same. rw same (run_longer s asks g h))

  -- and past its end a room stays as it was.
  run_left : (s : List ℕ) (asks : List Ask) → Shelved l s → AsksOfBytes asks
      → add_run l s asks ≡ put (book_of l (rows_of l (add_run l s asks))) s
  unfolding add_run grown_book
  run_left s [] g h = book_stands l s g.good
  run_left s (ask ∷ asks) g (more_asks k h) =
      either_way s ask k g
      (λ next z.
      let u = add_run l (add_left l s ask) asks in
      let grew = grown_book l s (addition l s ask) in
      let longer = run_longer (add_left l s ask) asks next h in
      let rows = ap (λ (r : List Row). length (book_of l r)) (add_rows l reads s g.bytes ask k z) in
      run_left (add_left l s ask) asks next h
      ∙ ap (put (book_of l (rows_of l u))) (add_leaves l reads s g.bytes ask k z)
      ∙ put_put grew (book_of l (rows_of l u)) s (fits rows longer))
      (λ same. rw same (run_left s asks g h))
    where
      fits : {x y z : ℕ} → x ≡ y → x ≤ z → y ≤ z
      fits e h = rw (← e) h

  -- So all of the room is known: the book of those rows, and behind it what stood there.
  pub run_book : (s : List ℕ) (asks : List Ask) → Shelved l s → AsksOfBytes asks
      → add_run l s asks ≡ put (book_of l (put_rows (rows_of l s) (taken asks (add_answers l s asks)))) s
  run_book s asks g h =
      run_left s asks g h ∙ ap (λ (r : List Row). put (book_of l r) s) (run_rows s asks g h).1

  -- A room that does not begin with a good book stays, whatever is asked of it.
  pub run_bad : (s : List ℕ) (asks : List Ask) → good_book l s ≡ false → add_run l s asks ≡ s
  unfolding add_run
  run_bad s [] f = refl
  run_bad s (ask ∷ asks) f = rw (add_kept l s ask (λ e. bad_refused l s ask f (sym (add_number l s ask) ∙ e))) (run_bad s asks f)

-- ---- Two who began from the same edition

-- Whichever was first, and whatever others ask in between: a save of a good body and a restore by the second are refused with 28
-- and leave every byte, so no table is lost under another one.
module _ (l : BookLayout) (reads : Readable l) (s : List ℕ) (b : Bytes s) (ask : Ask) (given : AskOfBytes ask)
    (none : add_refusal l s ask ≡ 0) (asks : List Ask) (more : AsksOfBytes asks) where
  abbrev earlier : Addition
  earlier = addition l s ask

  abbrev left : List ℕ
  left = add_left l s ask

  abbrev later : List ℕ
  later = add_run l left asks

  shelved : Shelved l left
  shelved = record { bytes = add_bytes l reads s b ask given none; good = add_good l reads s b ask given none }

  later_good : good_book l later ≡ true
  later_good = (run_rows l reads left asks shelved more).0.good

  -- The edition that was saved first is still there, so the latest is no older.
  no_older : earlier.began < latest earlier.machine (rows_of l later)
  no_older =
      let m = earlier.machine in
      let e = earlier.began + 1 in
      let n = latest m (rows_of l later) in
      let new : holds_edition m e (rows_of l left) ≡ true =
      holds_exactly m e (rows_of l left) (good_run l left shelved.good)
      ∙ rw (add_latest l reads s b ask given none, lt-ltb 0 e (omega arith), le-leb e e (omega arith)) in
      let still = (run_holds l reads left asks shelved more m e new).0 in
      let p = and_parts (ltb 0 e) (leb e n) (sym (holds_exactly m e (rows_of l later) (good_run l later later_good)) ∙ still) in
      omega (arith, leb-true e n p.1)

  refused_late : (second : Ask) → add_refusal l later second ≡ 28 → (add_refusal l later second ≡ 28) × (add_left l later second ≡ later)
  refused_late second late = (late, add_kept l later second (λ e. omega (arith, late, sym (add_number l later second) ∙ e)))

  pub second_28 : (body : List ℕ) → body_refusal body ≡ 0
      → let second = save earlier.machine earlier.began body in
      (add_refusal l later second ≡ 28) × (add_left l later second ≡ later)
  second_28 body whole =
      refused_late (save earlier.machine earlier.began body)
      ((save_28 l later earlier.machine earlier.began body).1 (later_good, whole, λ e. omega (arith, e, no_older)))

  pub second_restore_28 : (old : ℕ)
      → let second = restore earlier.machine old earlier.began in
      (add_refusal l later second ≡ 28) × (add_left l later second ≡ later)
  second_restore_28 old =
      let m = earlier.machine in
      let n = latest m (rows_of l later) in
      let other : eqb n earlier.began ≡ false = ne_eqb n earlier.began (λ e. omega (arith, e, no_older)) in
      refused_late (restore m old earlier.began)
      ((restore_28 l later m old earlier.began).1 (later_good, rw (other, and-false (holds_edition m old (rows_of l later)))))
