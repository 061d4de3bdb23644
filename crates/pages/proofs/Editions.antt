-- The editions of a machine: the latest, one row more, how they rise, and where one stands. Assumes nothing.
use Prim.Native.Nat.{ℕ, zero, suc, ◌+◌, ◌*◌, ◌≤◌, ◌<◌}
use mathlib.Core.Path.{◌≡◌, refl, sym, ap, ◌∙◌}
use mathlib.Core.Bool.{Bool, true, false, cond, not, ◌&&◌, false≢true, and-true, and_assoc}
use mathlib.Core.List.{List, [], ◌∷◌, ◌++◌, append-nil, append_assoc}
use native.Mathlib.Numerals.{add-one}
use native.Mathlib.Omega.{arith}
use native.Mathlib.Nat.{suc-mul}
use lib.ListN.{length}
use lib.Dec.{ltb, leb, eqb}
use borrow.Author.Tests.{ltb-true, leb-true, eqb-true, lt-ltb, le-leb, eq-eqb, ne_eqb}
use Rattle.mps.specs.Words.{among, last, keep, any, every, each, rising, part}
use Rattle.mps.specs.Layout.{book_head, book_rows, book_row, body_start, body_size}
use Rattle.mps.specs.Book.{Row, BookLayout, layout1, body_in, edition_of, of_machine, latest, editions_run, good_body}
use Rattle.mps.specs.Book.{bodies_at, book_of, row_at, rows_at, rows_of, good_book}
use Rattle.mps.specs.History.{is_edition, holds_edition, edition_body, edition_start}
use Rattle.laws.proofs.Tests.{eqb_comm, whether, same_test, and_parts}
use Rattle.laws.proofs.Lists.{among_none, among_cases, keep_in, keep_out}
use Rattle.laws.proofs.Rising.{among_rising}
use Rattle.laws.proofs.Small.{Bytes}
use Rattle.numbers.proofs.Laws.{le_below}
use Rattle.pages.specs.Pages.{Readable, found_from, found_in, fitting}
use Rattle.pages.proofs.Bytes.{length_rows, row_body}
use Rattle.pages.proofs.Placed.{Placed, placed_none, placed_row}
use Rattle.pages.proofs.Again.{fit_first}
use Rattle.pages.proofs.Good.{good_placed}

-- ---- The latest edition

abbrev is_of : ℕ → Row → Bool
is_of m r = eqb r.machine m

-- The last number of a machine's editions, or what is given where it has none.
last_of : ℕ → ℕ → List Row → ℕ
last_of d m rows = last d (each edition_of (keep (is_of m) rows))

last_append :
    (d m : ℕ) (rows : List Row) (r : Row) → last_of d m (rows ++ (r ∷ [])) ≡ cond (is_of m r) r.edition (last_of d m rows)
unfolding last_of last each keep
last_append d m [] r = whether (is_of m r) (λ e. rw (e, keep)) (λ e. rw (e, keep))
last_append d m (x ∷ rows) r =
    whether (is_of m x)
    (λ e. rw (e, keep) (last_append x.edition m rows r))
    (λ e. rw (e, keep) (last_append d m rows r))

-- It is that of the row behind, where that is the machine's, and else as before.
pub latest_append :
    (m : ℕ) (rows : List Row) (r : Row) → latest m (rows ++ (r ∷ [])) ≡ cond (eqb r.machine m) r.edition (latest m rows)
unfolding latest of_machine last_of
latest_append m rows r = last_append 0 m rows r

-- Where editions have two bytes each, it has too.
last_below : (d m : ℕ) (rows : List Row) → d < 65536 → fitting rows ≡ true → last_of d m rows < 65536
unfolding last_of last each keep fitting every
last_below d m [] h f = h
last_below d m (x ∷ rows) h f =
    let p = fit_first x rows f in
    whether (is_of m x)
    (λ e. rw (e, keep) (last_below x.edition m rows p.1 p.2))
    (λ e. rw (e, keep) (last_below d m rows h p.2))

pub latest_below : (m : ℕ) (rows : List Row) → fitting rows ≡ true → latest m rows < 65536
unfolding latest of_machine last_of
latest_below m rows f = last_below 0 m rows (omega arith) f

-- ---- Editions that run

run_append :
    (before a b : List Row) → editions_run before (a ++ b) ≡ (editions_run before a && editions_run (before ++ a) b)
unfolding editions_run
run_append before [] b = rw (append-nil before)
run_append before (r ∷ a) b =
    let here = eqb r.edition (latest r.machine before + 1) in
    let rest = editions_run (before ++ (r ∷ [])) a in
    rw (run_append (before ++ (r ∷ [])) a b, append_assoc before (r ∷ []) a)
    (sym (and_assoc here rest (editions_run (before ++ (r ∷ a)) b)))

-- One row more: it is the next of its machine.
pub run_more :
    (rows : List Row) (r : Row)
    → editions_run [] (rows ++ (r ∷ [])) ≡ (editions_run [] rows && eqb r.edition (latest r.machine rows + 1))
unfolding editions_run
run_more rows r =
    run_append [] rows (r ∷ [])
    ∙ ap (λ (b : Bool). editions_run [] rows && b) (and-true (eqb r.edition (latest r.machine rows + 1)))

-- "A machine's editions run from 1 without a gap, rising in row order" (document 02): behind others they go on where those
-- end.
rise_behind :
    (m : ℕ) (before rows : List Row) → editions_run before rows ≡ true
    → each edition_of (of_machine m rows) ≡ rising (length (of_machine m rows)) (latest m before + 1)
unfolding editions_run of_machine each rising keep
rise_behind m before [] h = refl
rise_behind m before (r ∷ rows) h =
    let p = and_parts (eqb r.edition (latest r.machine before + 1)) (editions_run (before ++ (r ∷ [])) rows) h in
    let next = eqb-true r.edition (latest r.machine before + 1) p.0 in
    let rest = rise_behind m (before ++ (r ∷ [])) rows p.1 in
    let after = latest_append m before r in
    whether (is_of m r)
    (λ t.
    let here : r.edition ≡ latest m before + 1 = rw (eqb-true r.machine m t) at next in
    let then : latest m (before ++ (r ∷ [])) + 1 ≡ suc (latest m before + 1) = omega (arith, here, rw t at after) in
    rw (keep_in (is_of m) r rows t, here, rest, then))
    (λ f. rw (keep_out (is_of m) r rows f) (rest ∙ ap (λ (k : ℕ). rising (length (of_machine m rows)) (k + 1)) (rw f at after)))

pub editions_rise :
    (m : ℕ) (rows : List Row) → editions_run [] rows ≡ true
    → each edition_of (of_machine m rows) ≡ rising (length (of_machine m rows)) 1
unfolding latest of_machine each keep last
editions_rise m rows h = rise_behind m [] rows h

last_rising : (n d : ℕ) → last d (rising n (d + 1)) ≡ d + n
unfolding last rising
last_rising zero d = omega arith
last_rising (suc n) d = rw (← add-one (d + 1)) (last_rising n (d + 1) ∙ omega arith)

-- The latest is how many they are.
pub latest_count : (m : ℕ) (rows : List Row) → editions_run [] rows ≡ true → latest m rows ≡ length (of_machine m rows)
unfolding latest
latest_count m rows h = ap (last 0) (editions_rise m rows h) ∙ last_rising (length (of_machine m rows)) 0 ∙ omega arith

holds_among : (m e : ℕ) (rows : List Row) → holds_edition m e rows ≡ among e (each edition_of (of_machine m rows))
unfolding holds_edition any is_edition among each of_machine keep
holds_among m e [] = refl
holds_among m e (r ∷ rows) =
    whether (is_of m r)
    (λ t. rw (keep_in (is_of m) r rows t, t, eqb_comm r.edition e, holds_among m e rows))
    (λ f. rw (keep_out (is_of m) r rows f, f) (holds_among m e rows))

rising_bounds : (n k x : ℕ) → among x (rising n k) ≡ true → (k ≤ x) × (x < k + n)
unfolding rising
rising_bounds zero k x h = absurd (among_none x h)
rising_bounds (suc n) k x h =
    among_cases x k (rising n (suc k)) h
    (λ e. (omega (arith, e), omega (arith, e)))
    (λ t. let b = rising_bounds n (suc k) x t in (omega (arith, b.0), omega (arith, b.1)))

-- They hold the editions from 1 to the latest.
pub holds_exactly :
    (m e : ℕ) (rows : List Row) → editions_run [] rows ≡ true → holds_edition m e rows ≡ (ltb 0 e && leb e (latest m rows))
holds_exactly m e rows h =
    let n = length (of_machine m rows) in
    holds_among m e rows
    ∙ rw (editions_rise m rows h, latest_count m rows h)
    (same_test (among e (rising n 1)) (ltb 0 e && leb e n)
    (λ t. let b = rising_bounds n 1 e t in rw (lt-ltb 0 e (omega (arith, b.0)), le-leb e n (omega (arith, b.1))))
    (λ t.
    let p = and_parts (ltb 0 e) (leb e n) t in
    let some = ltb-true 0 e p.0 in
    let most = leb-true e n p.1 in
    among_rising n 1 e (omega (arith, some)) (omega (arith, most))))

-- ---- Where an edition stands

module _ (m e w : ℕ) (s : List ℕ) (at n : ℕ) where
  pub found_here : is_edition m e (row_at w s at) ≡ true → found_from w m e s at (suc n) ≡ at
  unfolding is_edition row_at found_from
  found_here t = rw (found_from, t)

  pub found_next : is_edition m e (row_at w s at) ≡ false → found_from w m e s at (suc n) ≡ found_from w m e s (at + book_row w) n
  unfolding is_edition row_at found_from
  found_next f = rw (found_from, f)

-- A place is found exactly where a row is the edition. (No row begins at place 0.)
found_from_lem :
    (m e w : ℕ) (s : List ℕ) (at n : ℕ) → 0 < at → holds_edition m e (rows_at w s at n) ≡ not (eqb (found_from w m e s at n) 0)
unfolding holds_edition any rows_at found_from
found_from_lem m e w s at zero h = refl
found_from_lem m e w s at (suc n) h =
    whether (is_edition m e (row_at w s at))
    (λ t. rw (t, found_here m e w s at n t, ne_eqb at 0 (λ z. omega (arith, h, z))))
    (λ f. rw (f, found_next m e w s at n f) (found_from_lem m e w s (at + book_row w) n (omega arith)))

module _ (l : BookLayout) (m e : ℕ) (s : List ℕ) where
  held : holds_edition m e (rows_of l s) ≡ not (eqb (found_in l m e s) 0)
  unfolding rows_of found_in
  held = found_from_lem m e l.width s book_head (book_rows s) (omega arith)

  pub found_none : found_in l m e s ≡ 0 → holds_edition m e (rows_of l s) ≡ false
  found_none z = held ∙ ap not (eq-eqb (found_in l m e s) 0 z)

  pub found_some : (found_in l m e s ≡ 0 → ⊥) → holds_edition m e (rows_of l s) ≡ true
  found_some z = held ∙ ap not (ne_eqb (found_in l m e s) 0 z)

-- It stands no further on than where the rows end,
found_within : (m e w : ℕ) (s : List ℕ) (at n : ℕ) → found_from w m e s at n ≤ at + n * book_row w
unfolding found_from
found_within m e w s at zero = omega arith
found_within m e w s at (suc n) =
    let rows = suc-mul n (book_row w) in
    whether (is_edition m e (row_at w s at))
    (λ t. omega (arith, found_here m e w s at n t, rows))
    (λ f. omega (arith, found_next m e w s at n f, found_within m e w s (at + book_row w) n, rows))

-- so of layout 1 it is small, and a field's place added to it does not overflow.
pub found_small : (m e : ℕ) (s : List ℕ) {at : ℕ} → at ≡ found_in layout1 m e s → Bytes s → at < 1048576
unfolding found_in
found_small m e s q b = omega (arith, q, found_within m e 2 s book_head (book_rows s), le_below 2 s 1 b)

-- The row at a place tells of the body of an edition, which begins where the bodies of the rows before it end, and ends at
-- `end` at most.
pub record Tells (m e w : ℕ) (s : List ℕ) (start : ℕ) (rows : List Row) (end at : ℕ) : Type 0 where
  pub begins : body_start w s at ≡ edition_start m e start rows
  pub size : body_size w s at ≡ length (edition_body m e rows)
  pub stands : part (body_start w s at) (body_start w s at + body_size w s at) s ≡ edition_body m e rows
  pub ends : body_start w s at + body_size w s at ≤ end

-- The first row is the edition, or it is not.
module _ (m e start : ℕ) (r : Row) (rows : List Row) where
  start_here : is_edition m e r ≡ true → edition_start m e start (r ∷ rows) ≡ start
  unfolding edition_start
  start_here t = rw t

  start_next :
      is_edition m e r ≡ false → edition_start m e start (r ∷ rows) ≡ edition_start m e (start + length r.body) rows
  unfolding edition_start
  start_next f = rw f

  body_here : is_edition m e r ≡ true → edition_body m e (r ∷ rows) ≡ r.body
  unfolding edition_body each
  body_here t = rw (keep_in (is_edition m e) r rows t)

  body_next : is_edition m e r ≡ false → edition_body m e (r ∷ rows) ≡ edition_body m e rows
  unfolding edition_body
  body_next f = rw (keep_out (is_edition m e) r rows f)

module _ (m e w limit : ℕ) (s : List ℕ) where
  found_placed :
      {at start n : ℕ} → Placed w limit s at start n → (found_from w m e s at n ≡ 0 → ⊥)
      → Tells m e w s start (rows_at w s at n) limit (found_from w m e s at n)
  unfolding rows_at found_from
  found_placed placed_none here = absurd (here refl)
  found_placed (placed_row {at} {start} {n} f p) here =
      let r = row_at w s at in
      let rows = rows_at w s (at + book_row w) n in
      whether (is_edition m e r)
      (λ t. rw (found_here m e w s at n t) (record {
        begins = f.starts ∙ sym (start_here m e start r rows t);
        size = f.sized ∙ ap length (sym (body_here m e start r rows t));
        stands = sym (row_body w s at) ∙ sym (body_here m e start r rows t);
        ends = omega (arith, f.starts, f.sized, f.ends);
      }))
      (λ o.
      let rest = found_placed p (λ z. here (found_next m e w s at n o ∙ z)) in
      rw (found_next m e w s at n o) (record {
        begins = rest.begins ∙ sym (start_next m e start r rows o);
        size = rest.size ∙ ap length (sym (body_next m e start r rows o));
        stands = rest.stands ∙ sym (body_next m e start r rows o);
        ends = rest.ends;
      }))

-- In a good book a row that is found tells of the edition's body.
pub found_good :
    (l : BookLayout) (m e : ℕ) (s : List ℕ) → Readable l → good_book l s ≡ true → (found_in l m e s ≡ 0 → ⊥)
    → let w = l.width in
    let rows = rows_of l s in
    Tells m e w s (bodies_at w (length rows)) rows (length (book_of l rows)) (found_in l m e s)
unfolding found_in rows_of
found_good l m e s r g here =
    rw (length_rows l s) (found_placed m e l.width (length (book_of l (rows_of l s))) s (good_placed l s r g) here)

-- An edition that it holds is found.
pub held_tells :
    (l : BookLayout) (m e : ℕ) (s : List ℕ) → Readable l → good_book l s ≡ true → holds_edition m e (rows_of l s) ≡ true
    → let w = l.width in
    let rows = rows_of l s in
    Tells m e w s (bodies_at w (length rows)) rows (length (book_of l rows)) (found_in l m e s)
held_tells l m e s r g h = found_good l m e s r g (λ z. false≢true (sym (found_none l m e s z) ∙ h))

-- The body of an edition that good rows hold is good.
pub held_good : (m e : ℕ) (rows : List Row) → every good_body (each body_in rows) ≡ true → holds_edition m e rows ≡ true
    → good_body (edition_body m e rows) ≡ true
unfolding every each holds_edition any edition_body
held_good m e [] g h = absurd (false≢true h)
held_good m e (r ∷ rows) g h =
    let p = and_parts (good_body r.body) (every good_body (each body_in rows)) g in
    whether (is_edition m e r)
    (λ t. rw (keep_in (is_edition m e) r rows t) p.0)
    (λ f. rw (keep_out (is_edition m e) r rows f) (held_good m e rows p.1 (rw f at h)))
