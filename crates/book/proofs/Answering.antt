-- The ways out: what the code has found there, and the answer. Assumes nothing.
use Prim.Native.Nat.{ℕ, zero, suc, ◌+◌, ◌*◌, ◌≤◌, ◌<◌}
use Rattle.std.specs.Prelude.{Option, Some, None, Result, Ok, Err}
use Rattle.std.specs.Option.{ok_or}
use Rattle.std.proofs.lemmas.Option.{none-some, same_Some}
use mathlib.Core.Path.{◌≡◌, refl, sym, ap, ◌∙◌}
use mathlib.Core.Bool.{Bool, true, false, ◌&&◌}
use mathlib.Core.List.{List, []}
use native.Mathlib.Omega.{arith}
use lib.Dec.{leb}
use lib.ListN.{length}
use lib.Seq.{sets}
use borrow.Author.Tests.{le-leb}
use Rattle.mps.specs.Words.{among, each}
use Rattle.mps.specs.Numbers.{le}
use Rattle.mps.specs.Refusals.{refusal}
use Rattle.mps.specs.Reasons.{refusal_numbered}
use Rattle.mps.specs.Answers.{found_of}
use Rattle.mps.specs.Rooms.{too_small, fitted, fit_left}
use Rattle.mps.specs.Layout.{book_most, book_head, book_rows, book_row}
use Rattle.mps.specs.Book.{BookLayout, layout1, latest, editions_run, bodies_at, book_of, rows_of, good_book, bad_book}
use Rattle.mps.specs.History.{book_rules, book_refusal, booked, latest_told, edition_rules, edition_refusal, body_told}
use Rattle.mps.specs.History.{history_width, history_of, history_refusal, history_told, history_left}
use Rattle.mps.specs.declared.Booked.{Booked}
use Rattle.mps.specs.declared.refusals.Refusal.{Refusal}
use Rattle.mps.specs.declared.refusals.Refusal.TheVariants.{RoomTooSmall, BadBook, NotLatest}
use Rattle.laws.proofs.Answers.{answered_ok, answered_err, told, given_ok, given_err}
pub use Rattle.judge.proofs.Verdict.{asked_none, asked_some}
use Rattle.laws.proofs.Tests.{whether}
use Rattle.laws.proofs.Refusals.{number}
use Rattle.laws.proofs.Lent.{lent_early, left_kept, fit_put, fit_short, fit_late}
use Rattle.laws.proofs.Small.{Bytes}
use Rattle.pages.specs.Pages.{end_of, rows_most, Measured, Readable}
use Rattle.pages.proofs.Bytes.{readable1, length_rows_from, length_book, length_rows}
use Rattle.pages.proofs.Good.{book_most_lem, ends_good, bad_end, bad_editions, ends_rows, good_placed}
use Rattle.pages.proofs.Editions.{found_none, found_some, found_good}
use Rattle.pages.proofs.Answered.{book_answered}
use Rattle.rows.specs.declared.Row.{Row}
use Rattle.rows.specs.Fields.{found_row}
use Rattle.rows.proofs.Laws.{row_none, row_some}
use Rattle.book.specs.Listed.{rows_listed}
use Rattle.book.proofs.Laws.{rows_listed_lem}

-- ---- The number of a book

abbrev of_rows : BookLayout → List ℕ → Booked
of_rows l s = record { rows = length (rows_of l s); size = length (book_of l (rows_of l s)) }

module _ (l : BookLayout) (s : List ℕ) where
  pub bad_number : good_book l s ≡ false → book_refusal l s ≡ 27
  unfolding book_refusal book_rules bad_book refusal
  bad_number f = rw f

  is_refused_lem : good_book l s ≡ false → Err BadBook ≡ booked l s
  unfolding booked refusal_numbered
  is_refused_lem f = told (of_rows l s) (sym (bad_number f))

  is_book : good_book l s ≡ true → Ok (of_rows l s) ≡ booked l s
  unfolding booked
  is_book g = told (of_rows l s) (sym ((book_answered l s).1 g))

  -- And back: what is answered of a book tells whether it is good.
  module _ {found : Result Booked Refusal} (e : found ≡ booked l s) where
    pub booked_measured : {b : Booked} → found ≡ Ok b → Measured l s b.rows b.size
    unfolding booked
    booked_measured k =
        let g = given_ok (book_refusal l s) (of_rows l s) (sym k ∙ e) in
        record { good = (book_answered l s).0 g.0; count = rw g.1; ends = rw g.1 }

    -- A refusal is of the book, and of each call on it.
    pub booked_refused : {r : Refusal} → found ≡ Err r → (book_refusal l s ≡ 0 → ⊥) × (r ≡ refusal_numbered (book_refusal l s))
    unfolding booked
    booked_refused k = given_err (book_refusal l s) (of_rows l s) (sym k ∙ e)

    pub bad_refused : {r : Refusal} → found ≡ Err r → good_book l s ≡ false
    bad_refused k =
        whether (good_book l s) (λ g. absurd ((booked_refused k).0 ((book_answered l s).1 g))) (λ f. f)

-- ---- From where the bodies end, and whether the editions run

found_none_of : (n : ℕ) → None ≡ found_of n → n ≡ 0
found_none_of zero e = refl
found_none_of (suc n) e = absurd (none-some (suc n) e)

found_some_of : (n : ℕ) {k : ℕ} → Some k ≡ found_of n → (k ≡ n) × (n ≡ 0 → ⊥)
found_some_of zero {k} e = absurd (none-some k (sym e))
found_some_of (suc n) {k} e = (same_Some k (suc n) e, λ z. omega (arith, z))

-- The end that is asked for, or the refusal of a bad book.
module _ (s : List ℕ) {end : Option ℕ} (e : end ≡ found_of (end_of layout1 s)) {asked : Result ℕ Refusal} (q : asked ≡ ok_or end BadBook) where
  pub ends_nowhere : {r : Refusal} → asked ≡ Err r → Err r ≡ booked layout1 s
  ends_nowhere k =
      let f = asked_none end BadBook (sym k ∙ q) in
      rw f.1 (is_refused_lem layout1 s (bad_end layout1 s readable1 (found_none_of (end_of layout1 s) (sym f.0 ∙ e))))

  module _ (bytes : Bytes s) {size : ℕ} (k : asked ≡ Ok size) {r : Bool} (ran : r ≡ (leb (book_rows s) rows_most && editions_run [] (rows_of layout1 s))) where
    ended : (size ≡ end_of layout1 s) × (end_of layout1 s ≡ 0 → ⊥)
    ended = found_some_of (end_of layout1 s) (sym (asked_some end BadBook (sym k ∙ q)) ∙ e)

    runs : r ≡ editions_run [] (rows_of layout1 s)
    runs = ran ∙ rw (le-leb (book_rows s) rows_most (ends_rows s ended.1))

    pub ends_running : r ≡ true → {n : ℕ} → n ≡ le 2 s 1 → Ok (record { rows = n; size = size }) ≡ booked layout1 s
    ends_running t c =
        let g = ends_good layout1 s bytes ended.1 (sym runs ∙ t) in
        rw (ended.0, g.1, c, ← length_rows layout1 s) (is_book layout1 s g.0)

    pub ends_broken : r ≡ false → Err BadBook ≡ booked layout1 s
    ends_broken f = is_refused_lem layout1 s (bad_editions layout1 s (sym runs ∙ f))

-- ---- The latest edition

module _ (l : BookLayout) (s : List ℕ) (m : ℕ) {found : Result Booked Refusal} (e : found ≡ booked l s) where
  pub latest_refused : {r : Refusal} → found ≡ Err r → Err r ≡ latest_told l s m
  unfolding latest_told
  latest_refused k = let b = booked_refused l s e k in answered_err (book_refusal l s) _ b.0 b.1

  pub latest_given : {b : Booked} → found ≡ Ok b → {n : ℕ} → n ≡ latest m (rows_of l s) → Ok n ≡ latest_told l s m
  unfolding latest_told
  latest_given k q = let h = booked_measured l s e k in rw q (answered_ok (book_refusal l s) _ ((book_answered l s).1 h.good))

-- ---- The body of an edition

module _ (s : List ℕ) (m n : ℕ) {found : Result Booked Refusal} (e : found ≡ booked layout1 s) where
  pub body_refused : {r : Refusal} → found ≡ Err r → Err r ≡ body_told layout1 s m n
  unfolding body_told edition_refusal edition_rules book_refusal book_rules bad_book refusal
  body_refused k =
      let b = booked_refused layout1 s e k in
      let f = bad_refused layout1 s e k in
      let same : edition_refusal layout1 s m n ≡ book_refusal layout1 s = rw f in
      answered_err (edition_refusal layout1 s m n) _ (λ z. b.0 (sym same ∙ z)) (b.1 ∙ ap refusal_numbered (sym same))

  module _ {b : Booked} (k : found ≡ Ok b) {row : Option Row} (f : row ≡ found_row m n s) {asked : Result Row Refusal} (q : asked ≡ ok_or row NotLatest) where
    good : good_book layout1 s ≡ true
    good = (booked_measured layout1 s e k).good

    pub body_none : {r : Refusal} → asked ≡ Err r → Err r ≡ body_told layout1 s m n
    unfolding body_told edition_refusal edition_rules bad_book refusal refusal_numbered
    body_none z =
        let g = asked_none row NotLatest (sym z ∙ q) in
        rw (g.1, good, found_none layout1 m n s (row_none m n s (sym f ∙ g.0)))

    pub body_stands : {r : Row} → asked ≡ Ok r → Ok (record { size = r.size; start = r.start }) ≡ body_told layout1 s m n
    unfolding body_told edition_refusal edition_rules bad_book refusal
    body_stands z =
        let g = row_some m n s (sym f ∙ asked_some row NotLatest (sym z ∙ q)) in
        let tells = found_good layout1 m n s readable1 good g.0 in
        rw (good, found_some layout1 m n s g.0, g.1, tells.size, tells.begins)

-- ---- The history

abbrev pub Answers : BookLayout → List ℕ → List ℕ → Result ℕ Refusal → List ℕ → Type 0
Answers l s room r u = (r ≡ history_told l s room) × (u ≡ history_left l s room)

pub few_rows : (s : List ℕ) {found : Result Booked Refusal} → found ≡ booked layout1 s → {b : Booked} → found ≡ Ok b → book_head + b.rows * book_row 2 ≤ book_most
unfolding bodies_at
few_rows s e k =
    let m = booked_measured layout1 s e k in
    rw m.count (omega (arith, book_most_lem layout1 s m.good, length_book layout1 (rows_of layout1 s)))

module _ (l : BookLayout) (s room : List ℕ) where
  some : among 0 (each number (book_rules l s)) ≡ false
  unfolding book_rules among each
  some = refl

  pub history_refused : {found : Result Booked Refusal} → found ≡ booked l s → {r : Refusal} → found ≡ Err r → Answers l s room (Err r) room
  unfolding history_told history_left history_refusal book_refusal
  history_refused e {r} k =
      let b = booked_refused l s e k in
      let early = lent_early (book_rules l s) some (too_small (length (history_of l s)) room) refl b.0 in
      (rw early (answered_err (book_refusal l s) _ b.0 b.1), rw early (sym (left_kept (book_refusal l s) _ room b.0)))

  module _ (good : good_book l s ≡ true) {rows : ℕ} (e : rows ≡ length (rows_of l s)) where
    fitting : {r : Result ℕ Refusal} {u : List ℕ}
        → (r ≡ fitted (history_of l s) (length (rows_of l s)) room) × (u ≡ fit_left (history_of l s) room) → Answers l s room r u
    unfolding history_told history_left history_refusal book_refusal fitted fit_left
    fitting f =
        let k = fit_late (book_rules l s) some (history_of l s) room ((book_answered l s).1 good) in
        (rw k f.0, rw k f.1)

    size : length (history_of l s) ≡ rows * book_row history_width
    unfolding history_of
    size = length_rows_from history_width (bodies_at l.width (length (rows_of l s))) (rows_of l s) ∙ rw (← e)

    pub history_short : length room < rows * book_row history_width → Answers l s room (Err RoomTooSmall) room
    history_short h = fitting (fit_short (history_of l s) (length (rows_of l s)) room (omega (arith, size, h)))

    listed : Readable l → rows_listed l.width s book_head rows ≡ history_of l s
    unfolding history_of rows_of
    listed readable =
        let n = length_rows l s in
        rw (e, n) (rows_listed_lem l.width (length (book_of l (rows_of l s))) s (good_placed l s readable good))

    pub history_put :
        Readable l → rows * book_row history_width ≤ length room → {u : List ℕ} → u ≡ sets room 0 (rows_listed l.width s book_head rows)
        → Answers l s room (Ok rows) u
    history_put readable h g =
        fitting (fit_put (history_of l s) (length (rows_of l s)) room e (omega (arith, size, h)) (rw (← listed readable) g))
