-- The ways out of a save and of a restore: what has been tested and stored there, and the answer. Assumes nothing.
use Rattle.std.specs.Prelude.{Option, Result, Ok, Err}
use Rattle.std.specs.Option.{ok_or}
use Rattle.std.proofs.Common.{◌*◌, ◌≡◌, ℕ, ◌+◌, ◌-◌, ◌≤◌, false, List, length, sym, refl, ◌∙◌, arith}
use lib.Seq.{sets}
use Rattle.mps.specs.Words.{among, each, part, first}
use Rattle.mps.specs.Refusals.{refusal}
use Rattle.mps.specs.Reasons.{refusal_numbered}
use Rattle.mps.specs.Answers.{answered}
use Rattle.mps.specs.Layout.{book_most, book_head, book_row, body_start, body_size, edition_most}
use Rattle.mps.specs.Book.{layout1, body_rules, body_refusal, bodies_at, book_of, rows_of, good_book, bad_book}
use Rattle.mps.specs.History.{book_rules, booked, edition_body, edition_rules}
use Rattle.mps.specs.Saving.{Addition, grown_book, addition_rules, grown}
use Rattle.mps.specs.Saving.{Ask, save, restore, addition, ask_rules, add_refusal, added, add_left}
use Rattle.mps.specs.Judge.{table_rules}
use Rattle.mps.specs.declared.Booked.{Booked}
use Rattle.mps.specs.declared.refusals.Refusal.{Refusal}
use Rattle.mps.specs.declared.refusals.Refusal.TheVariants.{NotLatest}
use Rattle.laws.proofs.Answers.{answered_err, given_ok, given_err}
use Rattle.book.proofs.Answering.{asked_none, asked_some}
use Rattle.laws.proofs.Refusals.{number, first_some, refusal_append, refusal_stop, refusal_go}
use Rattle.laws.proofs.Lent.{left_kept, left_put}
use Rattle.pages.specs.Pages.{found_in, Measured}
use Rattle.pages.proofs.Bytes.{readable1}
use Rattle.pages.proofs.Editions.{Tells, found_none, found_some, found_good}
use Rattle.book.proofs.Answering.{booked_measured, booked_refused, bad_refused, bad_number as bad_book_number_lem}
use Rattle.rows.specs.declared.Row.{Row}
use Rattle.rows.specs.Fields.{fields_at, found_row}
use Rattle.rows.proofs.Laws.{row_none, row_some}
use Rattle.saving.specs.Steps.{addition_number, grown_room}
use Rattle.saving.proofs.Tests.{length_added, held_within, Fits, number_fits, number_sized, Grows, fits_grow}
use Rattle.saving.proofs.Stores.{grown_book_lem}

abbrev pub Answers : List ℕ → Ask → Result Booked Refusal → List ℕ → Type 0
Answers s ask r u = (r ≡ added layout1 s ask) × (u ≡ add_left layout1 s ask)

-- ---- The answer, from the number

bad_number : (s : List ℕ) (ask : Ask) → good_book layout1 s ≡ false → add_refusal layout1 s ask ≡ 27
unfolding add_refusal ask_rules book_rules edition_rules bad_book
bad_number s (save m began b) f = refusal_stop 27 _ (rw f)
bad_number s (restore m old now) f = refusal_stop 27 _ (rw f)

module _ (s : List ℕ) (ask : Ask) where
  refuses : {n : ℕ} {r : Refusal} → add_refusal layout1 s ask ≡ n → (n ≡ 0 → ⊥) → r ≡ refusal_numbered n → Answers s ask (Err r) s
  unfolding added grown add_left
  refuses {n} e z q = (rw e (answered_err n _ z q), rw e (sym (left_kept n _ s z)))

  -- 27.
  pub bad_book_lem : {found : Result Booked Refusal} → found ≡ booked layout1 s → {r : Refusal} → found ≡ Err r → Answers s ask (Err r) s
  bad_book_lem e k =
      let f = bad_refused layout1 s e k in
      let b = booked_refused layout1 s e k in
      refuses (bad_number s ask f ∙ sym (bad_book_number_lem layout1 s f)) b.0 b.1

  -- Nothing but the addition is left to test.
  module _ (alone : add_refusal layout1 s ask ≡ refusal (addition_rules layout1 s (addition layout1 s ask))) where
    abbrev new : Addition
    new = addition layout1 s ask

    abbrev number_new : ℕ
    number_new = addition_number s new.machine new.began (length new.body)

    module _ {x : Result (Unit {0}) Refusal} (e : x ≡ answered number_new (tt {0})) where
      told : add_refusal layout1 s ask ≡ number_new
      told = alone ∙ number_sized s new

      late : {r : Refusal} → x ≡ Err r → Answers s ask (Err r) s
      late q = let g = given_err number_new (tt {0}) (sym q ∙ e) in refuses told g.0 g.1

      passed : {u : Unit {0}} → x ≡ Ok u → add_refusal layout1 s ask ≡ 0
      passed q = told ∙ (given_ok number_new (tt {0}) (sym q ∙ e)).0

      fits : {u : Unit {0}} → x ≡ Ok u → Fits layout1 s new
      fits q = number_fits layout1 s new (sym alone ∙ passed q)

      -- The body has been put one row behind the end, and the book has grown.
      done :
          (rows size : ℕ) → Measured layout1 s rows size → {u : Unit {0}} → x ≡ Ok u → {w : List ℕ} → w ≡ sets s (size + book_row 2) new.body
          → {b : Booked} {v : List ℕ} → b.rows ≡ rows + 1 → b.size ≡ size + book_row 2 + length new.body
          → v ≡ grown_room w rows size new.machine (new.began + 1) (length new.body)
          → Answers s ask (Ok b) v
      unfolding added grown add_left
      done rows size held z p {b} g h w =
          let f = fits z in
          let k = passed z in
          let ends = held.ends in
          let book = grown_book_lem s rows size new held (rw ends f.inside) (rw ends f.most) p w in
          let count : b.rows ≡ length (rows_of layout1 s) + 1 = g ∙ rw held.count in
          let long : b.size ≡ length (grown_book layout1 s new) = h ∙ rw ends (sym (length_added layout1 s new)) in (
            rw k (rw (← count, ← long)),
            rw k (book ∙ sym (left_put (grown_book layout1 s new) s)),
          )

-- The room of a good book.
pub room_within : (s : List ℕ) {found : Result Booked Refusal} → found ≡ booked layout1 s → {b : Booked} → found ≡ Ok b
    → (book_head + b.rows * book_row 2 ≤ b.size) × (b.size ≤ length s) × (b.size ≤ book_most) × (b.size ≡ length (book_of layout1 (rows_of layout1 s)))
room_within s e {b} k =
    let m = booked_measured layout1 s e k in
    let w = held_within s b.rows b.size m in (w.0, w.1, w.2, m.ends)

-- ---- A save

body_given : (b : List ℕ) → among 0 (each number (body_rules b)) ≡ false
unfolding body_rules table_rules among each
body_given b = refl

module _ (s : List ℕ) (m began : ℕ) (b : List ℕ) {found : Result Booked Refusal} (e : found ≡ booked layout1 s) {bk : Booked} (k : found ≡ Ok bk)
    {own : Result (Unit {0}) Refusal} (o : own ≡ answered (body_refusal b) (tt {0}))
  where
    save_held : Measured layout1 s bk.rows bk.size
    save_held = booked_measured layout1 s e k

    save_number :
        add_refusal layout1 s (save m began b)
        ≡ first (body_refusal b) (refusal (addition_rules layout1 s (addition layout1 s (save m began b))))
    unfolding add_refusal ask_rules book_rules bad_book body_refusal
    save_number = refusal_go 27 _ (rw save_held.good) ∙ refusal_append (body_rules b) _ (body_given b)

    -- The body's own number.
    pub save_own : {r : Refusal} → own ≡ Err r → Answers s (save m began b) (Err r) s
    save_own q =
        let g = given_err (body_refusal b) (tt {0}) (sym q ∙ o) in
        refuses s (save m began b) (save_number ∙ first_some (body_refusal b) _ g.0) g.0 g.1

    module _ {y : Unit {0}} (z : own ≡ Ok y) where
      save_alone :
          add_refusal layout1 s (save m began b) ≡ refusal (addition_rules layout1 s (addition layout1 s (save m began b)))
      save_alone = let none = (given_ok (body_refusal b) (tt {0}) (sym z ∙ o)).0 in save_number ∙ rw none

      module _ {x : Result (Unit {0}) Refusal} (t : x ≡ answered (addition_number s m began (length b)) (tt {0})) where
        pub save_late : {r : Refusal} → x ≡ Err r → Answers s (save m began b) (Err r) s
        unfolding addition
        save_late q = late s (save m began b) save_alone t q

        module _ {v : Unit {0}} (none : x ≡ Ok v) where
          pub save_next : began ≡ edition_most → ⊥
          unfolding addition
          save_next = (fits s (save m began b) save_alone t none).next

          module _ {u : List ℕ} (p : u ≡ sets s (bk.size + book_row 2) b) where
            pub save_grows : Grows bk.rows bk.size (length b) u
            unfolding addition
            save_grows =
                fits_grow s (addition layout1 s (save m began b)) bk.rows bk.size save_held
                (fits s (save m began b) save_alone t none) (bk.size + book_row 2) b p

            pub save_done :
                {g : Booked} {w : List ℕ} → g.rows ≡ bk.rows + 1 → g.size ≡ bk.size + book_row 2 + length b
                → w ≡ grown_room u bk.rows bk.size m (began + 1) (length b) → Answers s (save m began b) (Ok g) w
            unfolding addition
            save_done h i j = done s (save m began b) save_alone t bk.rows bk.size save_held none p h i j

-- ---- A restore

module _ (s : List ℕ) (m old latest : ℕ) {found : Result Booked Refusal} (e : found ≡ booked layout1 s) {bk : Booked} (k : found ≡ Ok bk)
    {row : Option Row} (f : row ≡ found_row m old s) {asked : Result Row Refusal} (q : asked ≡ ok_or row NotLatest)
  where
    abbrev body : List ℕ
    body = edition_body m old (rows_of layout1 s)

    held : Measured layout1 s bk.rows bk.size
    held = booked_measured layout1 s e k

    -- The book does not hold the edition.
    pub restore_none : {r : Refusal} → asked ≡ Err r → Answers s (restore m old latest) (Err r) s
    unfolding add_refusal ask_rules edition_rules bad_book refusal_numbered
    restore_none z =
        let g = asked_none row NotLatest (sym z ∙ q) in
        refuses s (restore m old latest)
        (refusal_go 27 _ (rw held.good) ∙ refusal_stop 28 _ (rw (found_none layout1 m old s (row_none m old s (sym f ∙ g.0)))))
        (λ y. omega (arith, y))
        g.1

    module _ {r : Row} (some : asked ≡ Ok r) where
      there : (found_in layout1 m old s ≡ 0 → ⊥) × (r ≡ fields_at s (found_in layout1 m old s))
      there = row_some m old s (sym f ∙ asked_some row NotLatest (sym some ∙ q))

      restore_alone :
          add_refusal layout1 s (restore m old latest)
          ≡ refusal (addition_rules layout1 s (addition layout1 s (restore m old latest)))
      unfolding add_refusal ask_rules edition_rules bad_book
      restore_alone = refusal_go 27 _ (rw held.good) ∙ refusal_go 28 _ (rw (found_some layout1 m old s there.0))

      tells : Tells m old 2 s (bodies_at 2 (length (rows_of layout1 s))) (rows_of layout1 s) bk.size (found_in layout1 m old s)
      tells = rw held.ends (found_good layout1 m old s readable1 held.good there.0)

      -- Where the old body stands, and how many bytes it has.
      begins : r.start ≡ body_start 2 s (found_in layout1 m old s)
      begins = rw there.1

      sized : r.size ≡ body_size 2 s (found_in layout1 m old s)
      sized = rw there.1

      pub restore_stands : r.start + r.size ≤ bk.size
      restore_stands = omega (arith, begins, sized, tells.ends)

      long : r.size ≡ length body
      long = sized ∙ tells.size

      module _ {x : Result (Unit {0}) Refusal} (t : x ≡ answered (addition_number s m latest r.size) (tt {0})) where
        known : x ≡ answered (addition_number s m latest (length body)) (tt {0})
        known = rw long at t

        pub restore_late : {n : Refusal} → x ≡ Err n → Answers s (restore m old latest) (Err n) s
        unfolding addition
        restore_late z = late s (restore m old latest) restore_alone known z

        module _ {y : Unit {0}} (none : x ≡ Ok y) where
          pub restore_next : latest ≡ edition_most → ⊥
          unfolding addition
          restore_next = (fits s (restore m old latest) restore_alone known none).next

          -- The old body has been raised, to one row behind the end.
          module _ {u : List ℕ} (w : u ≡ sets s (r.start + (bk.size + book_row 2 - r.start)) (part r.start (r.start + r.size) s)) where
            copied : u ≡ sets s (bk.size + book_row 2) body
            copied =
                let place : r.start + (bk.size + book_row 2 - r.start) ≡ bk.size + book_row 2 = omega (arith, restore_stands) in
                let stands : part r.start (r.start + r.size) s ≡ body = rw (begins, sized) tells.stands in
                w ∙ rw (place, stands)

            pub restore_grows : Grows bk.rows bk.size r.size u
            unfolding addition
            restore_grows =
                rw long
                (fits_grow s (addition layout1 s (restore m old latest)) bk.rows bk.size held
                (fits s (restore m old latest) restore_alone known none) (bk.size + book_row 2) body copied)

            pub restore_done :
                {g : Booked} {v : List ℕ} → g.rows ≡ bk.rows + 1 → g.size ≡ bk.size + book_row 2 + r.size
                → v ≡ grown_room u bk.rows bk.size m (latest + 1) r.size → Answers s (restore m old latest) (Ok g) v
            unfolding addition
            restore_done h i j =
                done s (restore m old latest) restore_alone known bk.rows bk.size held none copied
                h (rw long at i) (rw long at j)
