-- 28 and 29, as the code tests them, and what the room is like where neither is given. Assumes nothing.
use Rattle.std.proofs.Common.{◌≡◌, ℕ, ◌+◌, ◌*◌, ◌≤◌, true, false, ◌||◌, ltb, List, [], ◌∷◌, length, replicate, sym, ◌∙◌, arith, eq-eqb, ne_eqb}
use Rattle.std.specs.Prelude.{Result, Ok, Err}
use mathlib.Core.Bool.{or-true}
use lib.ListN.{length-replicate}
use lib.Seq.{sets, length-sets}
use Rattle.mps.specs.Refusals.{◌when◌, refusal}
use Rattle.mps.specs.Rooms.{too_small}
use Rattle.mps.specs.Layout.{book_most, book_head, book_row, edition_most}
use Rattle.mps.specs.Book.{BookLayout, layout1, latest, bodies_at, book_of, rows_of}
use Rattle.mps.specs.Saving.{Addition, new_row, grown_book, not_latest, book_full, addition_rules}
use Rattle.laws.proofs.Refusals.{refusal_stop, refusal_go, refusal_end}
use Rattle.mps.specs.Reasons.{refusal_numbered}
use Rattle.mps.specs.Answers.{answered}
use Rattle.mps.specs.declared.refusals.Refusal.{Refusal}
use Rattle.mps.specs.declared.refusals.Refusal.TheVariants.{NotLatest, BookFull}
use Rattle.laws.proofs.Answers.{answered_ok, told}
use Rattle.pages.specs.Pages.{Measured}
use Rattle.pages.proofs.Bytes.{length_book}
use Rattle.pages.proofs.Good.{book_inside, book_most_lem}
use Rattle.pages.proofs.Grown.{length_grown}
use Rattle.pages.proofs.Answered.{addition_answered, not_full}
use Rattle.saving.specs.Steps.{addition_number}

-- ---- A good book

-- Its rows, its end, and the room.
pub held_within :
    (s : List ℕ) (rows size : ℕ) → Measured layout1 s rows size
    → (book_head + rows * book_row 2 ≤ size) × (size ≤ length s) × (size ≤ book_most)
unfolding bodies_at
held_within s rows size h =
    let e = h.ends in
    let n = h.count in (
      omega (arith, e, n, length_book layout1 (rows_of layout1 s)),
      rw e (book_inside layout1 s h.good),
      rw e (book_most_lem layout1 s h.good),
    )

-- ---- The two rows

module _ (l : BookLayout) (s : List ℕ) (a : Addition) where
  pub length_added :
      length (grown_book l s a) ≡ length (book_of l (rows_of l s)) + book_row l.width + length a.body
  unfolding grown_book new_row
  length_added = length_grown l (rows_of l s) (new_row a)

  -- What the two tests have shown.
  pub record Fits : Type 0 where
    pub next : a.began ≡ edition_most → ⊥
    pub most : length (book_of l (rows_of l s)) + book_row l.width + length a.body ≤ l.most
    pub inside : length (book_of l (rows_of l s)) + book_row l.width + length a.body ≤ length s

  pub number_fits : refusal (addition_rules l s a) ≡ 0 → Fits
  number_fits e =
      let told = addition_answered l s a e in
      let room = not_full l s a told.1 in
      record {
        next = λ k. room.2 (told.0 ∙ k);
        most = rw length_added at room.0;
        inside = rw length_added at room.1;
      }

-- What growing asks for, wherever the body has been put.
abbrev pub Grows : ℕ → ℕ → ℕ → List ℕ → Type 0
Grows rows size more u = (book_head + rows * book_row 2 ≤ size) × (size + book_row 2 + more ≤ book_most) × (size ≤ length u)

pub fits_grow :
    (s : List ℕ) (a : Addition) (rows size : ℕ) → Measured layout1 s rows size → Fits layout1 s a
    → (at : ℕ) (w : List ℕ) {u : List ℕ} → u ≡ sets s at w → Grows rows size (length a.body) u
fits_grow s a rows size held f at w e =
    let h = held_within s rows size held in
    (h.0, rw held.ends f.most, rw (e, length-sets s at w) h.1)

-- The numbers are the same for every body of so many bytes.
pub number_sized :
    (s : List ℕ) (a : Addition)
    → refusal (addition_rules layout1 s a) ≡ addition_number s a.machine a.began (length a.body)
unfolding addition_number addition_rules not_latest book_full
number_sized s a =
    let b : Addition = record { machine = a.machine; began = a.began; body = replicate (length a.body) 0 } in
    rw (length_added layout1 s a, length_added layout1 s b, length-replicate {A = ℕ} (length a.body) 0)

-- ---- As the code tests them

module _ (s : List ℕ) (m began more : ℕ) {now : ℕ} (e : now ≡ latest m (rows_of layout1 s)) where
  abbrev asked : Addition
  asked = record { machine = m; began = began; body = replicate more 0 }

  abbrev result : Result (Unit {0}) Refusal
  result = answered (addition_number s m began more) (tt {0})

  pub tested_28 : (now ≡ began → ⊥) → Err NotLatest ≡ result
  unfolding addition_number addition_rules not_latest refusal_numbered
  tested_28 h = let n : 28 ≡ addition_number s m began more = sym (refusal_stop 28 _ (rw (← e, ne_eqb now began h))) in told (tt {0}) n

  module _ (same : now ≡ began) where
    number_29 : refusal (29 when book_full layout1 s asked ∷ []) ≡ addition_number s m began more
    unfolding addition_number addition_rules not_latest
    number_29 = sym (refusal_go 28 _ (rw (← e, eq-eqb now began same)))

    pub tested_last : began ≡ edition_most → Err BookFull ≡ result
    unfolding book_full refusal_numbered
    tested_last h =
        let n : 29 ≡ addition_number s m began more =
        sym (refusal_stop 29 [] (simp (sym e, eq-eqb now edition_most (same ∙ h), or-true))) ∙ number_29 in
        told (tt {0}) n

    module _ {size : ℕ} (ends : size ≡ length (book_of layout1 (rows_of layout1 s))) where
      full_is : length (grown_book layout1 s asked) ≡ size + book_row 2 + more
      full_is = length_added layout1 s asked ∙ rw (← ends, length-replicate {A = ℕ} more 0)

      pub tested_full :
          (ltb book_most (size + book_row 2 + more) || ltb (length s) (size + book_row 2 + more)) ≡ true
          → Err BookFull ≡ result
      unfolding book_full too_small refusal_numbered
      tested_full h =
          let n : 29 ≡ addition_number s m began more = sym (refusal_stop 29 [] (rw (full_is, h))) ∙ number_29 in
          told (tt {0}) n

      pub tested_fits :
          (began ≡ edition_most → ⊥)
          → (ltb book_most (size + book_row 2 + more) || ltb (length s) (size + book_row 2 + more)) ≡ false
          → Ok tt ≡ result
      unfolding book_full too_small
      tested_fits k h =
          let none : book_full layout1 s asked ≡ false = rw (full_is, h, ← e, ne_eqb now edition_most (λ q. k (sym same ∙ q))) in
          answered_ok (addition_number s m began more) tt (sym number_29 ∙ refusal_go 29 [] none ∙ refusal_end)
