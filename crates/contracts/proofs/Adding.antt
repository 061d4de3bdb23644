-- Saves and restores, made one after another by whoever it may be, are a run of the definition: ask 3's promises of a run hold of
-- the code's own answers, from Rattle and from C. Assumes nothing.
use Rattle.std.specs.Prelude.{Result}
use Prim.Native.Nat.{ℕ}
use mathlib.Core.Path.{◌≡◌, refl, ap, ◌∙◌}
use mathlib.Core.List.{List, [], ◌∷◌}
use Rattle.mps.specs.Words.{each, put}
use Rattle.mps.specs.Book.{layout1, book_of, rows_of}
use Rattle.mps.specs.Saving.{Ask, save, restore, added, add_left, add_run, add_answers}
use Rattle.mps.specs.declared.refusals.Refusal.{Refusal}
use Rattle.mps.specs.declared.Booked.{Booked}
use Rattle.pages.proofs.Bytes.{readable1}
use Rattle.saving.proofs.save.Reads as save_reads
use Rattle.saving.proofs.restore.Reads as restore_reads
use Rattle.exports.specs.Codes.{booked_code}
use Rattle.exports.proofs.ruxtajma_save.Reads as c_save_reads
use Rattle.exports.proofs.ruxtajma_restore.Reads as c_restore_reads
use Rattle.contracts.proofs.Forms.{Call}
use Rattle.contracts.proofs.Calls.{InTurn, no_more, next}
use Rattle.promises.specs.Books.{taken, put_rows, AsksOfBytes}
use Rattle.promises.proofs.Books.{Shelved, run_rows, run_book}

-- ---- Calls of any kind, each of which leaves what the definition says

module _ {C : Type 0} (room left : C → List ℕ) (asked : C → Ask) (leaves : (c : C) → left c ≡ add_left layout1 (room c) (asked c)) where
  abbrev answered : C → Result Booked Refusal
  answered c = added layout1 (room c) (asked c)

  turns_run : {s v : List ℕ} {cs : List C} → InTurn room left s cs v
      → (each answered cs ≡ add_answers layout1 s (each asked cs)) × (v ≡ add_run layout1 s (each asked cs))
  unfolding each add_run add_answers
  turns_run no_more = (refl, refl)
  turns_run (next {c = c} {cs = cs} m) =
      let h = turns_run m in
      let asks = each asked cs in
      let same = leaves c in (
        ap (λ (rs : List (Result Booked Refusal)). answered c ∷ rs) (h.0 ∙ ap (λ (u : List ℕ). add_answers layout1 u asks) same),
        h.1 ∙ ap (λ (u : List ℕ). add_run layout1 u asks) same,
      )

  -- Over any run of saves and restores, accepted and refused mixed, the book is the first one with the accepted ones added, in
  -- order, and a good one.
  turns_book : (s v : List ℕ) (cs : List C) → InTurn room left s cs v → Shelved layout1 s → AsksOfBytes (each asked cs)
      → let rows = put_rows (rows_of layout1 s) (taken (each asked cs) (each answered cs)) in
      Shelved layout1 v × (rows_of layout1 v ≡ rows) × (v ≡ put (book_of layout1 rows) s)
  turns_book s v cs m g h =
      let r = turns_run m in
      let a = run_rows layout1 readable1 s (each asked cs) g h in
      rw (r.0, r.1) (a.0, a.1, run_book layout1 readable1 s (each asked cs) g h)

-- ---- From Rattle

pub data Adds : Type 0 where
  saves : Call save_reads.Post → Adds
  restores : Call restore_reads.Post → Adds

abbrev pub room_of : Adds → List ℕ
room_of (saves c) = c.given.0.now
room_of (restores c) = c.given.0.now

abbrev pub asked_of : Adds → Ask
asked_of (saves c) = save c.given.1.0 c.given.1.1.0 c.given.1.1.1.0.now
asked_of (restores c) = restore c.given.1.0 c.given.1.1.0 c.given.1.1.1.0

abbrev pub left_of : Adds → List ℕ
left_of (saves c) = c.ends.0.now
left_of (restores c) = c.ends.0.now

abbrev pub answer_of : Adds → Result Booked Refusal
answer_of (saves c) = c.answer
answer_of (restores c) = c.answer

-- Each call's own postcondition says what the run asks of it.
left_so : (c : Adds) → left_of c ≡ add_left layout1 (room_of c) (asked_of c)
left_so (saves c) = c.allowed.1
left_so (restores c) = c.allowed.1

answer_so : (c : Adds) → answer_of c ≡ added layout1 (room_of c) (asked_of c)
answer_so (saves c) = c.allowed.0
answer_so (restores c) = c.allowed.0

answers_are : (cs : List Adds) → each answer_of cs ≡ each (answered room_of left_of asked_of left_so) cs
unfolding each
answers_are [] = refl
answers_are (c ∷ cs) = rw (answer_so c, answers_are cs)

module _ (s v : List ℕ) (cs : List Adds) (m : InTurn room_of left_of s cs v) where
  pub adds_run : (each answer_of cs ≡ add_answers layout1 s (each asked_of cs)) × (v ≡ add_run layout1 s (each asked_of cs))
  adds_run = let h = turns_run room_of left_of asked_of left_so m in (answers_are cs ∙ h.0, h.1)

  pub adds_book : Shelved layout1 s → AsksOfBytes (each asked_of cs)
      → let rows = put_rows (rows_of layout1 s) (taken (each asked_of cs) (each answer_of cs)) in
      Shelved layout1 v × (rows_of layout1 v ≡ rows) × (v ≡ put (book_of layout1 rows) s)
  adds_book g h = rw (answers_are cs) (turns_book room_of left_of asked_of left_so s v cs m g h)

-- ---- From C: the same, and each answer's number is that of the run's answer

pub data AddsForC : Type 0 where
  c_saves : Call c_save_reads.Post → AddsForC
  c_restores : Call c_restore_reads.Post → AddsForC

abbrev pub room_for_c : AddsForC → List ℕ
room_for_c (c_saves c) = c.given.0.now
room_for_c (c_restores c) = c.given.0.now

abbrev pub asked_for_c : AddsForC → Ask
asked_for_c (c_saves c) = save c.given.1.0 c.given.1.1.0 c.given.1.1.1.0.now
asked_for_c (c_restores c) = restore c.given.1.0 c.given.1.1.0 c.given.1.1.1.0

abbrev pub left_for_c : AddsForC → List ℕ
left_for_c (c_saves c) = c.ends.0.now
left_for_c (c_restores c) = c.ends.0.now

abbrev pub code_for_c : AddsForC → ℕ
code_for_c (c_saves c) = c.answer
code_for_c (c_restores c) = c.answer

c_left_so : (c : AddsForC) → left_for_c c ≡ add_left layout1 (room_for_c c) (asked_for_c c)
c_left_so (c_saves c) = c.allowed.1
c_left_so (c_restores c) = c.allowed.1

code_so : (c : AddsForC) → code_for_c c ≡ booked_code (added layout1 (room_for_c c) (asked_for_c c))
code_so (c_saves c) = c.allowed.0
code_so (c_restores c) = c.allowed.0

codes_are : (cs : List AddsForC) → each code_for_c cs ≡ each booked_code (each (answered room_for_c left_for_c asked_for_c c_left_so) cs)
unfolding each
codes_are [] = refl
codes_are (c ∷ cs) = rw (code_so c, codes_are cs)

module _ (s v : List ℕ) (cs : List AddsForC) (m : InTurn room_for_c left_for_c s cs v) where
  pub c_adds_run : (each code_for_c cs ≡ each booked_code (add_answers layout1 s (each asked_for_c cs))) × (v ≡ add_run layout1 s (each asked_for_c cs))
  c_adds_run =
      let h = turns_run room_for_c left_for_c asked_for_c c_left_so m in
      (codes_are cs ∙ ap (each booked_code) h.0, h.1)

  pub c_adds_book : Shelved layout1 s → AsksOfBytes (each asked_for_c cs)
      → let rows = put_rows (rows_of layout1 s) (taken (each asked_for_c cs) (add_answers layout1 s (each asked_for_c cs))) in
      Shelved layout1 v × (rows_of layout1 v ≡ rows) × (v ≡ put (book_of layout1 rows) s)
  c_adds_book g h =
      rw (turns_run room_for_c left_for_c asked_for_c c_left_so m).0 at (turns_book room_for_c left_for_c asked_for_c c_left_so s v cs m g h)
