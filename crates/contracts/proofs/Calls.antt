-- Calls of the editor, made one after another by whoever it may be, are a run of the definition: demand 3's promises of a run
-- hold of the code's own answers, from Rattle and from C. Assumes nothing.
use Rattle.std.specs.Prelude.{Result, Ok}
use Prim.Native.Nat.{ℕ}
use mathlib.Core.Path.{◌≡◌, refl, ap, ◌∙◌}
use mathlib.Core.List.{List, [], ◌∷◌}
use Rattle.mps.specs.Words.{each}
use Rattle.mps.specs.Layout.{extended_end, base_entries}
use Rattle.mps.specs.Writing.{written, write_left}
use Rattle.mps.specs.Edits.{Edit, edited, run, run_answers}
use Rattle.mps.specs.declared.refusals.EditRefusal.{EditRefusal}
use Rattle.laws.proofs.Small.{Small}
use Rattle.editor.specs.Tested.{edit_of}
use Rattle.editor.proofs.edit.Reads as edit
use Rattle.exports.specs.Codes.{edited_code}
use Rattle.exports.proofs.ruxtajma_edit.Reads as ruxtajma_edit
use Rattle.contracts.proofs.Forms.{Call}
use Rattle.promises.specs.Runs.{accepted, put_in, parts_with}
use Rattle.promises.proofs.Runs.{Calls, no_call, call, calls_run, calls_entries, calls_fresh, Good, wanted_of}

-- ---- Calls one after another

-- Calls that each start on the table that the one before left: from the first table to the last.
pub data InTurn {C : Type 0} (table left : C → List ℕ) : List ℕ → List C → List ℕ → Type 0 where
  no_more : {t : List ℕ} → InTurn table left t [] t
  next : {v : List ℕ} {c : C} {cs : List C} → InTurn table left (left c) cs v → InTurn table left (table c) (c ∷ cs) v

-- ---- From Rattle

abbrev pub Edits : Type 0
Edits = Call edit.Post

-- The table that a call was lent, the edit that it was asked for, and the table that it left.
abbrev pub table_of : Edits → List ℕ
table_of c = c.given.0.now

abbrev pub asked_of : Edits → Edit
asked_of c = edit_of c.given.1.0 c.given.1.1.0.now c.given.1.1.1.0.now

abbrev pub left_of : Edits → List ℕ
left_of c = c.ends.0.now

abbrev pub answer_of : Edits → Result (Unit {0}) EditRefusal
answer_of c = c.answer

-- Each call's own postcondition says what the run asks of it.
pub edits_calls : {t v : List ℕ} {cs : List Edits} → InTurn table_of left_of t cs v → Calls t (each asked_of cs) (each answer_of cs) v
unfolding each
edits_calls no_more = no_call
edits_calls (next {c = c} m) = call c.allowed (edits_calls m)

-- "Over any run of edits, the table is the first one with the accepted edits put in, in order": the answers and the last table
-- are the run's, its entries are so,
pub edits_run :
    {t v : List ℕ} {cs : List Edits} → InTurn table_of left_of t cs v
    → (each answer_of cs ≡ run_answers t (each asked_of cs)) × (v ≡ run t (each asked_of cs))
edits_run m = calls_run (edits_calls m)

module _ (t v : List ℕ) (cs : List Edits) (m : InTurn table_of left_of t cs v) where
  pub edits_entries : base_entries v ≡ put_in (base_entries t) (accepted (each asked_of cs) (each answer_of cs))
  edits_entries = calls_entries t v (each asked_of cs) (each answer_of cs) (edits_calls m)

  -- and all of it is what the writer makes afresh of them and of the first one's other parts.
  pub edits_fresh : Good t → Small (wanted_of (each asked_of cs))
      → let p = parts_with t (put_in (base_entries t) (accepted (each asked_of cs) (each answer_of cs))) in
      (written p t ≡ Ok (extended_end t)) × (write_left p t ≡ v)
  edits_fresh = calls_fresh t v (each asked_of cs) (each answer_of cs) (edits_calls m)

-- ---- From C: the same, and each answer's number is that of the run's answer

abbrev pub EditsForC : Type 0
EditsForC = Call ruxtajma_edit.Post

abbrev pub table_for_c : EditsForC → List ℕ
table_for_c c = c.given.0.now

abbrev pub asked_for_c : EditsForC → Edit
asked_for_c c = edit_of c.given.1.0 c.given.1.1.0.now c.given.1.1.1.0.now

abbrev pub left_for_c : EditsForC → List ℕ
left_for_c c = c.ends.0.now

abbrev pub code_for_c : EditsForC → ℕ
code_for_c c = c.answer

-- What an answer's number stands for.
abbrev answer_for_c : EditsForC → Result (Unit {0}) EditRefusal
answer_for_c c = edited (table_for_c c) (asked_for_c c)

codes_are : (cs : List EditsForC) → each code_for_c cs ≡ each edited_code (each answer_for_c cs)
unfolding each
codes_are [] = refl
codes_are (c ∷ cs) =
    ap (λ n. n ∷ each code_for_c cs) c.allowed.0 ∙ ap (λ ns. edited_code (answer_for_c c) ∷ ns) (codes_are cs)

calls_for_c : {t v : List ℕ} {cs : List EditsForC} → InTurn table_for_c left_for_c t cs v → Calls t (each asked_for_c cs) (each answer_for_c cs) v
unfolding each
calls_for_c no_more = no_call
calls_for_c (next {c = c} m) = call (refl, c.allowed.1) (calls_for_c m)

module _ (t v : List ℕ) (cs : List EditsForC) (m : InTurn table_for_c left_for_c t cs v) where
  pub c_edits_run : (each code_for_c cs ≡ each edited_code (run_answers t (each asked_for_c cs))) × (v ≡ run t (each asked_for_c cs))
  c_edits_run =
      let h = calls_run (calls_for_c m) in
      (rw h.0 at (codes_are cs), h.1)

  pub c_edits_entries : base_entries v ≡ put_in (base_entries t) (accepted (each asked_for_c cs) (run_answers t (each asked_for_c cs)))
  c_edits_entries = rw (calls_run (calls_for_c m)).0 at (calls_entries t v (each asked_for_c cs) (each answer_for_c cs) (calls_for_c m))

  pub c_edits_fresh : Good t → Small (wanted_of (each asked_for_c cs))
      → let p = parts_with t (put_in (base_entries t) (accepted (each asked_for_c cs) (run_answers t (each asked_for_c cs)))) in
      (written p t ≡ Ok (extended_end t)) × (write_left p t ≡ v)
  c_edits_fresh g s = rw (calls_run (calls_for_c m)).0 at (calls_fresh t v (each asked_for_c cs) (each answer_for_c cs) (calls_for_c m) g s)
