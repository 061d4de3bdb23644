-- Demand 3: "Over any run of edits, the table is the first one with the accepted edits put in, in order." Assumes nothing.
use Prim.Native.Nat.{ℕ}
use mathlib.Core.Path.{◌≡◌, refl, ap, ◌∙◌}
use mathlib.Core.List.{List, [], ◌∷◌}
use Rattle.mps.specs.Words.{each}
use Rattle.mps.specs.Layout.{extended_end, base_entries}
use Rattle.mps.specs.Judge.{table_refusal}
use Rattle.mps.specs.Writing.{written, write_left}
use Rattle.mps.specs.Edits.{Edit, edited, edit_left, run, run_answers}
use Rattle.std.specs.Prelude.{Ok, Err, Result}
use Rattle.mps.specs.declared.refusals.EditRefusal.{EditRefusal}
use Rattle.mps.specs.declared.refusals.EditRefusal.TheVariants.{Refused, Inner}
use Rattle.laws.proofs.Small.{Bytes, Small, small_more}
use Rattle.promises.specs.Runs.{accepted, put_in, parts_with}
use Rattle.promises.proofs.Edits.{done_accepted, done_or, refused_unchanged}
use Rattle.promises.proofs.Fresh.{Kept, kept_all, kept_then, kept_fresh, edited_kept, edited_accepted, edited_bytes, edited_entries}

-- ---- A run of calls is a run of the definition

-- Calls made one after another, each answered and left as the definitions say. That the editor's calls are such, from Rattle and
-- from C, is `contracts`, Calls.
pub data Calls : List ℕ → List Edit → List (Result (Unit {0}) EditRefusal) → List ℕ → Type 0 where
  no_call : {t : List ℕ} → Calls t [] [] t
  call : {t u v : List ℕ} {e : Edit} {es : List Edit} {r : (Result (Unit {0}) EditRefusal)} {rs : List (Result (Unit {0}) EditRefusal)}
      → (r ≡ edited t e) × (u ≡ edit_left t e) → Calls u es rs v → Calls t (e ∷ es) (r ∷ rs) v

pub calls_run : {t v : List ℕ} {es : List Edit} {rs : List (Result (Unit {0}) EditRefusal)} → Calls t es rs v → (rs ≡ run_answers t es) × (v ≡ run t es)
unfolding run run_answers
calls_run no_call = (refl, refl)
calls_run (call {t = t} {e = e} p c) =
    let h = calls_run c in
    (rw (p.0, ← p.1) (ap (λ (rs : List (Result (Unit {0}) EditRefusal)). edited t e ∷ rs) h.0), rw (← p.1) h.1)

-- ---- What it leaves

-- An accepted table of bytes: what an edit leaves of it is one again.
pub record Good (t : List ℕ) : Type 0 where
  pub bytes : Bytes t
  pub table : table_refusal t ≡ 0

-- The wanted bytes of a run, which are bytes: what a call is given is always so.
abbrev pub wanted_of : List Edit → List (List ℕ)
wanted_of es = each (λ (e : Edit). e.wanted) es

left_good : (t : List ℕ) (e : Edit) → Good t → Bytes e.wanted → Good (edit_left t e)
left_good t e g w =
    done_or t e
    (λ d. record { bytes = edited_bytes t e d g.bytes w; table = edited_accepted t e d })
    (λ n. rw (refused_unchanged t e n) g)

left_kept : (t : List ℕ) (e : Edit) → Kept t (edit_left t e)
left_kept t e = done_or t e (edited_kept t e) (λ n. rw (refused_unchanged t e n) (kept_all t))

pub run_good : (t : List ℕ) (es : List Edit) → Good t → Small (wanted_of es) → Good (run t es)
unfolding run each
run_good t [] g s = g
run_good t (e ∷ es) g (small_more w s) = run_good (edit_left t e) es (left_good t e g w) s

pub run_kept : (t : List ℕ) (es : List Edit) → Kept t (run t es)
unfolding run
run_kept t [] = kept_all t
run_kept t (e ∷ es) = kept_then t (edit_left t e) (run (edit_left t e) es) (left_kept t e) (run_kept (edit_left t e) es)

-- An edit that was not answered as done is passed over.
accepted_skip : (e : Edit) (es : List Edit) (r : (Result (Unit {0}) EditRefusal)) (rs : List (Result (Unit {0}) EditRefusal)) → (r ≡ Ok tt → ⊥) → accepted (e ∷ es) (r ∷ rs) ≡ accepted es rs
unfolding accepted
accepted_skip e es (Ok u) rs n = absurd (n refl)
accepted_skip e es (Err (Refused r)) rs n = refl
accepted_skip e es (Err (Inner r)) rs n = refl

-- "Over any run of edits, the table is the first one with the accepted edits put in, in order": its entries are so,
run_entries : (t : List ℕ) (es : List Edit) → base_entries (run t es) ≡ put_in (base_entries t) (accepted es (run_answers t es))
unfolding run run_answers put_in accepted
run_entries t [] = refl
run_entries t (e ∷ es) =
    run_entries (edit_left t e) es
    ∙ done_or t e
    (λ d. rw (d, edited_entries t e d))
    (λ n. rw (accepted_skip e es (edited t e) (run_answers (edit_left t e) es) n, refused_unchanged t e n))

module _ (t v : List ℕ) (es : List Edit) (rs : List (Result (Unit {0}) EditRefusal)) (c : Calls t es rs v) where
  pub calls_entries : base_entries v ≡ put_in (base_entries t) (accepted es rs)
  calls_entries = let h = calls_run c in rw (h.0, h.1) (run_entries t es)

  -- and all of it is what the writer makes afresh of them and of the first one's other parts.
  pub calls_fresh : Good t → Small (wanted_of es)
      → let p = parts_with t (put_in (base_entries t) (accepted es rs)) in
      (written p t ≡ Ok (extended_end t)) × (write_left p t ≡ v)
  calls_fresh g s =
      let h = calls_run c in
      let u = run_good t es g s in
      rw (h.0, h.1) (rw (run_entries t es) at (kept_fresh t (run t es) (run_kept t es) u.bytes u.table))

-- A table that is refused stays, whatever is asked of it.
pub run_refused : (t : List ℕ) (es : List Edit) → (table_refusal t ≡ 0 → ⊥) → run t es ≡ t
unfolding run
run_refused t [] n = refl
run_refused t (e ∷ es) n = rw (refused_unchanged t e (λ d. n (done_accepted t e d).table)) (run_refused t es n)
