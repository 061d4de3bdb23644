-- Demand 3: "An entry changed and changed back counts as unchanged." Assumes nothing.
use Rattle.std.specs.Prelude.{Ok, Err}
use Prim.Native.Nat.{ℕ, ◌+◌}
use mathlib.Core.Path.{◌≡◌, sym, ap, ◌∙◌}
use mathlib.Core.Logic.{◌↔◌}
use mathlib.Core.List.{List, [], ◌∷◌}
use lib.ListN.{length, take, take-append-drop}
use lib.Seq.{set-get_or, set-set}
use Rattle.mps.specs.Words.{each}
use Rattle.mps.specs.Layout.{extended_end, base_entries}
use Rattle.mps.specs.Writing.{parts_of, image}
use Rattle.mps.specs.Judge.{table_refusal}
use Rattle.mps.specs.Edits.{Edit, standing, offset_of, edited_table, edited, edit_left, run}
use Rattle.mps.specs.declared.refusals.Refusal.TheVariants.{Changed}
use Rattle.mps.specs.declared.refusals.EditRefusal.TheVariants.{Refused}
use Rattle.laws.proofs.Small.{Bytes, Small, small_none, small_more, bytes_part}
use Rattle.accepted.proofs.Sound.{sound}
use Rattle.accepted.proofs.Stands.{stands}
use Rattle.accepted.proofs.Shaped.{Shaped}
use Rattle.promises.proofs.Again.{image_again}
use Rattle.promises.proofs.Edits.{changed_exactly, accepted_done, done_accepted}
use Rattle.promises.proofs.Fresh.{Kept, kept_all, kept_parts, edited_entries}
use Rattle.promises.proofs.Runs.{Good, wanted_of, run_good, run_kept}

-- Two tables with the same parts and the same bytes behind are the same.
same_table : (t u : List ℕ) → Kept t u → Good t → Good u → base_entries u ≡ base_entries t → u ≡ t
same_table t u k g h e =
    let p : parts_of u ≡ parts_of t = kept_parts t u k ∙ rw e (sym (kept_parts t t (kept_all t))) in
    let i = image_again u h.bytes h.table in
    let j = image_again t g.bytes g.table in
    let front : take (extended_end t) u ≡ take (extended_end t) t = rw k.end at (sym i) ∙ ap image p ∙ j in
    sym (take-append-drop (extended_end t) u) ∙ rw (front, k.behind) (take-append-drop (extended_end t) t)

seen_bytes : (t : List ℕ) (e : Edit) → edited t e ≡ Ok tt → Bytes t → Bytes e.stated
seen_bytes t e d b =
    let a = done_accepted t e d in
    let s = stands t e.place (sound t a.table) a.shaped.place in
    let from = offset_of t e.place in
    let size = length (standing t e.place) in
    rw (a.seen, s.bytes) (bytes_part from (from + size) t b)

-- A run that leaves every entry as it stood at first leaves every byte so.
pub run_back : (t : List ℕ) (es : List Edit) → Good t → Small (wanted_of es) → base_entries (run t es) ≡ base_entries t → run t es ≡ t
run_back t es g s e = same_table t (run t es) (run_kept t es) g (run_good t es g s) e

-- One edit, and one that puts the first bytes back.
module _ (t : List ℕ) (e f : Edit) (b : Bytes t) (w : Bytes e.wanted) (d : edited t e ≡ Ok tt)
    (g : edited (edit_left t e) f ≡ Ok tt) (p : f.place ≡ e.place) (q : f.wanted ≡ e.stated) where
  pub changed_back : run t (e ∷ f ∷ []) ≡ t
  unfolding run standing each
  changed_back =
      let a = done_accepted t e d in
      let u = edit_left t e in
      let k = e.place in
      let es = base_entries t in
      let entries : base_entries (edit_left u f) ≡ es = edited_entries u f g ∙ rw (edited_entries t e d, p, q, a.seen, set-set es k e.wanted (standing t k)) (set-get_or es k []) in
      run_back t (e ∷ f ∷ []) (record { bytes = b; table = a.table })
      (small_more w (small_more (rw q (seen_bytes t e d b)) small_none)) entries

  -- So every later edit is answered as it would have been at first,
  pub back_answered : (later : Edit) → edited (run t (e ∷ f ∷ [])) later ≡ edited t later
  back_answered later = ap (λ (s : List ℕ). edited s later) changed_back

  -- and one that states the first bytes is accepted as the first one was.
  pub back_accepted : edited (run t (e ∷ f ∷ [])) e ≡ Ok tt
  back_accepted = back_answered e ∙ d

-- After any run, where an entry stands as it stood at first, an edit of the right shape that states the first bytes is not refused
-- as changed: it is accepted wherever the table that it makes is.
module _ (t : List ℕ) (es : List Edit) (e : Edit) (g : Good t) (small : Small (wanted_of es)) (h : Shaped t e)
    (s : standing (run t es) e.place ≡ standing t e.place) where
  shape_again : Shaped (run t es) e
  shape_again = record {
    place = rw (run_kept t es).count h.place;
    stated = rw s h.stated;
    wanted = rw s h.wanted;
    kind = rw s h.kind;
  }

  pub stands_exactly : (edited (run t es) e ≡ Err (Refused Changed)) ↔ (e.stated ≡ standing t e.place → ⊥)
  stands_exactly =
      let now = changed_exactly (run t es) e (run_good t es g small).table shape_again in
      (λ r. rw s at (now.0 r), λ o. now.1 (rw s o))

  pub stands_accepted : e.stated ≡ standing t e.place → table_refusal (edited_table (run t es) e) ≡ 0 → edited (run t es) e ≡ Ok tt
  stands_accepted p a = accepted_done (run t es) e (run_good t es g small).table shape_again (rw s p) a
