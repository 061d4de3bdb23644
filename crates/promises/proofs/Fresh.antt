-- Demand 3: "An accepted edit gives exactly the table that the writer makes afresh from the standing header fields and the
-- edited entries, and alters no byte outside that entry and the base checksum." Assumes nothing.
use Prim.Native.Nat.{ℕ, ◌+◌, ◌<◌, ◌≤◌}
use mathlib.Core.Path.{◌≡◌, refl, sym, ap, ◌∙◌}
use mathlib.Core.List.{List, ◌++◌}
use native.Mathlib.Omega.{arith}
use lib.ListN.{length, take, drop, set, take-append-drop}
use lib.Seq.{length-take-le, get_or-drop}
use Rattle.mps.specs.Words.{byte}
use Rattle.mps.specs.Layout.{checksum_at, entry_count, extended_end, extended_part, base_part, base_entries, base_entry_length}
use Rattle.mps.specs.Judge.{table_refusal}
use Rattle.mps.specs.Writing.{fields_of, parts_of, written, write_left}
use Rattle.mps.specs.Edits.{Edit, standing, offset_of, edited_table, edited, edit_left}
use Rattle.std.specs.Prelude.{Ok}
use Rattle.laws.proofs.Small.{Bytes}
use Rattle.accepted.proofs.Sound.{sound}
use Rattle.accepted.proofs.Pieces.{joined_cut, base_told}
use Rattle.accepted.proofs.Stands.{stands}
use Rattle.accepted.proofs.Replaced.{replaced_length, replaced_before, replaced_behind, replaced_end, replaced_count, replaced_fields, replaced_extended, replaced_entries, replaced_bytes}
use Rattle.promises.specs.Runs.{parts_with}
use Rattle.promises.proofs.Again.{written_again}
use Rattle.promises.proofs.Edits.{Accepted, done_accepted}

-- ---- What edits keep

-- All of a table but its base entries and its checksum.
pub record Kept (t u : List ℕ) : Type 0 where
  pub size : length u ≡ length t
  pub fields : fields_of u ≡ fields_of t
  pub count : entry_count u ≡ entry_count t
  pub extended : extended_part u ≡ extended_part t
  pub end : extended_end u ≡ extended_end t
  pub behind : drop (extended_end t) u ≡ drop (extended_end t) t

pub kept_all : (t : List ℕ) → Kept t t
kept_all t = record { size = refl; fields = refl; count = refl; extended = refl; end = refl; behind = refl }

pub kept_then : (t u v : List ℕ) → Kept t u → Kept u v → Kept t v
kept_then t u v a b = record {
  size = b.size ∙ a.size;
  fields = b.fields ∙ a.fields;
  count = b.count ∙ a.count;
  extended = b.extended ∙ a.extended;
  end = b.end ∙ a.end;
  behind = rw a.end at b.behind ∙ a.behind;
}

-- Its parts are those of the first one, but for the base entries.
pub kept_parts : (t u : List ℕ) → Kept t u → parts_of u ≡ parts_with t (base_entries u)
unfolding parts_of parts_with base_entries
kept_parts t u k = rw (k.fields, k.extended, joined_cut base_entry_length base_told (base_part u))

-- Written over the first table, they give the table.
module _ (t u : List ℕ) (k : Kept t u) (b : Bytes u) (a : table_refusal u ≡ 0) where
  whole_again : take (extended_end t) u ++ drop (extended_end t) t ≡ u
  whole_again = rw (← k.behind) (take-append-drop (extended_end t) u)

  pub kept_fresh :
      let p = parts_with t (base_entries u) in
      (written p t ≡ Ok (extended_end t)) × (write_left p t ≡ u)
  kept_fresh =
      let inside : extended_end t ≤ length u = rw k.end at (sound u a).extended_inside in
      let w = written_again u b a t (rw (k.end, ← k.size) inside) in
      let l = length-take-le (extended_end t) u inside in (
        rw (← kept_parts t u k) (w.0 ∙ ap Ok k.end),
        rw (← kept_parts t u k) (w.1 ∙ rw (k.end, l) whole_again),
      )

-- ---- One edit

module _ (t : List ℕ) (e : Edit) (d : edited t e ≡ Ok tt) where
  told : Accepted t e
  told = done_accepted t e d

  entry_inside : offset_of t e.place + length (standing t e.place) ≤ extended_end t
  entry_inside =
      let s = stands t e.place (sound t told.table) told.shaped.place in
      omega (arith, s.inside)

  pub edited_kept : Kept t (edit_left t e)
  edited_kept =
      let s = sound t told.table in
      let h = told.shaped in
      rw told.left (record {
        size = replaced_length t e s h;
        fields = replaced_fields t e s h;
        count = replaced_count t e s h;
        extended = replaced_extended t e s h;
        end = replaced_end t e s h;
        behind = replaced_behind t e s h (extended_end t) entry_inside;
      })

  pub edited_accepted : table_refusal (edit_left t e) ≡ 0
  edited_accepted = rw told.left told.again

  pub edited_bytes : Bytes t → Bytes e.wanted → Bytes (edit_left t e)
  edited_bytes b w = rw told.left (replaced_bytes t e (sound t told.table) told.shaped b w)

  pub edited_entries : base_entries (edit_left t e) ≡ set (base_entries t) e.place e.wanted
  edited_entries = rw told.left (replaced_entries t e (sound t told.table) told.shaped)

  -- "An accepted edit gives exactly the table that the writer makes afresh from the standing header fields and the edited
  -- entries": written over the table itself, they leave the same.
  pub edited_fresh : Bytes t → Bytes e.wanted
      → let p = parts_with t (set (base_entries t) e.place e.wanted) in
      (written p t ≡ Ok (extended_end t)) × (write_left p t ≡ edit_left t e)
  edited_fresh b w = rw edited_entries at (kept_fresh t (edit_left t e) edited_kept (edited_bytes b w) edited_accepted)

  -- ".. and alters no byte outside that entry and the base checksum."
  pub edited_length : length (edit_left t e) ≡ length t
  edited_length = edited_kept.size

  pub edited_before : (i : ℕ) → (i ≡ checksum_at → ⊥) → i < offset_of t e.place → byte (edit_left t e) i ≡ byte t i
  edited_before i n h = rw told.left (replaced_before t e (sound t told.table) told.shaped i n h)

  pub edited_behind : (i : ℕ) → offset_of t e.place + length (standing t e.place) ≤ i → byte (edit_left t e) i ≡ byte t i
  edited_behind i h =
      let q : i + 0 ≡ i = omega arith in
      rw told.left
      (rw q at (sym (get_or-drop i (edited_table t e) 0 0) ∙ ap (λ (s : List ℕ). byte s 0) (replaced_behind t e (sound t told.table) told.shaped i h) ∙ get_or-drop i t 0 0))
