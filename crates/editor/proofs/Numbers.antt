-- The number of an amended table, by the type that the code has read. Assumes nothing.
use Rattle.std.proofs.Common.{◌≡◌, ℕ, zero, suc, ◌+◌, ◌%◌, ◌<◌, ◌≤◌, List, [], length, drop, sym, refl, ap, ◌∙◌, add-zero, arith, get_or-drop, get_or-set_same, ne_eqb}
use Rattle.std.specs.Prelude.{Result}
use lib.Seq.{take-set-le}
use Rattle.mps.specs.Words.{byte, part}
use Rattle.mps.specs.Refusals.{Rule, refusal}
use Rattle.mps.specs.Layout.{Entry, type, id_of, processor_type, bus_type, io_apic_type, io_interrupt_type, local_interrupt_type, last_base_type, local_apic, local_apic_step, base_entries, base_entry_length}
use Rattle.mps.specs.Answers.{answered}
use Rattle.mps.specs.Judge.{table_refusal, judged}
use Rattle.mps.specs.declared.refusals.Refusal.{Refusal}
use Rattle.laws.proofs.Answers.{told}
use Rattle.mps.specs.Edits.{Edit, standing, before, offset_of, edited_table}
use Rattle.mps.specs.declared.Sections.{Sections}
use Rattle.accepted.proofs.Pieces.{walked_type}
use Rattle.accepted.proofs.Sound.{Sound, sound}
use Rattle.accepted.proofs.Shaped.{Shaped}
use Rattle.accepted.proofs.Stands.{Stands, stands}
use Rattle.accepted.proofs.Replaced.{replaced_sound, replaced_entries, replaced_count}
use Rattle.editor.specs.Amended.{processor_rules, bus_rules, io_apic_rules, io_interrupt_rules, local_interrupt_rules, Amended}
use Rattle.editor.proofs.ByType.{apic_aligned, by_processor, by_bus, by_io_apic, by_io_interrupt, by_local_interrupt}

last_type_lem : (k : ℕ) → k ≤ last_base_type → (k ≡ processor_type → ⊥) → (k ≡ bus_type → ⊥) → (k ≡ io_apic_type → ⊥) → (k ≡ io_interrupt_type → ⊥)
    → k ≡ local_interrupt_type
last_type_lem zero m o b a i = absurd (o refl)
last_type_lem (suc zero) m o b a i = absurd (b refl)
last_type_lem (suc (suc zero)) m o b a i = absurd (a refl)
last_type_lem (suc (suc (suc zero))) m o b a i = absurd (i refl)
last_type_lem (suc (suc (suc (suc k)))) m o b a i = omega (arith, m)

-- ---- The edited table, where the entry was and is

module _ (t : List ℕ) (e : Edit) (a : table_refusal t ≡ 0) (h : Shaped t e) where
  abbrev u : List ℕ
  u = edited_table t e

  abbrev at : ℕ
  at = offset_of t e.place

  s : Sound t
  s = sound t a

  again : Sound u
  again = replaced_sound t e s h

  entry_is : standing u e.place ≡ e.wanted
  unfolding standing
  entry_is =
      rw (replaced_entries t e s h)
      (get_or-set_same (base_entries t) e.place e.wanted [] (omega (arith, s.counted, h.place)))

  same_place : offset_of u e.place ≡ at
  unfolding offset_of before
  same_place = rw (replaced_entries t e s h, take-set-le e.place (base_entries t) e.place e.wanted (omega arith))

  there : Stands u e.place
  there = stands u e.place again (rw (replaced_count t e s h) h.place)

  kind_is : byte u at ≡ type e.wanted
  kind_is = rw (← same_place) (sym there.kind ∙ ap type entry_is)

  kind_most : type e.wanted ≤ last_base_type
  unfolding standing
  kind_most = rw h.kind (walked_type 0 (base_entries t) s.walked e.place (omega (arith, s.counted, h.place)))

  here_inside : at < length u
  here_inside = let inside = there.inside in let some = there.some in rw (← same_place) (omega (arith, inside, some, again.inside))

  -- An entry that is no processor has eight bytes.
  module _ (o : type e.wanted ≡ processor_type → ⊥) where
    eight : length (standing u e.place) ≡ 8
    unfolding base_entry_length
    eight =
        let o' = offset_of u e.place in
        let first : byte (drop o' u) 0 ≡ type e.wanted =
        rw add-zero at (get_or-drop o' u 0 0) ∙ sym there.kind ∙ ap type entry_is in
        there.size ∙ rw (first, ne_eqb (type e.wanted) 0 o)

    eight_inside : at + 8 ≤ length u
    eight_inside = let inside = there.inside in rw (← same_place) (omega (arith, inside, eight, again.inside))

    wanted_is : part at (at + 8) u ≡ e.wanted
    wanted_is = rw (← same_place) (sym (rw eight at there.bytes) ∙ entry_is)

-- ---- As the code meets it

module _ {u : List ℕ} {p : Sections} {at id : ℕ} (m : Amended u p at id) where
  kind : byte u at ≡ type m.edit.wanted
  kind =
      ap (λ (v : List ℕ). byte v at) m.is
      ∙ ap (byte (edited_table m.was m.edit)) m.here
      ∙ kind_is m.was m.edit m.accepted m.shaped

  pub amended_inside : at < length u
  amended_inside =
      let long : length u ≡ length (edited_table m.was m.edit) = ap length m.is in
      omega (arith, long, m.here, here_inside m.was m.edit m.accepted m.shaped)

  pub amended_aligned : local_apic u % local_apic_step ≡ 0
  amended_aligned = ap (λ (v : List ℕ). local_apic v % local_apic_step) m.is ∙ apic_aligned m.was m.edit m.accepted m.shaped

  -- Of the table and ID that the code has, the rows are those of the edited table and the ID before.
  same_rows : (f : List ℕ → ℕ → List Rule) → refusal (f u id) ≡ refusal (f (edited_table m.was m.edit) (id_of (standing m.was m.edit.place)))
  same_rows f = ap (λ (v : List ℕ). refusal (f v id)) m.is ∙ ap (λ (i : ℕ). refusal (f (edited_table m.was m.edit) i)) m.gone

  number : {n : ℕ} → table_refusal (edited_table m.was m.edit) ≡ n → n ≡ table_refusal u
  number q = sym (ap table_refusal m.is ∙ q)

  module _ {k : ℕ} (f : k ≡ byte u at) where
    type_is : {n : ℕ} → k ≡ n → type m.edit.wanted ≡ n
    type_is q = sym (f ∙ kind) ∙ q

    pub of_processor : k ≡ processor_type → {r : Result (Unit {0}) Refusal} → r ≡ answered (refusal (processor_rules u id)) (tt {0}) → r ≡ judged u
    unfolding judged
    of_processor q w = w ∙ told (tt {0}) (same_rows processor_rules ∙ number (by_processor m.was m.edit m.accepted m.shaped (type_is q)))

    pub of_bus : k ≡ bus_type → {r : Result (Unit {0}) Refusal} → r ≡ answered (refusal (bus_rules u id)) (tt {0}) → r ≡ judged u
    unfolding judged
    of_bus q w = w ∙ told (tt {0}) (same_rows bus_rules ∙ number (by_bus m.was m.edit m.accepted m.shaped (type_is q)))

    pub of_io_apic : k ≡ io_apic_type → {r : Result (Unit {0}) Refusal} → r ≡ answered (refusal (io_apic_rules u id)) (tt {0}) → r ≡ judged u
    unfolding judged
    of_io_apic q w = w ∙ told (tt {0}) (same_rows io_apic_rules ∙ number (by_io_apic m.was m.edit m.accepted m.shaped (type_is q)))

    module _ (o : k ≡ processor_type → ⊥) where
      no_processor : type m.edit.wanted ≡ processor_type → ⊥
      no_processor q = o (f ∙ kind ∙ q)

      pub interrupt_inside : at + 8 ≤ length u
      interrupt_inside =
          let long : length u ≡ length (edited_table m.was m.edit) = ap length m.is in
          omega (arith, long, m.here, eight_inside m.was m.edit m.accepted m.shaped no_processor)

      same_entry : (g : List ℕ → Entry → List Rule) → refusal (g u (part at (at + 8) u)) ≡ refusal (g (edited_table m.was m.edit) m.edit.wanted)
      same_entry g =
          let v = edited_table m.was m.edit in
          ap (λ (x : List ℕ). refusal (g x (part at (at + 8) x))) m.is
          ∙ ap (λ (i : ℕ). refusal (g v (part i (i + 8) v))) m.here
          ∙ ap (λ (x : Entry). refusal (g v x)) (wanted_is m.was m.edit m.accepted m.shaped no_processor)

      pub of_io_interrupt : k ≡ io_interrupt_type → {r : Result (Unit {0}) Refusal} → r ≡ answered (refusal (io_interrupt_rules u (part at (at + 8) u))) (tt {0}) → r ≡ judged u
      unfolding judged
      of_io_interrupt q w = w ∙ told (tt {0}) (same_entry io_interrupt_rules ∙ number (by_io_interrupt m.was m.edit m.accepted m.shaped (type_is q)))

      -- No other type is left.
      pub of_local_interrupt :
          (k ≡ bus_type → ⊥) → (k ≡ io_apic_type → ⊥) → (k ≡ io_interrupt_type → ⊥) → {r : Result (Unit {0}) Refusal} → r ≡ answered (refusal (local_interrupt_rules u (part at (at + 8) u))) (tt {0})
          → r ≡ judged u
      unfolding judged
      of_local_interrupt b a i w =
          let most : k ≤ last_base_type = omega (arith, f ∙ kind, kind_most m.was m.edit m.accepted m.shaped) in
          let last = last_type_lem k most o b a i in
          w ∙ told (tt {0}) (same_entry local_interrupt_rules ∙ number (by_local_interrupt m.was m.edit m.accepted m.shaped (type_is last)))
