-- Which rules an exchange of one entry can change: those that read its type. So a table that was accepted before is refused by
-- the rows of specs/Amended.antt, and by no others. Assumes nothing.
use Rattle.std.proofs.Common.{◌≡◌, ℕ, ◌%◌, ◌<◌, Bool, true, false, not, ◌&&◌, ◌||◌, eqb, List, [], length, drop, set, sym, refl, ap, ◌∙◌, arith, eq-eqb, eqb-true}
use mathlib.Core.Bool.{or-true, or-false}
use borrow.Author.Tests.{not-false}
use Rattle.mps.specs.Words.{among, any, keep}
use Rattle.mps.specs.Refusals.{refusal}
use Rattle.mps.specs.Layout.{Entry, type, of_type, id_of, everyone, base_entries, extended_entries, local_apic, local_apic_step}
use Rattle.mps.specs.Layout.{processor_type, bus_type, io_apic_type, io_interrupt_type, local_interrupt_type}
use Rattle.mps.specs.Rules.{Side, io_side, local_side, ids_of, is_listed, enabled_of, enabled_ids, bootstraps, wrong_processors, wrong_buses, wrong_io_apics, wrong_interrupt, wrong_input, wrong_on_side, wrong_interrupts, wrong_spaces}
use Rattle.mps.specs.Judge.{table_rules, table_refusal}
use Rattle.mps.specs.Edits.{Edit, standing, edited_table}
use Rattle.laws.proofs.Tests.{or_parts, either}
use Rattle.laws.proofs.Lists.{keep_set_out, any_keep_set, among_keep_set}
use Rattle.accepted.proofs.Sound.{sound, sound_rest}
use Rattle.accepted.proofs.Obeyed.{Keeps, keeps}
use Rattle.accepted.proofs.Shaped.{Shaped}
use Rattle.mps.specs.declared.Fields.{Fields}
use Rattle.mps.specs.Writing.{fields_of}
use Rattle.accepted.proofs.Replaced.{replaced_sound, replaced_entries, replaced_extended_entries, replaced_fields}
use Rattle.judge.specs.Rolled.{named}
use Rattle.editor.specs.Amended.{has, ends_at_lost, comes_from, speaks_of, processor_rules, bus_rules, io_apic_rules, io_interrupt_rules, local_interrupt_rules}
use Rattle.editor.proofs.Losses.{Loses, loses_none, loses_one, nameable, interrupts_lose, spaces_lose}

-- Rule 17 by its parts.
record Sides (es : List Entry) : Type 0 where
  io : wrong_on_side io_side es ≡ false
  locally : wrong_on_side local_side es ≡ false
  inputs : any wrong_input (keep (of_type local_interrupt_type) es) ≡ false

sides : (es : List Entry) → wrong_interrupts es ≡ false → Sides es
unfolding wrong_interrupts
sides es w =
    let inputs = any wrong_input (keep (of_type local_interrupt_type) es) in
    let all = or_parts (wrong_on_side io_side es || wrong_on_side local_side es) inputs w in
    let both = or_parts (wrong_on_side io_side es) (wrong_on_side local_side es) all.0 in
    record { io = both.0; locally = both.1; inputs = all.1 }

module _ (t : List ℕ) (e : Edit) (a : table_refusal t ≡ 0) (h : Shaped t e) where
  abbrev es : List Entry
  es = base_entries t

  abbrev fs : List Entry
  fs = base_entries (edited_table t e)

  abbrev xs : List Entry
  xs = extended_entries (edited_table t e)

  abbrev old : ℕ
  old = id_of (standing t e.place)

  k : Keeps t
  k = keeps t a

  i : Sides es
  i = sides es k.interrupts

  entries : fs ≡ set es e.place e.wanted
  entries = replaced_entries t e (sound t a) h

  extended : xs ≡ extended_entries t
  extended = replaced_extended_entries t e (sound t a) h

  there : e.place < length es
  there = omega (arith, (sound t a).counted, h.place)

  apic_stays : local_apic (edited_table t e) ≡ local_apic t
  unfolding fields_of
  apic_stays = ap (λ (f : Fields). f.apic) (replaced_fields t e (sound t a) h)

  pub apic_aligned : local_apic (edited_table t e) % local_apic_step ≡ 0
  unfolding wrong_processors
  apic_aligned =
      let four = or_parts _ _ k.processors in
      let three = or_parts _ _ four.0 in
      let two = or_parts _ _ three.0 in
      let one = or_parts _ _ two.0 in
      rw apic_stays (eqb-true _ 0 (not-false _ one.0))

  rest : table_refusal (edited_table t e) ≡ refusal (drop 9 (table_rules (edited_table t e)))
  rest = sound_rest (edited_table t e) (replaced_sound t e (sound t a) h)

  -- ---- By the type of the entry, m; `eqb m n ≡ false` says that n is another

  module _ {m : ℕ} (q : type e.wanted ≡ m) where
    others : (n : ℕ) → eqb m n ≡ false → keep (of_type n) fs ≡ keep (of_type n) es
    unfolding standing
    others n d =
        rw entries
        (keep_set_out (of_type n) [] es e.place e.wanted (rw q d) (rw (sym h.kind ∙ q) d))

    ids_stay : (n : ℕ) → eqb m n ≡ false → ids_of n fs ≡ ids_of n es
    unfolding ids_of
    ids_stay n d = rw (others n d)

    -- Of its own type every ID stays but the one that it had.
    id_stays : (y : ℕ) → among y (ids_of m es) ≡ true → (y ≡ old → ⊥) → among y (ids_of m fs) ≡ true
    unfolding ids_of standing
    id_stays y b d = rw entries (among_keep_set id_of (of_type m) [] es e.place e.wanted y (eq-eqb (type e.wanted) m q) b d)

    -- ---- What is lost: a bus, a destination, or nothing

    buses_stay : eqb m bus_type ≡ false → Loses (is_listed es) (is_listed fs) false old
    unfolding is_listed
    buses_stay d = loses_none (is_listed es) (is_listed fs) old (λ y. rw (ids_stay bus_type d))

    targets_stay : (n : ℕ) → eqb m n ≡ false → Loses (nameable es n) (nameable fs n) false old
    targets_stay n d = loses_none (nameable es n) (nameable fs n) old (λ y. rw (ids_stay n d))

    target_goes : Loses (nameable es m) (nameable fs m) (not (named m (edited_table t e) old)) old
    target_goes =
        loses_one (nameable es m) (nameable fs m) old
        (λ y b d. either (eqb y everyone) (among y (ids_of m es)) b
        (λ c. rw c)
        (λ c. rw (id_stays y c d) (or-true (eqb y everyone))))

    -- ---- The rules that do not read the type

    processors_kept : eqb m processor_type ≡ false → wrong_processors (edited_table t e) ≡ false
    unfolding wrong_processors bootstraps enabled_ids enabled_of
    processors_kept d = rw (apic_stays, others processor_type d) k.processors

    buses_kept : eqb m bus_type ≡ false → wrong_buses fs ≡ false
    unfolding wrong_buses ids_of
    buses_kept d = rw (others bus_type d) k.buses

    ioapics_kept : eqb m io_apic_type ≡ false → wrong_io_apics fs ≡ false
    unfolding wrong_io_apics enabled_ids enabled_of
    ioapics_kept d = rw (others io_apic_type d) k.ioapics

    inputs_kept : eqb m local_interrupt_type ≡ false → any wrong_input (keep (of_type local_interrupt_type) fs) ≡ false
    inputs_kept d = rw (others local_interrupt_type d) i.inputs

    spaces_kept : eqb m bus_type ≡ false → wrong_spaces fs xs ≡ false
    spaces_kept d = rw extended (spaces_lose es fs old false (buses_stay d) (extended_entries t) k.spaces)

    -- The interrupts of a side, where they are of another type: by what is lost,
    side_loses :
        (side : Side) → eqb m side.interrupts ≡ false → wrong_on_side side es ≡ false
        → (bus to : Bool) → Loses (is_listed es) (is_listed fs) bus old → Loses (nameable es side.targets) (nameable fs side.targets) to old
        → wrong_on_side side fs
        ≡ (bus && any (has 4 old) (keep (of_type side.interrupts) fs) || to && any (has 6 old) (keep (of_type side.interrupts) fs))
    unfolding wrong_on_side
    side_loses side d w bus to b n =
        rw (others side.interrupts d)
        (interrupts_lose es fs old bus b side.targets to n (keep (of_type side.interrupts) es) w)

    -- and where nothing is, none is wrong;
    side_kept : (side : Side) → eqb m side.interrupts ≡ false → wrong_on_side side es ≡ false → eqb m bus_type ≡ false → eqb m side.targets ≡ false
        → wrong_on_side side fs ≡ false
    side_kept side d w b n = side_loses side d w false false (buses_stay b) (targets_stay side.targets n)

    -- where they are of this type, the one that was exchanged decides.
    side_alone :
        (side : Side) → m ≡ side.interrupts → wrong_on_side side es ≡ false → eqb m bus_type ≡ false → eqb m side.targets ≡ false
        → wrong_on_side side fs ≡ wrong_interrupt fs side.targets e.wanted
    unfolding wrong_on_side
    side_alone side same w b n =
        let wrong = wrong_interrupt fs side.targets in
        let of = of_type side.interrupts in
        ap (λ (l : List Entry). any wrong (keep of l)) entries
        ∙ any_keep_set wrong of es e.place e.wanted there (eq-eqb (type e.wanted) side.interrupts (q ∙ same))
        (interrupts_lose es fs old false (buses_stay b) side.targets false (targets_stay side.targets n) (keep of es) w)

  -- ---- The rows that are left

  pub by_processor : type e.wanted ≡ processor_type → table_refusal (edited_table t e) ≡ refusal (processor_rules (edited_table t e) old)
  unfolding table_rules wrong_interrupts processor_rules ends_at_lost refusal
  by_processor q =
      let to = not (named processor_type (edited_table t e) old) in
      rest
      ∙ rw (
        buses_kept q refl,
        ioapics_kept q refl,
        side_kept q io_side refl i.io refl refl,
        side_loses q local_side refl i.locally false to (buses_stay q refl) (target_goes q),
        inputs_kept q refl,
        spaces_kept q refl,
        or-false (to && any (has 6 old) (keep (of_type local_interrupt_type) fs)),
      )

  pub by_io_apic : type e.wanted ≡ io_apic_type → table_refusal (edited_table t e) ≡ refusal (io_apic_rules (edited_table t e) old)
  unfolding table_rules wrong_interrupts io_apic_rules ends_at_lost refusal
  by_io_apic q =
      let to = not (named io_apic_type (edited_table t e) old) in
      let lost = to && any (has 6 old) (keep (of_type io_interrupt_type) fs) in
      rest
      ∙ rw (
        processors_kept q refl,
        buses_kept q refl,
        side_loses q io_side refl i.io false to (buses_stay q refl) (target_goes q),
        side_kept q local_side refl i.locally refl refl,
        inputs_kept q refl,
        spaces_kept q refl,
        or-false lost,
        or-false lost,
      )

  bus_goes : type e.wanted ≡ bus_type → Loses (is_listed es) (is_listed fs) (not (is_listed fs old)) old
  unfolding is_listed
  bus_goes q = loses_one (is_listed es) (is_listed fs) old (id_stays q)

  either_side : (x i l : Bool) → (x && i || x && l || false) ≡ (x && (i || l))
  either_side true i l = or-false (i || l)
  either_side false i l = refl

  pub by_bus : type e.wanted ≡ bus_type → table_refusal (edited_table t e) ≡ refusal (bus_rules (edited_table t e) old)
  unfolding table_rules wrong_interrupts bus_rules comes_from speaks_of refusal
  by_bus q =
      let gone = not (is_listed fs old) in
      let io = any (has 4 old) (keep (of_type io_interrupt_type) fs) in
      let locally = any (has 4 old) (keep (of_type local_interrupt_type) fs) in
      rest
      ∙ rw (
        processors_kept q refl,
        ioapics_kept q refl,
        side_loses q io_side refl i.io gone false (bus_goes q) (targets_stay q io_apic_type refl),
        side_loses q local_side refl i.locally gone false (bus_goes q) (targets_stay q processor_type refl),
        inputs_kept q refl,
        or-false (gone && io),
        or-false (gone && locally),
        either_side gone io locally,
        spaces,
      )
    where
      spaces : wrong_spaces fs xs ≡ (not (is_listed fs old) && speaks_of (edited_table t e) old)
      spaces = rw extended (spaces_lose es fs old (not (is_listed fs old)) (bus_goes q) (extended_entries t) k.spaces)

  pub by_io_interrupt : type e.wanted ≡ io_interrupt_type → table_refusal (edited_table t e) ≡ refusal (io_interrupt_rules (edited_table t e) e.wanted)
  unfolding table_rules wrong_interrupts io_interrupt_rules refusal
  by_io_interrupt q =
      let wrong = wrong_interrupt fs io_apic_type e.wanted in
      rest
      ∙ rw (
        processors_kept q refl,
        buses_kept q refl,
        ioapics_kept q refl,
        side_alone q io_side refl i.io refl refl,
        side_kept q local_side refl i.locally refl refl,
        inputs_kept q refl,
        spaces_kept q refl,
        or-false wrong,
        or-false wrong,
      )

  pub by_local_interrupt :
      type e.wanted ≡ local_interrupt_type → table_refusal (edited_table t e) ≡ refusal (local_interrupt_rules (edited_table t e) e.wanted)
  unfolding table_rules wrong_interrupts local_interrupt_rules refusal
  by_local_interrupt q =
      rest
      ∙ rw (
        processors_kept q refl,
        buses_kept q refl,
        ioapics_kept q refl,
        side_kept q io_side refl i.io refl refl,
        side_alone q local_side refl i.locally refl refl,
        input,
        spaces_kept q refl,
      )
    where
      input : any wrong_input (keep (of_type local_interrupt_type) fs) ≡ wrong_input e.wanted
      input =
          rw entries
          (any_keep_set wrong_input (of_type local_interrupt_type) es e.place e.wanted
          there (eq-eqb (type e.wanted) local_interrupt_type q) i.inputs)
