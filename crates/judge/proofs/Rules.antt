-- The rules 14 to 18 in the words of the crates that test them: the roll in the place of lists, and the rows between two places
-- in the place of the entries of a type; and what the roll shows behind each rule. Assumes nothing.
use Prim.Native.Nat.{ℕ, ◌%◌, ◌<◌}
use mathlib.Core.Path.{◌≡◌, refl, sym, ◌∙◌}
use mathlib.Core.Bool.{Bool, true, false, not, ◌||◌, ◌&&◌, or-true, or-false, or_assoc, and-true, and-false}
use mathlib.Core.List.{List}
use lib.ListN.{length, replicate, length-replicate}
use lib.Dec.{eqb}
use Rattle.mps.specs.Words.{part, bit, among, twice, keep, any, every, each}
use Rattle.mps.specs.Layout.{of_type, header_size, base_entries, extended_entries, local_apic, local_apic_step, everyone, enabled, extended_bus}
use Rattle.mps.specs.Layout.{processor_type, bus_type, io_apic_type, io_interrupt_type, local_interrupt_type, mapping_type, hierarchy_type, modifier_type, extended_entry_length, base_length, extended_end, extended_part}
use Rattle.mps.specs.Rules.{enabled_of, ids_of, enabled_ids, bootstraps, wrong_processors, wrong_buses, wrong_io_apics, wrong_interrupt, wrong_input, wrong_on_side, wrong_interrupts, links, circle}
use Rattle.mps.specs.Rules.{wrong_mapping, wrong_hierarchy, wrong_modifier, wrong_spaces}
use Rattle.mps.specs.Sections.{rows}
use Rattle.mps.specs.declared.Sections.{Sections}
use Rattle.laws.proofs.Small.{Small, bytes_part, small_cut, small_base, small_keep, small_rows, any_same, any_or}
use Rattle.roll.specs.Roll.{marked, with_marks, Shows}
use Rattle.roll.specs.Calls.{called}
use Rattle.roll.proofs.Laws.{length_marks, marked_put, marked_none, length_called}
use Rattle.apics.specs.Apics.{processor_call, io_apic_call, wrong_processors_in}
use Rattle.apics.proofs.Laws.{cpus_wrong, cpus_listed, cpus_keep, ios_wrong, ios_listed, ios_keep}
use Rattle.buses.specs.Buses.{bus_call}
use Rattle.buses.proofs.Laws.{buses_wrong, buses_listed, buses_keep}
use Rattle.interrupts.specs.Interrupts.{wrong_interrupt_in}
use Rattle.interrupts.proofs.Laws.{wrong_interrupt_io, wrong_interrupt_local}
use Rattle.spaces.specs.Spaces.{wrong_mapping_in, wrong_modifier_in}
use Rattle.spaces.proofs.Laws.{wrong_mapping_in_lem, wrong_modifier_in_lem}
use Rattle.parents.specs.Parents.{wrong_links}
use Rattle.parents.proofs.Laws.{wrong_links_in}
use Rattle.judge.specs.Placed.{Placed}
use Rattle.judge.specs.Rolled.{nobody, listed, reserved, Rolled, Named}

-- ---- The roll that the judge begins with: 255 is taken of both kinds, and nothing else is in it

abbrev pub started : List ℕ
started = with_marks 18 (replicate 256 0) everyone

begins : (j y : ℕ) → y < 256 → marked j started y ≡ (eqb y everyone && bit j 18)
begins j y h =
    marked_put j 18 (replicate 256 0) everyone y (rw (length-replicate {A = ℕ} 256 0) h)
    ∙ rw (marked_none j 256 y) (or-false (eqb y everyone && bit j 18))

started_taken : Shows 1 started reserved
unfolding bit
started_taken y h = begins 1 y h ∙ and-true (eqb y everyone)

pub starts : Rolled started nobody nobody
unfolding bit
starts = record {
  size = length_marks 18 (replicate 256 0) everyone ∙ length-replicate {A = ℕ} 256 0;
  cpus_shown = λ y h. begins 0 y h ∙ and-false (eqb y everyone);
  ioapics_shown = λ y h. begins 2 y h ∙ and-false (eqb y everyone);
  io_taken_shown = λ y h. begins 4 y h ∙ and-true (eqb y everyone);
  buses_shown = λ y h. begins 3 y h ∙ and-false (eqb y everyone);
}

five : (l n b a t : Bool) → (l || n || b || a || t) ≡ (l || (n || b || a || t))
five true n b a t = refl
five false n b a t = refl

links_last : (m l o t c : Bool) → (m || l || o || t || c) ≡ (m || o || (l || (t || c)))
links_last true l o t c = refl
links_last false true o t c = sym (or-true o)
links_last false false true t c = refl
links_last false false false t c = refl

-- ---- What the rules say of a table whose sections are known

module _ (t : List ℕ) (p : Sections) (h : Placed t p) where
  -- The bytes of each section.
  abbrev processor_bytes : List ℕ
  processor_bytes = part header_size p.buses t

  abbrev bus_bytes : List ℕ
  bus_bytes = part p.buses p.ioapics t

  abbrev apic_bytes : List ℕ
  apic_bytes = part p.ioapics p.interrupts t

  small_extended : Small (extended_entries t)
  unfolding extended_entries
  small_extended = small_cut extended_entry_length 0 (extended_part t) (bytes_part (base_length t) (extended_end t) t h.bytes)

  -- ---- 14

  pub rule_14 : wrong_processors t ≡ (not (eqb (local_apic t % local_apic_step) 0) || wrong_processors_in started (rows 20 processor_bytes))
  unfolding wrong_processors bootstraps enabled_ids enabled_of
  rule_14 =
      let boots = bootstraps (base_entries t) in
      let ids = enabled_ids processor_type (base_entries t) in
      rw (cpus_wrong started starts.size (rows 20 processor_bytes) (small_rows 20 processor_bytes (bytes_part header_size p.buses t h.bytes)) started_taken, ← h.processors)
      (five (not (eqb (local_apic t % local_apic_step) 0)) (not (eqb (length boots) 1)) (not (every enabled boots)) (among everyone ids) (twice ids))

  module _ (fine : wrong_processors_in started (rows 20 processor_bytes) ≡ false) where
    abbrev cpus_roll : List ℕ
    cpus_roll = (called processor_call started (rows 20 processor_bytes)).roll

    pub next_14 : Rolled cpus_roll (listed processor_type t) nobody
    unfolding ids_of bit
    next_14 =
        let es = rows 20 processor_bytes in
        record {
          size = length_called processor_call started es ∙ starts.size;
          cpus_shown = λ y b.
              cpus_listed started starts.size es fine y b ∙ rw (starts.cpus_shown y b, ← h.processors) (or-false _);
          ioapics_shown = λ y b. cpus_keep started starts.size es fine y b 2 refl refl ∙ starts.ioapics_shown y b;
          io_taken_shown = λ y b. cpus_keep started starts.size es fine y b 4 refl refl ∙ starts.io_taken_shown y b;
          buses_shown = λ y b. cpus_keep started starts.size es fine y b 3 refl refl ∙ starts.buses_shown y b;
        }

  -- ---- 15 and 16: of the roll each asks one bit

  module _ (roll : List ℕ) (size : length roll ≡ 256) where
    pub rule_15 : Shows 3 roll nobody → wrong_buses (base_entries t) ≡ (called bus_call roll (rows 8 bus_bytes)).wrong
    unfolding wrong_buses ids_of
    rule_15 free =
        let small = small_rows 8 bus_bytes (bytes_part p.buses p.ioapics t h.bytes) in
        sym (buses_wrong roll size (rows 8 bus_bytes) small free ∙ rw (← h.buses))

    pub rule_16 : Shows 4 roll reserved → wrong_io_apics (base_entries t) ≡ (called io_apic_call roll (rows 8 apic_bytes)).wrong
    unfolding wrong_io_apics enabled_ids enabled_of
    rule_16 taken =
        let small = small_rows 8 apic_bytes (bytes_part p.ioapics p.interrupts t h.bytes) in
        sym (ios_wrong roll size (rows 8 apic_bytes) small taken ∙ rw (← h.ioapics))

  module _ {roll : List ℕ} (r : Rolled roll (listed processor_type t) nobody) where
    pub next_15 :
        (called bus_call roll (rows 8 bus_bytes)).wrong ≡ false
        → Rolled (called bus_call roll (rows 8 bus_bytes)).roll (listed processor_type t) (listed bus_type t)
    unfolding ids_of bit
    next_15 fine = record {
      size = length_called bus_call roll (rows 8 bus_bytes) ∙ r.size;
      cpus_shown = λ y b. buses_keep roll r.size (rows 8 bus_bytes) fine y b 0 refl ∙ r.cpus_shown y b;
      ioapics_shown = λ y b. buses_keep roll r.size (rows 8 bus_bytes) fine y b 2 refl ∙ r.ioapics_shown y b;
      io_taken_shown = λ y b. buses_keep roll r.size (rows 8 bus_bytes) fine y b 4 refl ∙ r.io_taken_shown y b;
      buses_shown = λ y b. buses_listed roll r.size (rows 8 bus_bytes) fine y b r.buses_shown ∙ rw (← h.buses);
    }

  -- ---- 16

  module _ {roll : List ℕ} (r : Rolled roll (listed processor_type t) (listed bus_type t)) where
    module _ (fine : (called io_apic_call roll (rows 8 apic_bytes)).wrong ≡ false) where
      abbrev io_roll : List ℕ
      io_roll = (called io_apic_call roll (rows 8 apic_bytes)).roll

      size : length io_roll ≡ 256
      size = length_called io_apic_call roll (rows 8 apic_bytes) ∙ r.size

      -- 255 as a destination.
      put : (j y : ℕ) → y < 256 → marked j (with_marks 5 io_roll everyone) y ≡ (eqb y everyone && bit j 5 || marked j io_roll y)
      put j y b = marked_put j 5 io_roll everyone y (rw size b)

      pub next_16 : Named t (with_marks 5 io_roll everyone)
      unfolding ids_of bit
      next_16 =
          let es = rows 8 apic_bytes in
          record {
            cpus_shown = λ y b. put 0 y b ∙ rw (ios_keep roll r.size es fine y b 0 refl refl, r.cpus_shown y b, and-true (eqb y everyone));
            ioapics_shown = λ y b.
                put 2 y b
                ∙ rw (ios_listed roll r.size es fine y b, r.ioapics_shown y b, and-true (eqb y everyone), or-false, ← h.ioapics);
            buses_shown = λ y b. put 3 y b ∙ rw (ios_keep roll r.size es fine y b 3 refl refl, r.buses_shown y b, and-false (eqb y everyone));
          }

  -- ---- 17

  small_of : (n : ℕ) → Small (keep (of_type n) (base_entries t))
  small_of n = small_keep (of_type n) (small_base t h.bytes)

  module _ {roll : List ℕ} (r : Named t roll) where
    pub rule_17 :
        wrong_interrupts (base_entries t)
        ≡ (any (wrong_interrupt_in roll 2 255) (rows 8 (part p.interrupts p.locals t))
        || any (wrong_interrupt_in roll 0 1) (rows 8 (part p.locals p.mappings t)))
    unfolding wrong_interrupts wrong_on_side
    rule_17 =
        let es = base_entries t in
        let io = wrong_interrupt es io_apic_type in
        let locally = wrong_interrupt es processor_type in
        let ls = keep (of_type local_interrupt_type) es in
        or_assoc (any io (keep (of_type io_interrupt_type) es)) (any locally ls) (any wrong_input ls)
        ∙ rw (
          ← any_or locally wrong_input ls,
          ← h.interrupts,
          ← h.locals,
          any_same (wrong_interrupt_in roll 2 255) io (wrong_interrupt_io es roll r.buses_shown io_apic_type 2 r.ioapics_shown) (small_of io_interrupt_type),
          any_same (wrong_interrupt_in roll 0 1) (λ e. locally e || wrong_input e) (wrong_interrupt_local es roll r.buses_shown processor_type 0 r.cpus_shown) (small_of local_interrupt_type),
        )

    -- ---- 18

    small_more_of : (n : ℕ) → Small (keep (of_type n) (extended_entries t))
    small_more_of n = small_keep (of_type n) small_extended

    pub rule_18 :
        wrong_spaces (base_entries t) (extended_entries t)
        ≡ (any (wrong_mapping_in roll) (rows 20 (part p.mappings p.links t))
        || any (wrong_modifier_in roll) (rows 8 (part p.modifiers p.others t))
        || wrong_links roll (rows 8 (part p.links p.modifiers t)))
    unfolding wrong_spaces links
    rule_18 =
        let es = base_entries t in
        let xs = extended_entries t in
        let ls = links xs in
        rw (
          ← h.mappings,
          ← h.links,
          ← h.modifiers,
          any_same (wrong_mapping_in roll) (wrong_mapping es) (wrong_mapping_in_lem es roll r.buses_shown) (small_more_of mapping_type),
          wrong_links_in es roll r.buses_shown (small_more_of hierarchy_type),
          any_same (wrong_modifier_in roll) (wrong_modifier es) (wrong_modifier_in_lem es roll r.buses_shown) (small_more_of modifier_type),
        )
        (links_last
        (any (wrong_mapping es) (keep (of_type mapping_type) xs))
        (any (wrong_hierarchy es) ls)
        (any (wrong_modifier es) (keep (of_type modifier_type) xs))
        (twice (each extended_bus ls))
        (circle ls))
