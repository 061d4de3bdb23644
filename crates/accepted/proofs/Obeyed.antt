-- What the rows 14 to 18 say of an accepted table, as facts: those that the queries rest on. Assumes nothing.
use Prim.Native.Nat.{ℕ, ◌%◌}
use mathlib.Core.Path.{◌≡◌, sym, ◌∙◌}
use mathlib.Core.Bool.{false, not, ◌||◌}
use mathlib.Core.List.{List}
use native.Mathlib.Omega.{arith}
use lib.ListN.{length}
use lib.Dec.{eqb}
use Rattle.mps.specs.Words.{among, any, each, every, twice, keep}
use Rattle.mps.specs.Layout.{Entry, of_type, processor_type, io_apic_type, mapping_type, modifier_type, everyone, enabled, local_apic, local_apic_step, extended_bus, base_entries, extended_entries}
use Rattle.mps.specs.Rules.{enabled_of, enabled_ids, bootstraps, misplaced, wrong_processors, wrong_buses, wrong_io_apics, wrong_interrupts, wrong_mapping, wrong_hierarchy, wrong_modifier, links, circle, wrong_spaces}
use Rattle.mps.specs.Judge.{table_rules, table_refusal}
use Rattle.laws.proofs.Tests.{or_parts}
use Rattle.laws.proofs.Refusals.{refusal_pass}
use Rattle.accepted.proofs.Sound.{sound, sound_rest}

-- IDs of which each names one: none is 255, which names all, and no two are the same.
abbrev Single : List ℕ → Type 0
Single ids = (among everyone ids ≡ false) × (twice ids ≡ false)

-- Such are those of the enabled processors,
processors_single : (t : List ℕ) → wrong_processors t ≡ false → Single (enabled_ids processor_type (base_entries t))
unfolding wrong_processors
processors_single t e =
    let es = base_entries t in
    let ids = enabled_ids processor_type es in
    let boots =
    not (eqb (local_apic t % local_apic_step) 0) || not (eqb (length (bootstraps es)) 1) || not (every enabled (bootstraps es)) in
    let once = or_parts (boots || among everyone ids) (twice ids) e in
    ((or_parts boots (among everyone ids) once.0).1, once.1)

-- and those of the enabled I/O APICs.
ioapics_single : (es : List Entry) → wrong_io_apics es ≡ false → Single (enabled_ids io_apic_type es)
unfolding wrong_io_apics
ioapics_single es e =
    let ids = enabled_ids io_apic_type es in
    let placed = or_parts (among everyone ids || twice ids) (any misplaced (enabled_of io_apic_type es)) e in
    or_parts (among everyone ids) (twice ids) placed.0

-- Every bus has at most one parent, which is listed, and no bus is above itself.
pub record OneParent (es xs : List Entry) : Type 0 where
  pub listed : any (wrong_hierarchy es) (links xs) ≡ false
  pub one : twice (each extended_bus (links xs)) ≡ false
  pub rising : circle (links xs) ≡ false

spaces_one_parent : (es xs : List Entry) → wrong_spaces es xs ≡ false → OneParent es xs
unfolding wrong_spaces
spaces_one_parent es xs e =
    let mapped = any (wrong_mapping es) (keep (of_type mapping_type) xs) in
    let linked = any (wrong_hierarchy es) (links xs) in
    let modified = any (wrong_modifier es) (keep (of_type modifier_type) xs) in
    let doubled = twice (each extended_bus (links xs)) in
    let four = or_parts (mapped || linked || modified || doubled) (circle (links xs)) e in
    let three = or_parts (mapped || linked || modified) doubled four.0 in
    let two = or_parts (mapped || linked) modified three.0 in
    record { listed = (or_parts mapped linked two.0).1; one = three.1; rising = four.1 }

pub record Obeyed (t : List ℕ) : Type 0 where
  pub processors : twice (enabled_ids processor_type (base_entries t)) ≡ false
  pub processors_not_255 : among everyone (enabled_ids processor_type (base_entries t)) ≡ false
  pub ioapics : twice (enabled_ids io_apic_type (base_entries t)) ≡ false
  pub ioapics_not_255 : among everyone (enabled_ids io_apic_type (base_entries t)) ≡ false
  pub parents : OneParent (base_entries t) (extended_entries t)

-- All of the five rules.
pub record Keeps (t : List ℕ) : Type 0 where
  pub processors : wrong_processors t ≡ false
  pub buses : wrong_buses (base_entries t) ≡ false
  pub ioapics : wrong_io_apics (base_entries t) ≡ false
  pub interrupts : wrong_interrupts (base_entries t) ≡ false
  pub spaces : wrong_spaces (base_entries t) (extended_entries t) ≡ false

pub keeps : (t : List ℕ) → table_refusal t ≡ 0 → Keeps t
unfolding table_rules
keeps t e =
    let fourteen = refusal_pass 14 _ _ (omega arith) (sym (sound_rest t (sound t e)) ∙ e) in
    let fifteen = refusal_pass 15 _ _ (omega arith) fourteen.1 in
    let sixteen = refusal_pass 16 _ _ (omega arith) fifteen.1 in
    let seventeen = refusal_pass 17 _ _ (omega arith) sixteen.1 in
    let eighteen = refusal_pass 18 _ _ (omega arith) seventeen.1 in
    record {
      processors = fourteen.0;
      buses = fifteen.0;
      ioapics = sixteen.0;
      interrupts = seventeen.0;
      spaces = eighteen.0;
    }

pub obeyed : (t : List ℕ) → table_refusal t ≡ 0 → Obeyed t
obeyed t e =
    let k = keeps t e in
    record {
      processors = (processors_single t k.processors).1;
      processors_not_255 = (processors_single t k.processors).0;
      ioapics = (ioapics_single (base_entries t) k.ioapics).1;
      ioapics_not_255 = (ioapics_single (base_entries t) k.ioapics).0;
      parents = spaces_one_parent (base_entries t) (extended_entries t) k.spaces;
    }
