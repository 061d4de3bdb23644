-- What a caller may use of the judge's answers. Assumes nothing.
use Prim.Native.Nat.{ℕ, suc, ◌-◌, ◌/◌}
use mathlib.Core.Path.{◌≡◌, refl, sym, ap, ◌∙◌}
use mathlib.Core.Bool.{Bool, true, false, cond}
use mathlib.Core.List.{List, [], ◌∷◌, ◌++◌, append_assoc}
use native.Mathlib.Omega.{arith}
use lib.ListN.{length}
use Rattle.mps.specs.Words.{among, any, keep, each, first, part}
use Rattle.mps.specs.Refusals.{Rule, ◌when◌, refusal, room_number}
use Rattle.mps.specs.Rooms.{room_rules}
use Rattle.std.specs.Prelude.{Result, Ok, Err}
use Rattle.mps.specs.Reasons.{number_of_refusal, refusal_numbered}
use Rattle.mps.specs.Layout.{header_size, processor_size, entry_size, processor_type, bus_type, io_apic_type, id_of, base_entries, extended_entries}
use Rattle.mps.specs.Table.{wrong_extended_part, walk_from, wrong_extended, extended_from}
use Rattle.mps.specs.Rules.{is_listed, ids_of, enabled_of, enabled_ids}
use Rattle.mps.specs.Sections.{rows, sections}
use Rattle.mps.specs.Judge.{table_rules, table_refusal, judged, examined}
use Rattle.mps.specs.Slots.{is_pci, pci_buses, on_pci}
use Rattle.mps.specs.declared.Sections.{Sections}
use Rattle.mps.specs.declared.refusals.Refusal.{Refusal}
use Rattle.laws.proofs.Answers.{answered_ok, given_ok, given_err, refused_on, Known, known_rows, number_numbered}
use Rattle.laws.proofs.Tests.{or_parts}
use Rattle.laws.proofs.Refusals.{number, first_none, refusal_append}
use Rattle.laws.proofs.Lists.{length_each}
use Rattle.laws.proofs.Parts.{length_part}
use Rattle.laws.proofs.Rows.{rows_count}
use Rattle.laws.proofs.Small.{Bytes}
use Rattle.header.specs.Header.{header_refusal}
use Rattle.header.proofs.Laws.{header_passed, extended_fits}
use Rattle.apics.specs.Enabled.{enabled_in}
use Rattle.sections.specs.Base.{base_fault}
use Rattle.judge.specs.Placed.{Placed}
use Rattle.judge.specs.Stages.{walk_number, from14}
use Rattle.judge.proofs.Stages.{stages, extended_stages}
use Rattle.judge.proofs.Accepted.{placed}

-- ---- The judge's answer, from the examiner's

module _ (t : List ℕ) {x : Result Sections Refusal} (e : x ≡ examined t) where
  pub judged_ok : {p : Sections} → x ≡ Ok p → Ok tt ≡ judged t
  unfolding judged examined
  judged_ok q = answered_ok (table_refusal t) tt (given_ok (table_refusal t) (sections t) (sym q ∙ e)).0

  pub judged_err : {r : Refusal} → x ≡ Err r → Err r ≡ judged t
  unfolding judged examined
  judged_err q = refused_on (table_refusal t) (table_refusal t) (sections t) tt (sym q ∙ e) (λ z. refl)

  -- ---- What the examiner's answer says of the table

  pub accepted_number : {p : Sections} → x ≡ Ok p → 0 ≡ table_refusal t
  unfolding examined
  accepted_number q = sym (given_ok (table_refusal t) (sections t) (sym q ∙ e)).0

  -- A refusal is the table's, whose number is not 0.
  pub refused_table : {r : Refusal} → x ≡ Err r → (table_refusal t ≡ 0 → ⊥) × (r ≡ refusal_numbered (table_refusal t))
  unfolding examined
  refused_table q = given_err (table_refusal t) (sections t) (sym q ∙ e)

  pub accepted_sections : {p : Sections} → x ≡ Ok p → p ≡ sections t
  unfolding examined
  accepted_sections q = (given_ok (table_refusal t) (sections t) (sym q ∙ e)).1

-- Of the judge's own answer.
module _ (t : List ℕ) {x : Result (Unit {0}) Refusal} (e : x ≡ judged t) where
  pub judged_accepted : {u : Unit {0}} → x ≡ Ok u → table_refusal t ≡ 0
  unfolding judged
  judged_accepted q = (given_ok (table_refusal t) tt (sym q ∙ e)).0

  pub judged_refused : {r : Refusal} → x ≡ Err r → (table_refusal t ≡ 0 → ⊥) × (r ≡ refusal_numbered (table_refusal t))
  unfolding judged
  judged_refused q = given_err (table_refusal t) tt (sym q ∙ e)

-- ---- The number alone

module _ (t : List ℕ) where
  -- It is one that a refusal has, or 0.
  pub table_known : Known (table_refusal t)
  unfolding table_refusal table_rules any among each
  table_known = known_rows (table_rules t) refl

  pub number_accepted : {u : Unit {0}} → Ok u ≡ judged t → 0 ≡ table_refusal t
  number_accepted e = sym (judged_accepted t e refl)

  pub number_refused : {r : Refusal} → Err r ≡ judged t → number_of_refusal r ≡ table_refusal t
  number_refused e = let g = judged_refused t e refl in rw g.1 (number_numbered (table_refusal t) g.0 table_known)

-- ---- What an accepted table is like

cond_passed : (x : Bool) (n m : ℕ) → cond x (suc n) m ≡ 0 → x ≡ false
cond_passed true n m e = absurd (omega arith)
cond_passed false n m e = refl

-- Its sections are the rows of each type,
pub accepted_placed : (t : List ℕ) → Bytes t → table_refusal t ≡ 0 → Placed t (sections t)
unfolding walk_number base_fault base_entries
accepted_placed t bytes e =
    let header = first_none (header_refusal t) _ (sym (stages t) ∙ e) in
    let walk = first_none (walk_number t) _ header.1 in
    let extended = cond_passed (wrong_extended t) 12 (refusal (from14 t)) walk.1 in
    let parts = or_parts (wrong_extended_part t) (extended_from 0 (extended_entries t)) (sym (extended_stages t) ∙ extended) in
    placed t bytes (header_passed t header.0).low (extended_fits t parts.0)
    (first_none (walk_from 0 (base_entries t)) _ walk.0).0 parts.1

-- and so are those that the examiner answers.
pub accepted_places : (t : List ℕ) {r : Result Sections Refusal} {p : Sections} → Bytes t → r ≡ examined t → r ≡ Ok p → Placed t p
accepted_places t bytes e q = rw (accepted_sections t e q) (accepted_placed t bytes (sym (accepted_number t e q)))

-- Both of an answer.
pub examined_accepted : (t : List ℕ) → Bytes t → {r : Result Sections Refusal} {p : Sections} → r ≡ examined t → r ≡ Ok p
    → (table_refusal t ≡ 0) × Placed t p
examined_accepted t bytes e q = (sym (accepted_number t e q), accepted_places t bytes e q)

-- ---- Rows behind those of the table

pub table_some : (t : List ℕ) → among 0 (each number (table_rules t)) ≡ false
unfolding table_rules among each
table_some t = refl

pub behind_table_lem : (t : List ℕ) (own : List Rule) → refusal (table_rules t ++ own) ≡ first (table_refusal t) (refusal own)
unfolding table_refusal
behind_table_lem t own = refusal_append (table_rules t) own (table_some t)

-- And of one that has further rows behind its room's.
pub behind_room :
    (t : List ℕ) (small : Bool) (after : List Rule)
    → refusal (room_rules (table_rules t) small ++ after) ≡ first (table_refusal t) (refusal (room_number when small ∷ after))
unfolding room_rules
behind_room t small after =
    ap refusal (append_assoc (table_rules t) (room_number when small ∷ []) after) ∙ behind_table_lem t (room_number when small ∷ after)

-- ---- The enabled APICs

module _ (t : List ℕ) (p : Sections) (places : Placed t p) where
  pub placed_processors : enabled_ids processor_type (base_entries t) ≡ enabled_in processor_size (part header_size p.buses t)
  unfolding enabled_ids enabled_of enabled_in
  placed_processors = rw places.processors

  pub placed_ioapics : enabled_ids io_apic_type (base_entries t) ≡ enabled_in entry_size (part p.ioapics p.interrupts t)
  unfolding enabled_ids enabled_of enabled_in
  placed_ioapics = rw places.ioapics

-- ---- The listed buses

pub placed_listed : (t : List ℕ) (p : Sections) → Placed t p → (bus : ℕ)
    → is_listed (base_entries t) bus ≡ among bus (each id_of (rows entry_size (part p.buses p.ioapics t)))
unfolding is_listed ids_of
placed_listed t p places bus = rw places.buses

pub placed_pci : (t : List ℕ) (p : Sections) → Placed t p → (bus : ℕ)
    → on_pci (base_entries t) bus ≡ among bus (each id_of (keep is_pci (rows entry_size (part p.buses p.ioapics t))))
unfolding on_pci pci_buses
placed_pci t p places bus = rw places.buses

pub placed_buses : (t : List ℕ) (p : Sections) → Placed t p → length (ids_of bus_type (base_entries t)) ≡ (p.ioapics - p.buses) / entry_size
unfolding ids_of
placed_buses t p places =
    rw places.buses (length_each id_of (rows entry_size (part p.buses p.ioapics t)))
    ∙ rows_count (part p.buses p.ioapics t)
    ∙ rw (length_part p.buses p.ioapics t (omega (arith, places.to_interrupts, places.to_locals, places.to_mappings, places.to_links, places.to_modifiers, places.to_others, places.to_end, places.inside)))
