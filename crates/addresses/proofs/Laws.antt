-- What the address query answers of a table, between its places. Assumes nothing.
use Prim.Native.Nat.{ℕ, zero, suc, ◌-◌, ◌/◌, ◌≤◌, ◌<◌}
use mathlib.Core.Path.{◌≡◌, refl, ◌∙◌}
use mathlib.Core.Bool.{true, false, or-true}
use mathlib.Core.List.{List, [], ◌∷◌}
use native.Mathlib.Omega.{arith}
use lib.ListN.{length}
use Rattle.std.specs.Prelude.{Result, Ok, Err}
use borrow.Author.Tests.{lt-ltb, le-ltb}
use Rattle.mps.specs.Words.{byte, among, each, keep, part, first}
use Rattle.mps.specs.Refusals.{Rule, ◌when◌, refusal, query_number}
use Rattle.mps.specs.Reasons.{refusal_numbered}
use Rattle.mps.specs.Layout.{of_type, bus_type, mapping_type, modifier_type, mapping_size, link_size, entry_size, space_kind_most, base_entries, extended_entries}
use Rattle.mps.specs.Rules.{is_listed, ids_of, links, parents_of}
use Rattle.mps.specs.Sections.{rows}
use Rattle.mps.specs.Judge.{table_rules, table_refusal, examined}
use Rattle.mps.specs.Addresses.{says, seen_by, wrong_space, address_rules, seen}
use Rattle.mps.specs.declared.Sections.{Sections}
use Rattle.mps.specs.declared.Seen.TheVariants.{Undeclared}
use Rattle.mps.specs.declared.refusals.Refusal.{Refusal}
use Rattle.mps.specs.declared.refusals.Refusal.TheVariants.{Query}
use Rattle.laws.proofs.Answers.{answered_err}
use Rattle.laws.proofs.Lists.{among_none, zeros_at}
use Rattle.laws.proofs.Small.{bytes_part, small_rows}
use Rattle.laws.proofs.Rows.{rows_short}
use Rattle.laws.proofs.Refusals.{first_some, refusal_append, refusal_stop}
use Rattle.accepted.proofs.Sound.{entries_most}
use Rattle.accepted.proofs.Obeyed.{obeyed}
use Rattle.judge.specs.Placed.{Placed}
use Rattle.judge.proofs.Laws.{refused_table, placed_buses}
use Rattle.marks.specs.Marks.{meaning, nothing, marked, all_marked, parented}
use Rattle.marks.proofs.Marks.{marked_says, length_nothing}
use Rattle.marks.proofs.Below.{said_others}
use Rattle.addresses.specs.Climbing.{climb_in, climb_over}
use Rattle.addresses.proofs.Links.{ids_fewer}
use Rattle.addresses.proofs.Climbs.{parented_byte, bytes_parented, parent_linked, head_some, climb_in_lem}

-- ---- A table, between its places

among_some : (x : ℕ) (ys : List ℕ) → among x ys ≡ true → 1 ≤ length ys
among_some x [] a = absurd (among_none x a)
among_some x (y ∷ ys) a = omega arith

-- Between a place and itself there is no row.
rows_none : (n at : ℕ) (t : List ℕ) → 0 < n → rows n (part at at t) ≡ []
rows_none n at t h =
    let none : at - at ≡ 0 = omega arith in
    rows_short n (part at at t) (rw none h)

climb_bare : (left kind address bus : ℕ) → Undeclared 0 ≡ climb_over left kind address [] [] [] bus
unfolding climb_in marked parented
climb_bare zero kind address bus = rw (zeros_at 256 bus)
climb_bare (suc left) kind address bus = rw (zeros_at 256 bus)

module _ (t : List ℕ) (p : Sections) (placed : Placed t p) (a : table_refusal t ≡ 0) where
  -- There are no more buses than the two bytes of the header's count can say.
  pub buses_most : (p.ioapics - p.buses) / entry_size ≤ 65535
  buses_most = omega (arith, placed_buses t p placed, ids_fewer bus_type (base_entries t), entries_most t placed.bytes a)

  -- A listed bus is one of them.
  pub buses_some : (bus : ℕ) → is_listed (base_entries t) bus ≡ true → 1 ≤ (p.ioapics - p.buses) / entry_size
  unfolding is_listed
  buses_some bus l = rw (← placed_buses t p placed) (among_some bus (ids_of bus_type (base_entries t)) l)

  pub seen_climb : (bus kind address : ℕ) → bus < 256
      → climb_over ((p.ioapics - p.buses) / entry_size - 1) kind address (rows mapping_size (part p.mappings p.links t))
      (rows link_size (part p.links p.modifiers t)) (rows link_size (part p.modifiers p.others t)) bus
      ≡ seen_by t bus kind address
  unfolding seen_by links
  seen_climb bus kind address h =
      let xs = extended_entries t in
      let small = small_rows link_size (part p.links p.modifiers t) (bytes_part p.links p.modifiers t placed.bytes) in
      let marks = all_marked kind address nothing (keep (of_type mapping_type) xs) (links xs) (keep (of_type modifier_type) xs) in
      let told : (b : ℕ) → b < 256 → meaning (byte marks b) ≡ says xs b kind address =
      λ b l. marked_says kind address nothing xs b (rw length_nothing l) (zeros_at 256 b) in
      rw (← placed.mappings, ← placed.links, ← placed.modifiers, ← placed_buses t p placed)
      (climb_in_lem _ _ _ xs kind address
      told
      (λ b l s. parented_byte nothing (links xs) b (rw length_nothing l) (obeyed t a).parents.one
      ∙ head_some _ b (parents_of (links xs) b) (parent_linked xs b kind address s))
      (bytes_parented nothing (λ i. rw (zeros_at 256 i) (omega arith)) (rw placed.links small))
      (λ up b l s. said_others xs kind address marks told up b s (rw placed.links small) l)
      _ bus 0 h)

  -- A table that has none of the three types declares nothing.
  pub seen_bare : (bus kind address : ℕ) → bus < 256 → p.mappings ≡ p.others → Undeclared 0 ≡ seen_by t bus kind address
  seen_bare bus kind address h e =
      let l : p.links ≡ p.mappings = omega (arith, placed.to_links, placed.to_modifiers, placed.to_others) in
      let m : p.modifiers ≡ p.mappings = omega (arith, placed.to_links, placed.to_modifiers, placed.to_others) in
      let maps : rows mapping_size (part p.mappings p.links t) ≡ [] = rw l (rows_none mapping_size p.mappings t (omega arith)) in
      let ls : rows link_size (part p.links p.modifiers t) ≡ [] = rw (l, m) (rows_none link_size p.mappings t (omega arith)) in
      let mods : rows link_size (part p.modifiers p.others t) ≡ [] = rw (m, ← e) (rows_none link_size p.mappings t (omega arith)) in
      climb_bare ((p.ioapics - p.buses) / entry_size - 1) kind address bus
      ∙ (rw (maps, ls, mods) at (seen_climb bus kind address h))

-- ---- The query: the table's own number, then 24

module _ (t : List ℕ) (bus kind address : ℕ) where
  asked_rules : List Rule
  asked_rules = query_number when wrong_space t bus kind ∷ []

  seen_number : refusal (address_rules t bus kind) ≡ first (table_refusal t) (refusal asked_rules)
  unfolding address_rules table_refusal table_rules asked_rules among each
  seen_number = refusal_append (table_rules t) asked_rules refl

  pub refused_seen : {found : Result Sections Refusal} {r : Refusal} → found ≡ examined t → found ≡ Err r → Err r ≡ seen t bus kind address
  unfolding seen
  refused_seen e k =
      let g = refused_table t e k in
      rw (seen_number, first_some (table_refusal t) _ g.0) (answered_err (table_refusal t) _ g.0 g.1)

  pub seen_24 : table_refusal t ≡ 0 → wrong_space t bus kind ≡ true → Err Query ≡ seen t bus kind address
  unfolding seen asked_rules refusal_numbered
  seen_24 a q = rw (seen_number, a, refusal_stop query_number [] q)

  -- The question's two faults.
  pub seen_kind : table_refusal t ≡ 0 → space_kind_most < kind → Err Query ≡ seen t bus kind address
  unfolding wrong_space
  seen_kind a k = seen_24 a (simp (lt-ltb space_kind_most kind k, or-true))

  pub seen_unlisted : table_refusal t ≡ 0 → is_listed (base_entries t) bus ≡ false → Err Query ≡ seen t bus kind address
  unfolding wrong_space
  seen_unlisted a l = seen_24 a (rw l)

  pub seen_answered : table_refusal t ≡ 0 → is_listed (base_entries t) bus ≡ true → kind ≤ space_kind_most
      → Ok (seen_by t bus kind address) ≡ seen t bus kind address
  unfolding seen asked_rules refusal wrong_space
  seen_answered a l k = rw (seen_number, a, l, le-ltb space_kind_most kind k)
