-- That the places of a `Sections` are those of a table: between one place and the next stand the entries of one type, all
-- of them and nothing else, and from `others` to the end those that are skipped by their length. This is what a caller of
-- the judge may use of an accepted table, instead of a walk.
use Rattle.std.specs.Prelude.{ℕ, ◌≤◌, ◌≡◌, List, ◌++◌, length}
use Rattle.mps.specs.Words.{part, keep, cut}
use Rattle.mps.specs.Layout.{of_type, header_size, processor_size, entry_size, mapping_size, link_size, extended_entry_length, base_entries, extended_entries}
use Rattle.mps.specs.Layout.{processor_type, bus_type, io_apic_type, io_interrupt_type, local_interrupt_type, mapping_type, hierarchy_type, modifier_type}
use Rattle.mps.specs.Sections.{rows}
use Rattle.mps.specs.declared.Sections.{Sections}
use Rattle.laws.proofs.Small.{Bytes}

pub record Placed (t : List ℕ) (p : Sections) : Type 0 where
  pub bytes : Bytes t
  pub processors : keep (of_type processor_type) (base_entries t) ≡ rows processor_size (part header_size p.buses t)
  pub buses : keep (of_type bus_type) (base_entries t) ≡ rows entry_size (part p.buses p.ioapics t)
  pub ioapics : keep (of_type io_apic_type) (base_entries t) ≡ rows entry_size (part p.ioapics p.interrupts t)
  pub interrupts : keep (of_type io_interrupt_type) (base_entries t) ≡ rows entry_size (part p.interrupts p.locals t)
  pub locals : keep (of_type local_interrupt_type) (base_entries t) ≡ rows entry_size (part p.locals p.mappings t)
  pub mappings : keep (of_type mapping_type) (extended_entries t) ≡ rows mapping_size (part p.mappings p.links t)
  pub links : keep (of_type hierarchy_type) (extended_entries t) ≡ rows link_size (part p.links p.modifiers t)
  pub modifiers : keep (of_type modifier_type) (extended_entries t) ≡ rows link_size (part p.modifiers p.others t)
  -- All entries, in the order of the table.
  pub base_order :
      base_entries t
      ≡ rows processor_size (part header_size p.buses t)
      ++ (rows entry_size (part p.buses p.ioapics t)
      ++ (rows entry_size (part p.ioapics p.interrupts t)
      ++ (rows entry_size (part p.interrupts p.locals t) ++ rows entry_size (part p.locals p.mappings t))))
  pub extended_order :
      extended_entries t
      ≡ rows mapping_size (part p.mappings p.links t)
      ++ (rows link_size (part p.links p.modifiers t)
      ++ (rows link_size (part p.modifiers p.others t) ++ cut extended_entry_length 0 (part p.others p.end t)))
  -- The places stand in this order, inside the buffer.
  pub from_header : header_size ≤ p.buses
  pub to_ioapics : p.buses ≤ p.ioapics
  pub to_interrupts : p.ioapics ≤ p.interrupts
  pub to_locals : p.interrupts ≤ p.locals
  pub to_mappings : p.locals ≤ p.mappings
  pub to_links : p.mappings ≤ p.links
  pub to_modifiers : p.links ≤ p.modifiers
  pub to_others : p.modifiers ≤ p.others
  pub to_end : p.others ≤ p.end
  pub inside : p.end ≤ length t
