-- The fourteen tables of the default configurations, each claim over all of them at once. Assumes nothing.
use Prim.Native.Nat.{ℕ, suc, ◌-◌}
use mathlib.Core.Path.{◌≡◌, refl}
use mathlib.Core.Bool.{true}
use mathlib.Core.List.{List, [], ◌∷◌}
use lib.ListN.{length}
use lib.Dec.{leb, eqb}
use Rattle.mps.specs.Words.{byte, flag, keep, each, rising, below}
use Rattle.mps.specs.Layout.{Entry, default_most, boot_most, of_type, processor_type, bus_type, io_apic_type, io_interrupt_type, local_interrupt_type, everyone}
use Rattle.mps.specs.Layout.{id_of, version, enabled, bootstrap, name_of, address_of, local_apic, base_length, extended_length, entry_count, base_entries, extended_entries}
use Rattle.mps.specs.Rules.{enabled_of}
use Rattle.mps.specs.Judge.{table_refusal}
use Rattle.mps.specs.Slots.{slots_of}
use Rattle.mps.specs.Renumber.{new_numbers_of, used_numbers, bits_set}
use Rattle.mps.specs.Writing.{parts_of}
use Rattle.mps.specs.Defaults.{configuration, table5_2, table5_3, processor_entry, io_apic_entry, inputs, default_io_apic, default_entries, default_parts, default_table}
use Rattle.board.proofs.Computed.{computed}

-- What a function gives of each configuration with each boot processor.
abbrev pub of_each : {A : Type 0} → (ℕ → ℕ → A) → List (List A)
of_each f = each (λ (n : ℕ). each (f n) (below (suc boot_most))) (rising default_most 1)

pub defaults_accepted : of_each (λ (n boot : ℕ). table_refusal (default_table n boot)) ≡ of_each (λ (n boot : ℕ). 0)
unfolding computed
defaults_accepted = refl

-- None is longer than the room that the full listing has for it.
pub defaults_most : of_each (λ (n boot : ℕ). leb (length (default_table n boot)) 252) ≡ of_each (λ (n boot : ℕ). true)
unfolding computed
defaults_most = refl

-- ---- What they have, read from their bytes

-- How long they are, from configuration 1 to 7: the same whichever processor booted.
pub defaults_sizes :
    of_each (λ (n boot : ℕ). length (default_table n boot))
    ≡ of_each (λ (n boot : ℕ). byte (244 ∷ 228 ∷ 244 ∷ 244 ∷ 252 ∷ 252 ∷ 244 ∷ []) (n - 1))
unfolding computed
defaults_sizes = refl

-- Their headers say so: a base of all their bytes, no extended part, and as many entries as they have.
pub defaults_lengths :
    of_each (λ (n boot : ℕ).
    let t = default_table n boot in base_length t ∷ extended_length t ∷ entry_count t ∷ [])
    ≡ of_each (λ (n boot : ℕ). length (default_table n boot) ∷ 0 ∷ length (default_entries n boot) ∷ [])
unfolding computed
defaults_lengths = refl

-- The entries and the parts are those that they were made of.
pub defaults_entries : of_each (λ (n boot : ℕ). base_entries (default_table n boot)) ≡ of_each default_entries
unfolding computed
defaults_entries = refl

pub defaults_parts : of_each (λ (n boot : ℕ). parts_of (default_table n boot)) ≡ of_each default_parts
unfolding computed
defaults_parts = refl

pub defaults_extended : of_each (λ (n boot : ℕ). extended_entries (default_table n boot)) ≡ of_each (λ (n boot : ℕ). [])
unfolding computed
defaults_extended = refl

-- "Processors 0 and 1", both enabled; the one that booted, and no other, is the bootstrap processor.
pub defaults_processors :
    of_each (λ (n boot : ℕ).
    each (λ (e : Entry). id_of e ∷ version e ∷ flag (enabled e) ∷ flag (bootstrap e) ∷ [])
    (keep (of_type processor_type) (base_entries (default_table n boot))))
    ≡ of_each (λ (n boot : ℕ). each (λ (id : ℕ). id ∷ (configuration n).apic ∷ 1 ∷ flag (eqb id boot) ∷ []) (0 ∷ 1 ∷ []))
unfolding computed
defaults_processors = refl

-- The buses of Table 5-1 have the IDs from 0 on.
pub defaults_bus_names :
    of_each (λ (n boot : ℕ). each name_of (keep (of_type bus_type) (base_entries (default_table n boot))))
    ≡ of_each (λ (n boot : ℕ). (configuration n).buses)
unfolding computed
defaults_bus_names = refl

pub defaults_bus_ids :
    of_each (λ (n boot : ℕ). each id_of (keep (of_type bus_type) (base_entries (default_table n boot))))
    ≡ of_each (λ (n boot : ℕ). below (length (configuration n).buses))
unfolding computed
defaults_bus_ids = refl

-- "the I/O APIC at FEC00000h numbered 2": one, and it is enabled.
pub defaults_io_apics :
    of_each (λ (n boot : ℕ).
    each (λ (e : Entry). id_of e ∷ version e ∷ flag (enabled e) ∷ address_of e ∷ [])
    (keep (of_type io_apic_type) (base_entries (default_table n boot))))
    ≡ of_each (λ (n boot : ℕ). (2 ∷ (configuration n).apic ∷ 1 ∷ 0xfec00000 ∷ []) ∷ [])
unfolding computed
defaults_io_apics = refl

-- "local APICs at FEE00000h"
pub defaults_local_apic : of_each (λ (n boot : ℕ). local_apic (default_table n boot)) ≡ of_each (λ (n boot : ℕ). 0xfee00000)
unfolding computed
defaults_local_apic = refl

-- The interrupt entries are those of Tables 5-2 and 5-3, and no others.
pub defaults_inputs :
    of_each (λ (n boot : ℕ). keep (of_type io_interrupt_type) (base_entries (default_table n boot)))
    ≡ of_each (λ (n boot : ℕ). inputs io_interrupt_type default_io_apic n 0 table5_2)
unfolding computed
defaults_inputs = refl

pub defaults_local_inputs :
    of_each (λ (n boot : ℕ). keep (of_type local_interrupt_type) (base_entries (default_table n boot)))
    ≡ of_each (λ (n boot : ℕ). inputs local_interrupt_type everyone n 0 table5_3)
unfolding computed
defaults_local_inputs = refl

-- Those that a destination names: the enabled ones.
pub defaults_io_targets :
    of_each (λ (n boot : ℕ). enabled_of io_apic_type (base_entries (default_table n boot)))
    ≡ of_each (λ (n boot : ℕ). io_apic_entry (configuration n).apic ∷ [])
unfolding computed
defaults_io_targets = refl

pub defaults_local_targets :
    of_each (λ (n boot : ℕ). enabled_of processor_type (base_entries (default_table n boot)))
    ≡ of_each (λ (n boot : ℕ). processor_entry (configuration n).apic boot 0 ∷ processor_entry (configuration n).apic boot 1 ∷ [])
unfolding computed
defaults_local_targets = refl

-- ---- What is answered of them

-- No slot is named: MPS 5.2, "No I/O interrupt assignment entries are declared for PCI interrupts".
pub defaults_slots : of_each (λ (n boot : ℕ). slots_of (default_table n boot)) ≡ of_each (λ (n boot : ℕ). [])
unfolding computed
defaults_slots = refl

-- The I/O APIC keeps its number, and three numbers are used.
pub defaults_numbers : of_each (λ (n boot : ℕ). new_numbers_of (default_table n boot)) ≡ of_each (λ (n boot : ℕ). 2 ∷ [])
unfolding computed
defaults_numbers = refl

pub defaults_used : of_each (λ (n boot : ℕ). bits_set (used_numbers (base_entries (default_table n boot)))) ≡ of_each (λ (n boot : ℕ). 3)
unfolding computed
defaults_used = refl
