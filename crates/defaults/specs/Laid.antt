-- The rules by which the code comes to what Intel's tables say, for any number: a configuration's APICs, its buses and its
-- inputs, and its base entries one behind the other.
use Rattle.std.specs.Prelude.{ℕ, cond, ◌||◌, List, [], ◌∷◌, ◌++◌, ltb, eqb}
use Rattle.mps.specs.Words.{part, joined, below}
use Rattle.mps.specs.Layout.{Entry, bus_type, io_interrupt_type, local_interrupt_type, vectored, non_maskable, external, everyone}
use Rattle.mps.specs.Defaults.{ISA, EISA, MCA, PCI, processor_entry, default_io_apic, io_apic_entry, interrupt_entry}

-- The version of all APICs.
unfoldable pub apic_of : ℕ → ℕ
apic_of n = cond (ltb n 5) 0x01 0x10

-- Bus 0, and where there is one bus 1.
unfoldable pub first_bus : ℕ → Entry
first_bus n = bus_type ∷ 0 ∷ cond (eqb n 1 || eqb n 5) ISA (cond (eqb n 4 || eqb n 7) MCA EISA)

unfoldable pub buses_laid : ℕ → List ℕ
buses_laid n = first_bus n ++ cond (ltb n 5) [] (bus_type ∷ 1 ∷ PCI)

-- The entries of all sixteen inputs, "INTIN0" to "INTIN15", and of those that configurations 2 and 7 have.
unfoldable pub input_entry : ℕ → Entry
input_entry input = interrupt_entry io_interrupt_type (cond (eqb input 0) external vectored) (cond (eqb input 2) 0 input) default_io_apic input

unfoldable pub all_inputs : List ℕ
all_inputs = joined input_entry (below 16)

unfoldable pub inputs_of2 : List ℕ
inputs_of2 = part 0 16 all_inputs ++ (part 24 104 all_inputs ++ part 112 128 all_inputs)

unfoldable pub inputs_of7 : List ℕ
inputs_of7 = part 8 128 all_inputs

unfoldable pub inputs_laid : ℕ → List ℕ
inputs_laid n = cond (eqb n 2) inputs_of2 (cond (eqb n 7) inputs_of7 all_inputs)

-- The local interrupts of every configuration.
unfoldable pub locals_laid : List ℕ
locals_laid = interrupt_entry local_interrupt_type external 0 everyone 0 ++ interrupt_entry local_interrupt_type non_maskable 0 everyone 1

-- The entries before the interrupts, and all base entries.
unfoldable pub front_laid : ℕ → ℕ → List ℕ
front_laid n boot =
    (processor_entry (apic_of n) boot 0 ++ processor_entry (apic_of n) boot 1) ++ (buses_laid n ++ io_apic_entry (apic_of n))

unfoldable pub laid : ℕ → ℕ → List ℕ
laid n boot = front_laid n boot ++ (inputs_laid n ++ locals_laid)
