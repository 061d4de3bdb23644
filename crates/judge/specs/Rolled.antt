-- What the roll shows between the rules 14 to 18: of each of its bits, at which IDs it is set.
use Rattle.std.specs.Prelude.{ℕ, ◌≡◌, Bool, false, ◌||◌, List, length, eqb}
use Rattle.mps.specs.Words.{among}
use Rattle.mps.specs.Layout.{processor_type, bus_type, io_apic_type, everyone, base_entries}
use Rattle.mps.specs.Rules.{ids_of}
use Rattle.roll.specs.Roll.{processor_bit, io_apic_bit, bus_bit, io_taken_bit, Shows}

-- ---- IDs

abbrev pub nobody : ℕ → Bool
nobody y = false

-- Those of the entries of one type, enabled or not.
abbrev pub listed : ℕ → List ℕ → ℕ → Bool
listed n t y = among y (ids_of n (base_entries t))

-- The one that no enabled APIC may have.
abbrev pub reserved : ℕ → Bool
reserved y = eqb y everyone

-- Those that a destination may name.
abbrev pub named : ℕ → List ℕ → ℕ → Bool
named n t y = eqb y everyone || listed n t y

-- ---- The roll

-- Between two of the rules 14 to 16: at which IDs the bits of processors and of buses are set. I/O APICs are not called yet, and
-- of their kind 255 alone is taken. Nothing asks any more which IDs enabled processors have.
pub record Rolled (roll : List ℕ) (cpus buses : ℕ → Bool) : Type 0 where
  pub size : length roll ≡ 256
  pub cpus_shown : Shows processor_bit roll cpus
  pub ioapics_shown : Shows io_apic_bit roll nobody
  pub io_taken_shown : Shows io_taken_bit roll reserved
  pub buses_shown : Shows bus_bit roll buses

-- Behind 16: which IDs 17 and 18 may find named. Nothing asks any more which are taken.
pub record Named (t roll : List ℕ) : Type 0 where
  pub cpus_shown : Shows processor_bit roll (named processor_type t)
  pub ioapics_shown : Shows io_apic_bit roll (named io_apic_type t)
  pub buses_shown : Shows bus_bit roll (listed bus_type t)
