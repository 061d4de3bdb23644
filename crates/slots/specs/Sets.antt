-- Slots as numbers, as the code makes the listing from a set of them. A slot is bus * 128 + device * 4 + pin, so that the
-- numbers rise as the listing does. That the listing is made of these numbers: proofs/Laws.antt.
use Rattle.std.specs.Prelude.{ℕ, ◌+◌, ◌*◌, ◌/◌, ◌%◌, ◌<◌, ◌≡◌, Bool, true, ◌&&◌, List, [], ◌∷◌}
use Rattle.mps.specs.Words.{among, any, keep, each, joined, below}
use Rattle.mps.specs.Layout.{Entry, source_bus, source_irq, bus_slots, pins, devices}
use Rattle.mps.specs.Slots.{Slot, slot, names_slot, on_pci}
use Rattle.roll.specs.Roll.{bus_bit, marked}

-- How many slots there are, on 256 buses, and how many words of 64 bits have a bit for each.
abbrev pub slots_most : ℕ
slots_most = 32768

abbrev pub set_words : ℕ
set_words = 512

-- ---- The numbers

-- The slot that a source names: "bit 7 ignored".
unfoldable pub slot_number : ℕ → ℕ → ℕ
slot_number bus irq = bus * bus_slots + irq % bus_slots

-- Those that some entries name, on the buses of a roll.
unfoldable pub named_on : List ℕ → List Entry → List ℕ
named_on roll es =
    each (λ (e : Entry). slot_number (source_bus e) (source_irq e)) (keep (λ (e : Entry). marked bus_bit roll (source_bus e)) es)

-- The slot that a number is, and whether entries name it on a PCI bus.
abbrev pub slot_of : ℕ → Slot
slot_of n = slot (n / bus_slots) (n / pins % devices) (n % pins)

unfoldable pub is_named : List Entry → ℕ → Bool
is_named es n = on_pci es (n / bus_slots) && any (names_slot (slot_of n)) es

-- Bus, device and pin.
unfoldable pub slot_bytes : ℕ → List ℕ
slot_bytes n = n / bus_slots ∷ n / pins % devices ∷ n % pins ∷ []

-- The bytes of these, each once, rising.
unfoldable pub listed_on : List ℕ → List Entry → List ℕ
listed_on roll es = joined slot_bytes (keep (λ (n : ℕ). among n (named_on roll es)) (below slots_most))

-- So many words are enough for the slots on the buses of a roll, of which each has two.
abbrev pub Held : List ℕ → ℕ → Type 0
Held roll size = (bus : ℕ) → bus < 256 → marked bus_bit roll bus ≡ true → bus * 2 + 1 < size
