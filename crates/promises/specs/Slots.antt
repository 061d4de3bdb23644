-- What document 02's ask 1 speaks of: the source IRQ of a PCI slot, and the slots that stand in an answer, in their order.
use Rattle.std.specs.Prelude.{ℕ, ◌+◌, ◌*◌, ◌%◌, ◌<◌, ◌≡◌, Bool, true, cond, ◌||◌, ◌&&◌, List, set, ltb, eqb}
use Rattle.mps.specs.Words.{byte, bit}
use Rattle.mps.specs.Layout.{Entry, of_type, io_interrupt_type, interrupt_type, vectored, source_bus, source_irq, bus_slots, pins, devices, base_entries}
use Rattle.mps.specs.Rules.{io_side}
use Rattle.mps.specs.Judge.{table_refusal}
use Rattle.mps.specs.Routes.{Question, question}
use Rattle.mps.specs.Slots.{Slot, slot, on_pci, slot_size}

-- ---- The source IRQ: "bits 0-1 the pin (0 is INTA#), bits 2-6 the device, bit 7 reserved"

-- "device 0 to 31 and pin 0 to 3"
pub record InRange (s : Slot) : Type 0 where
  pub device_low : s.device < devices
  pub pin_low : s.pin < pins

-- What an answered query is of.
pub record SlotAnswered (s : Slot) (t : List ℕ) : Type 0 where
  pub accepted : table_refusal t ≡ 0
  pub bus_pci : on_pci (base_entries t) s.bus ≡ true
  pub range : InRange s

-- The source IRQ of a slot, bit 7 clear.
abbrev pub irq_of : Slot → ℕ
irq_of s = s.device * pins + s.pin

-- The route query for that source: "Existing routes still compare the whole byte."
abbrev pub as_route : Slot → Question
as_route s = question io_side vectored s.bus (irq_of s)

-- Bits 0 to 6 of an entry's source IRQ.
abbrev pub low_seven : Entry → ℕ
low_seven e = source_irq e % bus_slots

-- Whether an entry is of type 3 and INT, of that bus, and bits 0 to 6 of its source IRQ are those.
unfoldable pub low_asked : ℕ → ℕ → Entry → Bool
low_asked bus irq e =
    of_type io_interrupt_type e && (eqb (interrupt_type e) vectored && eqb (source_bus e) bus && eqb (low_seven e) irq)

-- Whether it is a type 3 entry of a bus and bit 7 of its source IRQ is set.
unfoldable pub seven_set : ℕ → Entry → Bool
seven_set bus e = of_type io_interrupt_type e && eqb (source_bus e) bus && bit 7 (source_irq e)

-- An entry with bit 7 of its source IRQ (byte 5) taken out, where it is of type 3.
unfoldable pub cleared : Entry → Entry
cleared e = cond (of_type io_interrupt_type e) (set e 5 (low_seven e)) e

-- ---- The listing: "each once, three bytes, in that order rising"

-- The slot at a place of some bytes.
abbrev pub slot_at : List ℕ → ℕ → Slot
slot_at s i = slot (byte s (i * slot_size)) (byte s (i * slot_size + 1)) (byte s (i * slot_size + 2))

-- A slot is one of the first n of some bytes.
pub record SlotStands (n : ℕ) (s : List ℕ) (x : Slot) : Type 0 where
  pub place : ℕ
  pub there : place < n
  pub is : slot_at s place ≡ x

-- By bus, then by device, then by pin.
unfoldable pub earlier : Slot → Slot → Bool
earlier a b =
    ltb a.bus b.bus
    || eqb a.bus b.bus && (ltb a.device b.device || eqb a.device b.device && ltb a.pin b.pin)
