-- PCI slots: where the interrupt of one goes, and which ones a table names. Document 02, ask 1; MPS Appendix D.3.
use Rattle.std.specs.Prelude.{ℕ, ◌/◌, Bool, not, ◌||◌, ◌&&◌, List, [], ◌∷◌, ◌++◌, length, leb, eqb, Result}
use Rattle.mps.specs.Words.{text, same, among, any, keep, each, only, joined, below}
use Rattle.mps.specs.Refusals.{Rule, ◌when◌, query_number}
use Rattle.mps.specs.Layout.{Entry, of_type, bus_type, io_apic_type, io_interrupt_type, id_of, name_of, interrupt_type, vectored, source_bus, pins, devices, pin_of, device_of, base_entries}
use Rattle.mps.specs.Rules.{enabled_of, is_listed}
use Rattle.mps.specs.Judge.{table_rules}
use Rattle.mps.specs.Routes.{pair_size, pairs_to}
use Rattle.mps.specs.Answers.{answered}
use Rattle.mps.specs.Rooms.{too_small, lent_refusal, lent_left}
use Rattle.mps.specs.declared.refusals.Refusal.{Refusal}

-- "bus, device 0 to 31 and pin 0 to 3"
pub record Slot : Type 0 where
  pub bus : ℕ
  pub device : ℕ
  pub pin : ℕ

abbrev pub slot : ℕ → ℕ → ℕ → Slot
slot bus device pin = record { bus = bus; device = device; pin = pin }

-- Whether an entry names a slot: it is "a type 3 entry", and its source is that bus, device and pin. Bit 7 of the source IRQ
-- belongs to neither: "bit 7 ignored".
unfoldable pub names_slot : Slot → Entry → Bool
names_slot s e =
    of_type io_interrupt_type e && eqb (source_bus e) s.bus && eqb (device_of e) s.device && eqb (pin_of e) s.pin

-- Whether a bus entry is of a PCI bus: MPS Table 4-8, six bytes.
unfoldable pub is_pci : Entry → Bool
unfolding text
is_pci e = same (name_of e) (text "PCI   ")

-- The IDs of the PCI buses.
unfoldable pub pci_buses : List Entry → List ℕ
pci_buses es = each id_of (keep is_pci (keep (of_type bus_type) es))

-- Whether a bus is a PCI bus.
unfoldable pub on_pci : List Entry → ℕ → Bool
on_pci es bus = among bus (pci_buses es)

-- ---- The query: "by bus, device 0 to 31 and pin 0 to 3"

-- Whether an entry is asked about: ".. of interrupt type INT".
unfoldable pub wired_from : Slot → Entry → Bool
wired_from s e = eqb (interrupt_type e) vectored && names_slot s e

-- "gives the route pairs": of each such entry those that any route query gives of it.
unfoldable pub slot_routes : Slot → List Entry → List ℕ
slot_routes s es = joined (pairs_to (enabled_of io_apic_type es)) (keep (wired_from s) es)

unfoldable pub slot_routes_of : Slot → List ℕ → List ℕ
slot_routes_of s t = slot_routes s (base_entries t)

-- 25: "bus listed but not PCI, or device or pin out of range, after 24 and before 19". That the bus is listed 24 has tested.
unfoldable pub wrong_slot : Slot → List ℕ → Bool
wrong_slot s t = not (on_pci (base_entries t) s.bus) || leb devices s.device || leb pins s.pin

-- What is tested before the room.
unfoldable pub slot_rules : Slot → List ℕ → List Rule
slot_rules s t = table_rules t ++ (query_number when not (is_listed (base_entries t) s.bus) ∷ 25 when wrong_slot s t ∷ [])

unfoldable pub slot_refusal : Slot → List ℕ → List ℕ → ℕ
slot_refusal s t room = lent_refusal (slot_rules s t) (too_small (length (slot_routes_of s t)) room)

-- The count is that of the pairs, as of a route query's.
unfoldable pub slot_routed : Slot → List ℕ → List ℕ → Result ℕ Refusal
slot_routed s t room = answered (slot_refusal s t room) (length (slot_routes_of s t) / pair_size)

unfoldable pub slot_routes_left : Slot → List ℕ → List ℕ → List ℕ
slot_routes_left s t room = lent_left (slot_refusal s t room) (slot_routes_of s t) room

-- ---- The listing: "every bus, device and pin on a PCI bus that a type 3 entry names, whatever its interrupt type, each once,
-- three bytes, in that order rising"

abbrev pub slot_size : ℕ
slot_size = 3

-- The bytes of one slot, where some entry names it.
unfoldable pub slot_named : List Entry → ℕ → ℕ → ℕ → List ℕ
slot_named es bus device pin = only (any (names_slot (slot bus device pin)) es) (bus ∷ device ∷ pin ∷ [])

-- Of each PCI bus, rising, each device, rising, each pin, rising. A bus ID is a byte.
unfoldable pub slots : List Entry → List ℕ
slots es =
    joined
    (λ (bus : ℕ). joined (λ (device : ℕ). joined (slot_named es bus device) (below pins)) (below devices))
    (keep (on_pci es) (below 256))

unfoldable pub slots_of : List ℕ → List ℕ
slots_of t = slots (base_entries t)

-- The table and 19 are all that is tested.
unfoldable pub slots_refusal : List ℕ → List ℕ → ℕ
slots_refusal t room = lent_refusal (table_rules t) (too_small (length (slots_of t)) room)

-- The count is that of the slots.
unfoldable pub slots_listed : List ℕ → List ℕ → Result ℕ Refusal
slots_listed t room = answered (slots_refusal t room) (length (slots_of t) / slot_size)

unfoldable pub slots_left : List ℕ → List ℕ → List ℕ
slots_left t room = lent_left (slots_refusal t room) (slots_of t) room
