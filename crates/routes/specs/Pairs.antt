-- The pairs of a route query from the IDs of a side's enabled APICs alone, as the code makes them. In an accepted table no
-- two of these are the same, so an entry names all of them, one, or none: proofs/Laws.antt.
use Rattle.std.specs.Prelude.{ℕ, ◌/◌, ◌%◌, Bool, true, false, ◌&&◌, cond, List, [], ◌∷◌, length, eqb, Result}
use Rattle.mps.specs.Words.{keep, each, joined, among, only}
use Rattle.mps.specs.Sums.{total}
use Rattle.mps.specs.Layout.{Entry, of_type, interrupt_type, source_bus, source_irq, bus_slots, destination, everyone, base_entries}
use Rattle.mps.specs.Rules.{Side, io_side, local_side, enabled_of}
use Rattle.mps.specs.Rooms.{fitted}
use Rattle.mps.specs.Routes.{pair, pair_size, pairs_to}
use Rattle.mps.specs.declared.refusals.Refusal.{Refusal}
use Rattle.routes.specs.declared.Side.{Side as Asked}
use Rattle.routes.specs.declared.Side.TheVariants.{Io, Local}
use Rattle.routes.specs.declared.Irq.{Irq}
use Rattle.routes.specs.declared.Irq.TheVariants.{Whole, Slot}
use Rattle.routes.specs.declared.Wire.{Wire}

-- The side that a query is about.
abbrev pub side_of : Asked → Side
side_of Io = io_side
side_of Local = local_side

-- Whether an interrupt entry has this interrupt type, source bus and source IRQ; where `low`, the IRQ without its bit 7. With
-- the whole IRQ it is `asked`.
unfoldable pub wired : ℕ → ℕ → ℕ → Bool → Entry → Bool
wired itype bus irq low e =
    eqb (interrupt_type e) itype && eqb (source_bus e) bus && eqb (cond low (source_irq e % bus_slots) (source_irq e)) irq

-- .. as the code asks it.
abbrev pub asked_irq : Irq → ℕ
asked_irq (Whole irq) = irq
asked_irq (Slot irq) = irq

abbrev pub asked_low : Irq → Bool
asked_low (Whole irq) = false
asked_low (Slot irq) = true

abbrev pub asked_by : Wire → Entry → Bool
asked_by w = wired w.itype w.bus (asked_irq w.irq) (asked_low w.irq)

-- The pairs of those interrupt entries of a table's side that pass a test.
unfoldable pub pairs_of : Side → (Entry → Bool) → List ℕ → List ℕ
pairs_of side p t =
    joined (pairs_to (enabled_of side.targets (base_entries t)))
    (keep (λ (e : Entry). of_type side.interrupts e && p e) (base_entries t))

-- ---- The same as the code makes them

-- Those of them that a destination names.
unfoldable pub named : List ℕ → ℕ → List ℕ
named ids to = cond (eqb to everyone) ids (only (among to ids) (to ∷ []))

-- The pairs of one interrupt entry.
unfoldable pub pairs_for : List ℕ → Entry → List ℕ
pairs_for ids e = joined (pair e) (named ids (destination e))

-- The pairs of those interrupt entries that pass a test, and how many they are.
unfoldable pub pairs_in : List ℕ → (Entry → Bool) → List Entry → List ℕ
pairs_in ids p es = joined (pairs_for ids) (keep p es)

unfoldable pub count_in : List ℕ → (Entry → Bool) → List Entry → ℕ
count_in ids p es = total (each (λ (e : Entry). length (named ids (destination e))) (keep p es))

-- An answer of pairs in a lent room.
abbrev pub paired : List ℕ → List ℕ → Result ℕ Refusal
paired pairs room = fitted pairs (length pairs / pair_size) room
