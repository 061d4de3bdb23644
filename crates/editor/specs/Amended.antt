-- An accepted table in which one entry has been exchanged for one of its type and length, judged again: of the rows 5 to 18 those
-- that read this type, and of 17 and 18 only what the exchange can have made wrong. proofs/ByType.antt has that these decide as all
-- of 5 to 18 do.
use Rattle.std.specs.Prelude.{◌≡◌, ℕ, ◌+◌, Bool, cond, not, ◌&&◌, ◌||◌, List, [], ◌∷◌, ◌==◌}
use Rattle.mps.specs.Words.{byte, any, keep}
use Rattle.mps.specs.Refusals.{Rule, ◌when◌}
use Rattle.mps.specs.Layout.{Entry, of_type, id_of, everyone, source_bus, destination, parent_bus, base_entries, extended_entries}
use Rattle.mps.specs.Layout.{processor_type, io_apic_type, io_interrupt_type, local_interrupt_type, mapping_type, modifier_type}
use Rattle.mps.specs.Rules.{Side, io_side, local_side, is_listed, links, on_bus, wrong_processors, wrong_buses, wrong_io_apics, wrong_interrupt, wrong_input}
use Rattle.mps.specs.Judge.{table_refusal}
use Rattle.mps.specs.Edits.{Edit, standing, offset_of, edited_table}
use Rattle.mps.specs.declared.Sections.{Sections}
use Rattle.accepted.proofs.Shaped.{Shaped}
use Rattle.roll.specs.Roll.{processor_bit, io_apic_bit, bus_bit, mark, with_marks}
use Rattle.judge.specs.Placed.{Placed}
use Rattle.judge.specs.Rolled.{named}

-- ---- What still names the ID that the entry had

-- Whether an entry has an ID in its byte k. The code has one search for all of these: an entry's own ID (1), an extended entry's bus
-- (2), an interrupt's bus or a link's parent (4), a destination (6). The last three by name:
abbrev pub has : ℕ → ℕ → Entry → Bool
has k id e = byte e k == id

abbrev pub comes_from_bus : ℕ → Entry → Bool
comes_from_bus bus e = source_bus e == bus

abbrev pub is_under : ℕ → Entry → Bool
is_under bus e = parent_bus e == bus

abbrev pub ends_at : ℕ → Entry → Bool
ends_at id e = destination e == id

-- An interrupt of a side that ends at an ID which it may not name any more: it is not 255, and no entry of the targets' type has it,
-- enabled or not.
unfoldable pub ends_at_lost : Side → List ℕ → ℕ → Bool
ends_at_lost side u id =
    not (named side.targets u id) && any (ends_at id) (keep (of_type side.interrupts) (base_entries u))

-- An interrupt of either side that comes from a bus, and an extended entry that speaks of it.
unfoldable pub comes_from : List ℕ → ℕ → Bool
comes_from u bus =
    any (comes_from_bus bus) (keep (of_type io_interrupt_type) (base_entries u))
    || any (comes_from_bus bus) (keep (of_type local_interrupt_type) (base_entries u))

unfoldable pub speaks_of : List ℕ → ℕ → Bool
speaks_of u bus =
    any (on_bus bus) (keep (of_type mapping_type) (extended_entries u))
    || any (on_bus bus) (links (extended_entries u))
    || any (is_under bus) (links (extended_entries u))
    || any (on_bus bus) (keep (of_type modifier_type) (extended_entries u))

-- ---- The rows, by the type of the entry; id is that of the entry that stood there before

unfoldable pub processor_rules : List ℕ → ℕ → List Rule
processor_rules u id = 14 when wrong_processors u ∷ 17 when ends_at_lost local_side u id ∷ []

unfoldable pub bus_rules : List ℕ → ℕ → List Rule
bus_rules u id =
    15 when wrong_buses (base_entries u)
    ∷ 17 when (not (is_listed (base_entries u) id) && comes_from u id)
    ∷ 18 when (not (is_listed (base_entries u) id) && speaks_of u id)
    ∷ []

unfoldable pub io_apic_rules : List ℕ → ℕ → List Rule
io_apic_rules u id = 16 when wrong_io_apics (base_entries u) ∷ 17 when ends_at_lost io_side u id ∷ []

-- An interrupt entry is judged by itself: e is the one that stands there now.
unfoldable pub io_interrupt_rules : List ℕ → Entry → List Rule
io_interrupt_rules u e = 17 when wrong_interrupt (base_entries u) io_apic_type e ∷ []

unfoldable pub local_interrupt_rules : List ℕ → Entry → List Rule
local_interrupt_rules u e = 17 when (wrong_interrupt (base_entries u) processor_type e || wrong_input e) ∷ []

-- ---- The roll that an interrupt entry is judged by

-- A roll with marks at an ID where some entry has it.
unfoldable pub enrolled_if : ℕ → List Entry → ℕ → List ℕ → List ℕ
enrolled_if marks es id roll = cond (any (has 1 id) es) (with_marks marks roll id) roll

-- With what an interrupt names: its bus among some, its destination among others, and 255, which names all.
unfoldable pub roll_for : ℕ → List Entry → List Entry → Entry → List ℕ → List ℕ
roll_for marks bs ts e roll =
    with_marks (mark processor_bit + mark io_apic_bit) (enrolled_if marks ts (destination e) (enrolled_if (mark bus_bit) bs (source_bus e) roll)) everyone

-- ---- What the code knows when it begins

-- u is an accepted table with one entry exchanged, at `at`; `id` is that of the entry that is gone, and p has the places of u.
pub record Amended (u : List ℕ) (p : Sections) (at id : ℕ) : Type 0 where
  pub was : List ℕ
  pub edit : Edit
  pub accepted : table_refusal was ≡ 0
  pub shaped : Shaped was edit
  pub is : u ≡ edited_table was edit
  pub here : at ≡ offset_of was edit.place
  pub gone : id ≡ id_of (standing was edit.place)
  pub placed : Placed u p
