-- What the entries of a table must say: refusals 14 to 18. Document 01, the table of refusals; MPS 4.3 and 4.4.
-- es are the base entries of a table and xs its extended entries: each rule is tested over the whole table. 14 takes the
-- table itself, for the local APIC address of its header.
use Rattle.std.specs.Prelude.{ℕ, zero, suc, ◌+◌, ◌%◌, Bool, false, not, ◌||◌, List, [], ◌∷◌, length, ltb, eqb}
use Rattle.mps.specs.Words.{among, twice, keep, any, every, each}
use Rattle.mps.specs.Buses.{is_bus_name}
use Rattle.mps.specs.Layout.{Entry, of_type, processor_type, bus_type, io_apic_type, io_interrupt_type, local_interrupt_type}
use Rattle.mps.specs.Layout.{local_apic_step, io_apic_step, space_end, id_of, enabled, bootstrap, name_of, address_of, local_apic, base_entries, everyone}
use Rattle.mps.specs.Layout.{interrupt_type_most, reserved_mode, local_input_most, space_kind_most, range_list_most, interrupt_type, polarity, trigger, source_bus, destination, input}
use Rattle.mps.specs.Layout.{mapping_type, hierarchy_type, modifier_type, extended_bus, space_kind, space_base, space_length, parent_bus, range_list}

-- The entries of one type that are enabled: processors, or I/O APICs.
unfoldable pub enabled_of : ℕ → List Entry → List Entry
enabled_of n es = keep enabled (keep (of_type n) es)

-- The IDs of the entries of one type, enabled or not.
unfoldable pub ids_of : ℕ → List Entry → List ℕ
ids_of n es = each id_of (keep (of_type n) es)

-- The IDs of the enabled entries of one type.
unfoldable pub enabled_ids : ℕ → List Entry → List ℕ
enabled_ids n es = each id_of (enabled_of n es)

-- ---- 14

-- The bootstrap entries, enabled or not.
unfoldable pub bootstraps : List Entry → List Entry
bootstraps es = keep bootstrap (keep (of_type processor_type) es)

-- "local APIC address not a multiple of 4,096; not exactly one bootstrap entry, or that one disabled; an enabled
-- processor with ID 255 or another enabled one's ID"
unfoldable pub wrong_processors : List ℕ → Bool
wrong_processors t =
    not (eqb (local_apic t % local_apic_step) 0)
    || not (eqb (length (bootstraps (base_entries t))) 1)
    || not (every enabled (bootstraps (base_entries t)))
    || among everyone (enabled_ids processor_type (base_entries t))
    || twice (enabled_ids processor_type (base_entries t))

-- ---- 15

-- A bus whose name is none of Table 4-8's.
unfoldable pub unknown_name : Entry → Bool
unknown_name e = not (is_bus_name (name_of e))

-- "bus ID twice, or name unknown"
unfoldable pub wrong_buses : List Entry → Bool
wrong_buses es = twice (ids_of bus_type es) || any unknown_name (keep (of_type bus_type) es)

-- ---- 16

-- "address 0 or not a multiple of 1,024"
unfoldable pub misplaced : Entry → Bool
misplaced e = eqb (address_of e) 0 || not (eqb (address_of e % io_apic_step) 0)

-- "enabled I/O APIC: ID 255, ID of another enabled I/O APIC or enabled processor, address 0 or not a multiple of 1,024", without
-- the processor: document 02, ask 2, "an ID shared with an enabled processor is no longer a fault; two enabled I/O APICs with one
-- ID still are".
unfoldable pub wrong_io_apics : List Entry → Bool
wrong_io_apics es =
    among everyone (enabled_ids io_apic_type es)
    || twice (enabled_ids io_apic_type es)
    || any misplaced (enabled_of io_apic_type es)

-- ---- 17

-- The two sides of the interrupts: the type of their entries, and the type of those that a destination names.
pub record Side : Type 0 where
  pub interrupts : ℕ
  pub targets : ℕ

abbrev pub io_side : Side
io_side = record { interrupts = io_interrupt_type; targets = io_apic_type }

abbrev pub local_side : Side
local_side = record { interrupts = local_interrupt_type; targets = processor_type }

-- Whether a bus is listed: some bus entry has its ID.
unfoldable pub is_listed : List Entry → ℕ → Bool
is_listed es bus = among bus (ids_of bus_type es)

-- "interrupt type over 3; reserved polarity or trigger; bus not listed; destination neither 255 nor the ID of a listed
-- I/O APIC (type 3) or processor (type 4), enabled or not"
unfoldable pub wrong_interrupt : List Entry → ℕ → Entry → Bool
wrong_interrupt es targets e =
    ltb interrupt_type_most (interrupt_type e)
    || eqb (polarity e) reserved_mode
    || eqb (trigger e) reserved_mode
    || not (is_listed es (source_bus e))
    || not (eqb (destination e) everyone || among (destination e) (ids_of targets es))

-- "local input over 1"
unfoldable pub wrong_input : Entry → Bool
wrong_input e = ltb local_input_most (input e)

-- Whether some interrupt entry of a side is wrong so.
unfoldable pub wrong_on_side : Side → List Entry → Bool
wrong_on_side side es = any (wrong_interrupt es side.targets) (keep (of_type side.interrupts) es)

-- 17: the above on either side, or "local input over 1".
unfoldable pub wrong_interrupts : List Entry → Bool
wrong_interrupts es = wrong_on_side io_side es || wrong_on_side local_side es || any wrong_input (keep (of_type local_interrupt_type) es)

-- ---- 18

-- A 128 entry: "extended bus .. not listed; kind over 2; range past 2^64".
unfoldable pub wrong_mapping : List Entry → Entry → Bool
wrong_mapping es e =
    not (is_listed es (extended_bus e)) || ltb space_kind_most (space_kind e) || ltb space_end (space_base e + space_length e)

-- A 129 entry: "extended bus or parent not listed".
unfoldable pub wrong_hierarchy : List Entry → Entry → Bool
wrong_hierarchy es e = not (is_listed es (extended_bus e)) || not (is_listed es (parent_bus e))

-- A 130 entry: "extended bus .. not listed; .. list over 1".
unfoldable pub wrong_modifier : List Entry → Entry → Bool
wrong_modifier es e = not (is_listed es (extended_bus e)) || ltb range_list_most (range_list e)

-- The links: every type 129 entry is one, with or without the subtractive bit.
unfoldable pub links : List Entry → List Entry
links xs = keep (of_type hierarchy_type) xs

-- Whether an extended entry is of a bus.
abbrev pub on_bus : ℕ → Entry → Bool
on_bus bus e = eqb (extended_bus e) bus

-- The parents that links give a bus: none without a type 129 entry, and a second one is refused.
unfoldable pub parents_of : List Entry → ℕ → List ℕ
parents_of ls bus = each parent_bus (keep (on_bus bus) ls)

-- Whether the climb from a bus to its parent, to that one's parent and so on comes to `goal` within so many links.
unfoldable pub climbs_to : ℕ → List Entry → ℕ → ℕ → Bool
climbs_to zero ls goal bus = false
climbs_to (suc n) ls goal bus =
    elim (parents_of ls bus) [ [] ↦ false | parent ∷ others ↦ eqb parent goal || climbs_to n ls goal parent ]

-- Whether a bus comes back to itself. As many links as there are will do: a longer climb that comes back has come back
-- before (crate laws, circle-enough).
unfoldable pub on_circle : List Entry → ℕ → Bool
on_circle ls bus = climbs_to (length ls) ls bus bus

-- "parents in a circle (self too)"
unfoldable pub circle : List Entry → Bool
circle ls = any (on_circle ls) (each extended_bus ls)

-- "extended bus or parent not listed; kind over 2; range past 2^64; second type 129 entry for a bus; parents in a circle
-- (self too); list over 1"
unfoldable pub wrong_spaces : List Entry → List Entry → Bool
wrong_spaces es xs =
    any (wrong_mapping es) (keep (of_type mapping_type) xs)
    || any (wrong_hierarchy es) (links xs)
    || any (wrong_modifier es) (keep (of_type modifier_type) xs)
    || twice (each extended_bus (links xs))
    || circle (links xs)
