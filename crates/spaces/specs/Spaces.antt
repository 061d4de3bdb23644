-- Extended entries that are wrong by themselves, by the roll: bit 3 is set at the ID of a listed bus. Document 01, refusal
-- 18, but for the links.
use Rattle.std.specs.Prelude.{ℕ, ◌+◌, Bool, not, ◌||◌, List, nat_lt}
use Rattle.mps.specs.Layout.{Entry, space_end, space_kind_most, range_list_most, extended_bus, space_kind, space_base, space_length, range_list}
use Rattle.roll.specs.Roll.{marked, bus_bit}

-- A 128 entry: its bus is not on the roll, its kind is over 2, or its range ends past 2^64.
unfoldable pub wrong_mapping_in : List ℕ → Entry → Bool
wrong_mapping_in roll e =
    not (marked bus_bit roll (extended_bus e)) || nat_lt space_kind_most (space_kind e) || nat_lt space_end (space_base e + space_length e)

-- A 130 entry: its bus is not on the roll, or its list is over 1.
unfoldable pub wrong_modifier_in : List ℕ → Entry → Bool
wrong_modifier_in roll e = not (marked bus_bit roll (extended_bus e)) || nat_lt range_list_most (range_list e)
