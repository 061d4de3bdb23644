-- What the links of a table, its type 129 entries, may not say. Document 01, refusal 18: "extended bus or parent not listed;
-- second type 129 entry for a bus; parents in a circle (self too)". Behind it stand the steps of the crate's private
-- functions, over an array that has the parent of each bus that has one.
use Rattle.std.specs.Prelude.{ℕ, zero, suc, Bool, true, false, not, ◌||◌, List, [], ◌∷◌, Option, Some, None, get_or, set}
use Rattle.mps.specs.Words.{any, twice, each}
use Rattle.mps.specs.Layout.{Entry, extended_bus, parent_bus}
use Rattle.mps.specs.Rules.{circle}
use Rattle.roll.specs.Roll.{marked, bus_bit}

-- The bus or the parent of a link is not on the roll: bit 3 is set at the ID of a listed bus.
unfoldable pub wrong_hierarchy_in : List ℕ → Entry → Bool
wrong_hierarchy_in roll e = not (marked bus_bit roll (extended_bus e)) || not (marked bus_bit roll (parent_bus e))

-- Some bus has two links, or the parents go in a circle.
unfoldable pub wrong_parents : List Entry → Bool
wrong_parents ls = twice (each extended_bus ls) || circle ls

-- Some link is wrong by itself, or they are wrong together.
unfoldable pub wrong_links : List ℕ → List Entry → Bool
wrong_links roll ls = any (wrong_hierarchy_in roll) ls || wrong_parents ls

-- The array: the parent of each bus that has one.
abbrev pub Array : Type 0
Array = List (Option ℕ)

-- The array with one link stored.
abbrev pub store : Array → Entry → Array
store up e = set up (extended_bus e) (Some (parent_bus e))

-- The array with every link stored.
unfoldable pub filled : Array → List Entry → Array
filled up [] = up
filled up (e ∷ ls) = filled (store up e) ls

-- Whether, as links are stored one by one, the bus of some link has one already.
unfoldable pub clash : Array → List Entry → Bool
clash up [] = false
clash up (e ∷ ls) = elim (get_or up (extended_bus e) None) [ None ↦ clash (store up e) ls | Some p ↦ true ]

-- Whether some link is wrong by the roll, or clashes.
unfoldable pub stopped : List ℕ → Array → List Entry → Bool
stopped roll up ls = any (wrong_hierarchy_in roll) ls || clash up ls

-- Whether so many links can be climbed from a bus.
unfoldable pub goes_on : ℕ → Array → ℕ → Bool
goes_on zero up bus = true
goes_on (suc n) up bus = elim (get_or up bus None) [ None ↦ false | Some p ↦ goes_on n up p ]

-- The array without the links that are climbed from a bus, so many at most.
unfoldable pub cleared : ℕ → Array → ℕ → Array
cleared zero up bus = up
cleared (suc n) up bus = elim (get_or up bus None) [ None ↦ up | Some p ↦ cleared n (set up bus None) p ]

-- Whether so many links can be climbed from the bus of some entry, where each climb that ends is cleared before the next.
unfoldable pub endless_in : ℕ → Array → List Entry → Bool
endless_in n up [] = false
endless_in n up (e ∷ es) =
    elim (goes_on n up (extended_bus e)) [ true ↦ true | false ↦ endless_in n (cleared n up (extended_bus e)) es ]
