-- New numbers for I/O APICs. Document 02, ask 2; MPS 3.6.6: "It is the responsibility of the operating system to verify the
-- uniqueness of the I/O APIC ID and to assign a unique ID if a conflict is found."
use Rattle.std.specs.Prelude.{ℕ, Bool, true, false, not, ◌||◌, List, [], ◌∷◌, ◌++◌, length, Result}
use Rattle.mps.specs.Words.{among, none, head, keep, each, below}
use Rattle.mps.specs.Refusals.{Rule, ◌when◌, refusal}
use Rattle.mps.specs.Layout.{Entry, processor_type, io_apic_type, id_of, everyone, base_entries}
use Rattle.mps.specs.Rules.{enabled_of, enabled_ids}
use Rattle.mps.specs.Judge.{table_rules}
use Rattle.mps.specs.Answers.{answered}
use Rattle.mps.specs.Rooms.{too_small, room_rules, lent_left}
use Rattle.mps.specs.declared.refusals.Refusal.{Refusal}
use Rattle.mps.specs.declared.Renumbered.{Renumbered}

-- ---- Who needs a number, and what is free

-- Whether an I/O APIC "shares an enabled processor's ID".
unfoldable pub shares : List Entry → Entry → Bool
shares es apic = among (id_of apic) (enabled_ids processor_type es)

-- "the other enabled ones keep theirs": their IDs.
unfoldable pub kept_ids : List Entry → List ℕ
kept_ids es = each id_of (keep (λ (apic : Entry). not (shares es apic)) (enabled_of io_apic_type es))

-- The numbers "from 0 to 254" that are not used: 255 names all.
unfoldable pub free : List ℕ → List ℕ
free used = keep (λ (n : ℕ). not (among n used)) (below everyone)

-- "the lowest free number", 255 where none is free.
unfoldable pub lowest_free : List ℕ → ℕ
lowest_free used = head everyone (free used)

-- ---- The numbers: "in table order, each enabled I/O APIC that shares an enabled processor's ID gets the lowest free number"

-- Of enabled I/O APICs, some of which share, with the numbers that are used before the first of them.
unfoldable pub numbers_from : (Entry → Bool) → List ℕ → List Entry → List ℕ
numbers_from shared used [] = []
numbers_from shared used (apic ∷ apics) =
    elim (shared apic) [
      | true ↦ lowest_free used ∷ numbers_from shared (lowest_free used ∷ used) apics
      | false ↦ id_of apic ∷ numbers_from shared used apics
    ]

-- Whether "one that needs a number finds none free".
unfoldable pub finds_none : (Entry → Bool) → List ℕ → List Entry → Bool
finds_none shared used [] = false
finds_none shared used (apic ∷ apics) =
    elim (shared apic) [
      | true ↦ none (free used) || finds_none shared (lowest_free used ∷ used) apics
      | false ↦ finds_none shared used apics
    ]

-- "held by no enabled processor, no I/O APIC that keeps its number": those that are used before the first new one.
unfoldable pub held_ids : List Entry → List ℕ
held_ids es = enabled_ids processor_type es ++ kept_ids es

-- "The answer has a byte for each enabled one."
unfoldable pub new_numbers : List Entry → List ℕ
new_numbers es = numbers_from (shares es) (held_ids es) (enabled_of io_apic_type es)

unfoldable pub none_free : List Entry → Bool
none_free es = finds_none (shares es) (held_ids es) (enabled_of io_apic_type es)

-- ---- "Used numbers are a set of 256 bits, and the answer says how many bits are set at the end."

-- At the end: those of the enabled processors and, kept or new, of the enabled I/O APICs.
unfoldable pub used_numbers : List Entry → List ℕ
used_numbers es = enabled_ids processor_type es ++ new_numbers es

-- Bit n is set where n is one of them.
unfoldable pub bits_set : List ℕ → ℕ
bits_set used = length (keep (λ (n : ℕ). among n used) (below 256))

-- ---- The call: the table, 19, then "26, exactly when one that needs a number finds none free, last"

unfoldable pub new_numbers_of : List ℕ → List ℕ
new_numbers_of t = new_numbers (base_entries t)

unfoldable pub renumber_rules : List ℕ → List ℕ → List Rule
renumber_rules t room =
    room_rules (table_rules t) (too_small (length (new_numbers_of t)) room) ++ (26 when none_free (base_entries t) ∷ [])

unfoldable pub renumber_refusal : List ℕ → List ℕ → ℕ
renumber_refusal t room = refusal (renumber_rules t room)

unfoldable pub renumbered : List ℕ → List ℕ → Result Renumbered Refusal
renumbered t room =
    answered (renumber_refusal t room) (record { count = length (new_numbers_of t); used = bits_set (used_numbers (base_entries t)) })

unfoldable pub renumber_left : List ℕ → List ℕ → List ℕ
renumber_left t room = lent_left (renumber_refusal t room) (new_numbers_of t) room
