-- Document 02, ask 2: which numbers the I/O APICs get, worked out by hand. First of processors and I/O APICs that have just IDs
-- and are enabled or not; then the call on tables, where all that it leaves in the room stands behind its answer.
use Rattle.std.specs.Prelude.{ℕ, List, [], ◌∷◌, ◌++◌, set, replicate}
use Rattle.mps.specs.Words.{flag, each, joined, below}
use Rattle.mps.specs.Layout.{Entry}
use Rattle.mps.specs.Judge.{judged}
use Rattle.mps.specs.Rules.{io_side}
use Rattle.mps.specs.Routes.{question, routed, routes_left}
use Rattle.mps.specs.Renumber.{new_numbers, none_free, used_numbers, bits_set, renumbered, renumber_left}
use Rattle.mps.specs.Writing.{fields_of, image}
use Rattle.mps.specs.Answers.{judged_numbers, lent_numbers, renumbered_numbers}
use Rattle.board.specs.Board.{processor, bus, io_apic, interrupt, table}
use Rattle.board.specs.Cases.{Row, gives}

-- ---- Entries by their IDs

-- The bench board's processor or I/O APIC with another ID, enabled as it is, or disabled.
abbrev on : ℕ → Entry → Entry
on id e = set e 1 id

abbrev off : ℕ → Entry → Entry
off id e = set (set e 1 id) 3 0

-- Such an entry for each of these.
abbrev of : Entry → List (Entry → Entry) → List Entry
of e ids = each (λ (put : Entry → Entry). put e) ids

abbrev entries : List (Entry → Entry) → List (Entry → Entry) → List Entry
entries processors io_apics = of processor processors ++ of io_apic io_apics

-- How many bits are set at the end, and the numbers.
abbrev numbers : List (Entry → Entry) → List (Entry → Entry) → List ℕ
numbers processors io_apics =
    bits_set (used_numbers (entries processors io_apics)) ∷ new_numbers (entries processors io_apics)

-- 1 where one that needs a number finds none free, else 0.
abbrev nothing_free : List (Entry → Entry) → List (Entry → Entry) → List ℕ
nothing_free processors io_apics = flag (none_free (entries processors io_apics)) ∷ []

-- So many, that have the IDs from 0 on.
abbrev first : ℕ → List (Entry → Entry)
first count = each on (below count)

-- ---- Tables

-- The bench board with other processors and I/O APICs, its bus, and other interrupts.
abbrev made : List (Entry → Entry) → List (Entry → Entry) → List Entry → List ℕ
made processors io_apics interrupts =
    image
    (record {
      fields = fields_of table;
      base = joined (λ (e : Entry). e) (of processor processors ++ (bus ∷ of io_apic io_apics ++ interrupts));
      extended = [];
    })

-- So many bytes that hold EEh.
abbrev room : ℕ → List ℕ
room size = replicate size 0xee

-- What the call answers, and leaves in a room of so many bytes.
abbrev call : List ℕ → ℕ → List ℕ
call t size = renumbered_numbers (renumbered t (room size)) ++ renumber_left t (room size)

-- Processor 0; I/O APICs 0 and 1, and IRQ 1 goes to the first of them.
abbrev shared : List ℕ
shared = made (on 0 ∷ []) (on 0 ∷ on 1 ∷ []) (set interrupt 6 0 ∷ [])

unfoldable pub renumber_cases : List Row
renumber_cases =
    -- Nobody shares; no I/O APIC; a disabled one alone.
    gives (numbers (on 0 ∷ []) (on 2 ∷ [])) (2 ∷ 2 ∷ [])
    ∷ gives (numbers (on 0 ∷ on 1 ∷ []) []) (2 ∷ [])
    ∷ gives (numbers (on 0 ∷ []) (off 0 ∷ [])) (1 ∷ [])
    -- "the lowest free number": behind the processor, before it, and between processors.
    ∷ gives (numbers (on 0 ∷ []) (on 0 ∷ [])) (2 ∷ 1 ∷ [])
    ∷ gives (numbers (on 5 ∷ []) (on 5 ∷ [])) (2 ∷ 0 ∷ [])
    ∷ gives (numbers (on 3 ∷ on 0 ∷ on 1 ∷ []) (on 3 ∷ [])) (4 ∷ 2 ∷ [])
    -- "In table order", and "none numbered before".
    ∷ gives (numbers (on 0 ∷ on 1 ∷ []) (on 1 ∷ on 0 ∷ [])) (4 ∷ 2 ∷ 3 ∷ [])
    -- "no I/O APIC that keeps its number": one behind, two behind, and one on either side.
    ∷ gives (numbers (on 0 ∷ []) (on 0 ∷ on 1 ∷ [])) (3 ∷ 2 ∷ 1 ∷ [])
    ∷ gives (numbers (on 0 ∷ []) (on 0 ∷ on 2 ∷ on 1 ∷ [])) (4 ∷ 3 ∷ 2 ∷ 1 ∷ [])
    ∷ gives (numbers (on 0 ∷ []) (on 1 ∷ on 0 ∷ on 3 ∷ [])) (4 ∷ 1 ∷ 2 ∷ 3 ∷ [])
    -- "disabled ones take no part": I/O APICs, whose IDs are free, and processors, whose IDs are shared or free.
    ∷ gives (numbers (on 0 ∷ []) (off 1 ∷ on 0 ∷ off 0 ∷ off 2 ∷ on 3 ∷ [])) (3 ∷ 1 ∷ 3 ∷ [])
    ∷ gives (numbers (on 0 ∷ off 7 ∷ off 1 ∷ []) (on 7 ∷ on 0 ∷ [])) (3 ∷ 7 ∷ 1 ∷ [])
    -- On both sides of where two words of 64 bits meet.
    ∷ gives (new_numbers (entries (first 63) (on 9 ∷ [])) ++ new_numbers (entries (first 64) (on 9 ∷ []))) (63 ∷ 64 ∷ [])
    -- The last number, 254, is given where 0 to 253 are held; 255 never is. Of 0 to 254, all used, 255 bits are set.
    ∷ gives (bits_set (below 255) ∷ new_numbers (entries (first 254) (on 0 ∷ []))) (255 ∷ 254 ∷ [])
    ∷ gives (nothing_free (first 254) (on 0 ∷ []) ++ nothing_free (first 255) (on 0 ∷ [])) (0 ∷ 1 ∷ [])
    -- The first still finds one, and the second finds none. Where nobody needs one, none is missed.
    ∷ gives (nothing_free (first 254) (on 0 ∷ on 1 ∷ []) ++ nothing_free (first 255) []) (1 ∷ 0 ∷ [])
    -- "an ID shared with an enabled processor is no longer a fault; two enabled I/O APICs with one ID still are"; so is 255.
    ∷ gives (judged_numbers (judged shared)) (0 ∷ [])
    ∷ gives (call (made (on 0 ∷ []) (on 0 ∷ on 0 ∷ []) []) 2) (16 ∷ room 2)
    ∷ gives (call (made (on 0 ∷ []) (on 255 ∷ []) []) 2) (16 ∷ room 2)
    -- "a byte for each enabled one": of a longer room the rest stays; one as long will do, and one byte less is 19.
    ∷ gives (call shared 4) (0 ∷ 2 ∷ 3 ∷ 2 ∷ 1 ∷ 0xee ∷ 0xee ∷ [])
    ∷ gives (call shared 2) (0 ∷ 2 ∷ 3 ∷ 2 ∷ 1 ∷ [])
    ∷ gives (call shared 1) (19 ∷ room 1)
    ∷ gives (call (made (on 0 ∷ []) (off 0 ∷ []) []) 0) (0 ∷ 0 ∷ 1 ∷ [])
    -- "Routes keep naming the table's numbers."
    ∷ gives
    (lent_numbers (routed (question io_side 0 0 1) shared (room 2)) ++ routes_left (question io_side 0 0 1) shared (room 2))
    (0 ∷ 1 ∷ 0 ∷ 1 ∷ [])
    -- A table's own number is first.
    ∷ gives (call (set shared 7 0) 0) (8 ∷ [])
    ∷ []

-- I/O APICs 0 to 254: the first of them, which shares processor 0's ID, finds no number.
abbrev full : List ℕ
full = made (on 0 ∷ []) (first 255) []

-- "26 .. last", so 19 is before it. Either writes nothing.
unfoldable pub full_cases : List Row
full_cases = gives (call full 255) (26 ∷ room 255) ∷ gives (call full 254) (19 ∷ room 254) ∷ []
