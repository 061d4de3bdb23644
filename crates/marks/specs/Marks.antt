-- What each bus says of an address, as the code gathers it: one number for each bus, and its parent beside; and what the buses
-- below it say. That the number is what mps's `says` says is proved in proofs/Marks.antt, and that what is said below is what
-- the others with that parent say in proofs/Below.antt.
use Rattle.std.specs.Prelude.{ℕ, zero, suc, ◌+◌, max, cond, ◌&&◌, List, [], ◌∷◌, set, replicate, eqb, leb, ltb}
use Rattle.mps.specs.Words.{byte}
use Rattle.mps.specs.Ranges.{ranges_at, in_list}
use Rattle.mps.specs.Layout.{Entry, modified_below, extended_bus, space_kind, space_base, space_length, subtractive_bit, parent_bus, takes_bit, range_list}
use Rattle.mps.specs.Addresses.{Say}

-- What an entry says of its own bus, as a number: "first that applies" is the highest. A mapping that covers the address sees
-- it,
unfoldable pub mapping_rank : ℕ → ℕ → Entry → ℕ
mapping_rank kind address e =
    cond (eqb (space_kind e) kind && leb (space_base e) address && ltb address (space_base e + space_length e)) 3 1

-- a link with the subtractive bit asks the parent,
unfoldable pub link_rank : Entry → ℕ
link_rank e = cond (subtractive_bit e) 2 0

-- and a modifier that touches the address takes it away or adds it.
unfoldable pub modifier_rank : ℕ → ℕ → Entry → ℕ
modifier_rank kind address e = cond (eqb kind 0 && in_list (range_list e) address) (cond (takes_bit e) 4 3) 1

-- What such a number means.
abbrev pub meaning : ℕ → Say
meaning zero = Say.undeclared
meaning (suc zero) = Say.no
meaning (suc (suc zero)) = Say.parent
meaning (suc (suc (suc zero))) = Say.yes
meaning (suc (suc (suc (suc n)))) = Say.no

-- A list that has a number for each bus, with what entries say put in: at their own bus, or at its parent.
unfoldable pub marked : (Entry → ℕ) → (Entry → ℕ) → List ℕ → List Entry → List ℕ
marked place rank marks [] = marks
marked place rank marks (e ∷ es) = marked place rank (set marks (place e) (max (byte marks (place e)) (rank e))) es

-- What the entries of the three types say, mappings, links and modifiers.
abbrev pub all_marked : ℕ → ℕ → List ℕ → List Entry → List Entry → List Entry → List ℕ
all_marked kind address marks maps links mods =
    marked extended_bus (modifier_rank kind address)
    (marked extended_bus link_rank (marked extended_bus (mapping_rank kind address) marks maps) links) mods

-- A list that has a parent for each bus, with the links put in.
unfoldable pub parented : List ℕ → List Entry → List ℕ
parented parents [] = parents
parented parents (e ∷ ls) = parented (set parents (extended_bus e) (parent_bus e)) ls

-- What a bus says to the others with its parent, by its mark: 2 that it claims the address, 1 that it is silent, 0
-- neither.
abbrev pub said_beside : ℕ → ℕ
said_beside zero = 1
said_beside (suc zero) = 0
said_beside (suc (suc zero)) = 0
said_beside (suc (suc (suc zero))) = 2
said_beside (suc (suc (suc (suc n)))) = 0

-- A list that has for each bus the highest of what those with it as parent say, by their marks, with the links put in.
abbrev pub said_below : List ℕ → List ℕ → List Entry → List ℕ
said_below marks = marked parent_bus (λ e. said_beside (byte marks (extended_bus e)))

-- Nothing for any of the 256 buses.
abbrev pub nothing : List ℕ
nothing = replicate 256 0

-- The lists of MPS Table 4-17 that an address of a kind lies in, bit 0 for ISA and bit 1 for VGA: "Modifiers touch I/O
-- addresses below 65,536 only".
unfoldable pub lists_at : ℕ → ℕ → ℕ
lists_at kind address = cond (eqb kind 0 && ltb address modified_below) (ranges_at address) 0
