-- What a listing tells. Demand 2: "The listing, the routes and the addresses seen by a bus are those the table declares".
-- A line is made of fields, each with the value that it shows; here are the fields of every line, and how lines, words and
-- digits are read again. Document 01, "The bench board" from "Its listing" on.
use Rattle.std.specs.Prelude.{ℕ, suc, ◌+◌, ◌-◌, ◌*◌, ◌^◌, ◌≡◌, Bool, true, cond, not, ◌&&◌, List, [], ◌∷◌, ◌++◌, length, get_or, replicate, ltb, eqb, Result, Ok, Err}
use Rattle.mps.specs.Words.{text, flag, same, part, every, none, each}
use Rattle.mps.specs.Buses.{is_bus_name}
use Rattle.mps.specs.Layout.{Entry, type, of_type, processor_type, bus_type, io_apic_type, io_interrupt_type, mapping_type, hierarchy_type, modifier_type}
use Rattle.mps.specs.Layout.{base_length, extended_length, entry_count, base_entries, extended_entries, extended_entry_length}
use Rattle.mps.specs.Layout.{id_of, version, enabled, bootstrap, name_of, address_of}
use Rattle.mps.specs.Layout.{interrupt_type, source_bus, source_irq, polarity, trigger, destination, input}
use Rattle.mps.specs.Layout.{extended_bus, space_kind, space_base, space_length, parent_bus, subtractive_bit, takes_bit, range_list}
use Rattle.mps.specs.Listing.{decimal, hex, line, unpadded}
use Rattle.mps.specs.declared.Held.{Held}
use Rattle.mps.specs.declared.Held.TheVariants.{Default, Table}
use Rattle.mps.specs.declared.refusals.Refusal.{Refusal}
use Rattle.mps.specs.Reasons.{number_of_refusal}

-- ---- Reading again

-- "Numbers are decimal, addresses eight upper-case hex digits": the number that digits stand for, the highest first; f is
-- what one digit stands for.
unfoldable pub value : ℕ → (ℕ → ℕ) → List ℕ → ℕ
value base f [] = 0
value base f (c ∷ cs) = f c * base ^ length cs + value base f cs

-- "decimal": byte 48 is the digit 0.
unfoldable pub decimal_value : ℕ → ℕ
decimal_value c = c - 48

-- "upper-case hex digits": byte 65 is the digit A, which is ten.
unfoldable pub hex_value : ℕ → ℕ
hex_value c = cond (ltb c 65) (c - 48) (c - 55)

-- "six-byte name 2, padded with spaces"
unfoldable pub padded : List ℕ → List ℕ
padded name = name ++ replicate (6 - length name) 32

-- "type (`INT`, `NMI`, `SMI`, `EXTINT`)": which of some words one is, counted from 0.
unfoldable pub place_of : List ℕ → List (List ℕ) → ℕ
place_of w [] = 0
place_of w (v ∷ vs) = cond (same w v) 0 (suc (place_of w vs))

-- A byte before the first of some pieces.
unfoldable pub on_first : ℕ → List (List ℕ) → List (List ℕ)
on_first x [] = (x ∷ []) ∷ []
on_first x (p ∷ ps) = (x ∷ p) ∷ ps

-- "each line ended by byte 10": the pieces that byte c ends, without it; the last may have no end.
unfoldable pub pieces : ℕ → List ℕ → List (List ℕ)
pieces c [] = []
pieces c (x ∷ xs) = cond (eqb x c) ([] ∷ pieces c xs) (on_first x (pieces c xs))

-- The lines of some bytes, and the words of each.
unfoldable pub read_lines : List ℕ → List (List (List ℕ))
read_lines s = each (pieces 32) (pieces 10 s)

-- ---- Fields

-- What one word of a line tells: only itself; which of some words; a number in decimal; a number in k hex digits; a name.
pub data Field : Type 0 where
  word : List ℕ → Field
  choice : List (List ℕ) → ℕ → Field
  number : ℕ → Field
  address : ℕ → ℕ → Field
  name : List ℕ → Field

-- "Bus names lose their padding. Numbers are decimal, addresses eight upper-case hex digits."
unfoldable pub shown : Field → List ℕ
shown (word w) = w
shown (choice ws k) = get_or ws k []
shown (number n) = decimal n
shown (address k n) = hex k n
shown (name n) = unpadded n

-- That the value of a field is read again from what is shown.
abbrev pub Again : Field → Type 0
Again (word w) = shown (word w) ≡ w
Again (choice ws k) = place_of (shown (choice ws k)) ws ≡ k
Again (number n) = value 10 decimal_value (shown (number n)) ≡ n
Again (address k n) = value 16 hex_value (shown (address k n)) ≡ n
Again (name n) = padded (shown (name n)) ≡ n

-- Whether a field's value can be read again: a decimal below 65,536, an address that has no more digits, a name of MPS Table 4-8.
unfoldable pub fits : Field → Bool
fits (word w) = true
fits (choice ws k) = eqb (place_of (get_or ws k []) ws) k
fits (number n) = ltb n 65536
fits (address k n) = ltb n (16 ^ k)
fits (name n) = is_bus_name n

-- Whether a word can be told from those beside it: it has a byte, and none that ends a word or a line.
unfoldable pub visible : List ℕ → Bool
visible w = not (none w) && every (λ c. ltb 32 c) w

unfoldable pub readable : Field → Bool
readable f = visible (shown f) && fits f

-- Lines of fields: that every one is readable, and the words that show them.
abbrev pub AllReadable : List (List Field) → Type 0
AllReadable ls = every (every readable) ls ≡ true

abbrev pub shown_lines : List (List Field) → List (List (List ℕ))
shown_lines ls = each (each shown) ls

-- "each line ended by byte 10": the line that shows some fields.
unfoldable pub line_of : List Field → List ℕ
line_of [] = 10 ∷ []
line_of (f ∷ fs) = line (shown f) (each shown fs)

-- ---- The fields of each line

-- "`off`" and "`on`", "`ap`" and "`boot`"
unfoldable pub states : List (List ℕ)
unfolding text
states = text "off" ∷ text "on" ∷ []

unfoldable pub ranks : List (List ℕ)
unfolding text
ranks = text "ap" ∷ text "boot" ∷ []

-- "type 1 (INT 0, NMI 1, SMI 2, ExtINT 3)"
unfoldable pub kinds : List (List ℕ)
unfolding text
kinds = text "INT" ∷ text "NMI" ∷ text "SMI" ∷ text "EXTINT" ∷ []

-- "Interrupt fields: type .., bus, IRQ, polarity, trigger, destination, input."
unfoldable pub interrupt_fields : List ℕ → Entry → List Field
interrupt_fields w e =
    word w
    ∷ choice kinds (interrupt_type e)
    ∷ number (source_bus e)
    ∷ number (source_irq e)
    ∷ number (polarity e)
    ∷ number (trigger e)
    ∷ number (destination e)
    ∷ number (input e)
    ∷ []

-- `cpu 0 16 on boot`, `bus 0 ISA`, `ioapic 2 17 on FEC00000`, `int INT 0 1 0 0 2 1`, `lint EXTINT 0 0 0 0 255 0`
unfoldable pub base_fields : Entry → List Field
unfolding text
base_fields e =
    cond (of_type processor_type e)
    (word (text "cpu")
    ∷ number (id_of e)
    ∷ number (version e)
    ∷ choice states (flag (enabled e))
    ∷ choice ranks (flag (bootstrap e))
    ∷ [])
    (cond (of_type bus_type e) (word (text "bus") ∷ number (id_of e) ∷ name (name_of e) ∷ [])
    (cond (of_type io_apic_type e)
    (word (text "ioapic")
    ∷ number (id_of e)
    ∷ number (version e)
    ∷ choice states (flag (enabled e))
    ∷ address 8 (address_of e)
    ∷ [])
    (cond (of_type io_interrupt_type e) (interrupt_fields (text "int") e) (interrupt_fields (text "lint") e))))

-- "`map bus kind base length` (16 hex digits each), `tree bus parent bit`, `mod bus bit list`, `skip type length`"
unfoldable pub extended_fields : Entry → List Field
unfolding text
extended_fields e =
    cond (of_type mapping_type e)
    (word (text "map")
    ∷ number (extended_bus e)
    ∷ number (space_kind e)
    ∷ address 16 (space_base e)
    ∷ address 16 (space_length e)
    ∷ [])
    (cond (of_type hierarchy_type e)
    (word (text "tree") ∷ number (extended_bus e) ∷ number (parent_bus e) ∷ number (flag (subtractive_bit e)) ∷ [])
    (cond (of_type modifier_type e)
    (word (text "mod") ∷ number (extended_bus e) ∷ number (flag (takes_bit e)) ∷ number (range_list e) ∷ [])
    (word (text "skip") ∷ number (type e) ∷ number (extended_entry_length e) ∷ [])))

-- "The table line has address, base length, extended length and count; entries follow in table order."
unfoldable pub table_fields : ℕ → ℕ → ℕ → List ℕ → List (List Field)
unfolding text
table_fields pointer imcr at t =
    (word (text "pointer") ∷ address 8 pointer ∷ word (text "imcr") ∷ number imcr ∷ [])
    ∷ (word (text "table")
    ∷ address 8 at
    ∷ number (base_length t)
    ∷ number (extended_length t)
    ∷ number (entry_count t)
    ∷ [])
    ∷ (each base_fields (base_entries t) ++ (each extended_fields (extended_entries t) ++ ((word (text "end") ∷ []) ∷ [])))

-- The lines of what the dump reader answers of a dump: "A refusal or default is the only line."
unfoldable pub lines_told : List ℕ → Result Held Refusal → List (List Field)
unfolding text
lines_told d (Ok (Default n imcr)) = (word (text "default") ∷ number n ∷ word (text "imcr") ∷ number imcr ∷ []) ∷ []
lines_told d (Ok (Table pointer imcr at start end)) = table_fields pointer imcr at (part start end d)
lines_told d (Err r) = (word (text "refused") ∷ number (number_of_refusal r) ∷ []) ∷ []
