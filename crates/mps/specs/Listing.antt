-- The listing, to the byte. Document 01, "The bench board" from "Its listing" on.
use Rattle.std.specs.Prelude.{ℕ, zero, suc, ◌+◌, ◌/◌, ◌%◌, Bool, cond, not, List, [], ◌∷◌, ◌++◌, length, ltb, eqb, Result}
use Rattle.mps.specs.Words.{text, flag, keep, joined}
use Rattle.mps.specs.Layout.{Entry, type, of_type, processor_type, bus_type, io_apic_type, io_interrupt_type, mapping_type, hierarchy_type, modifier_type}
use Rattle.mps.specs.Layout.{feature1, base_length, extended_length, entry_count, base_entries, extended_entries, extended_entry_length}
use Rattle.mps.specs.Layout.{id_of, version, enabled, bootstrap, name_of, address_of}
use Rattle.mps.specs.Layout.{interrupt_type, source_bus, source_irq, polarity, trigger, destination, input}
use Rattle.mps.specs.Layout.{extended_bus, space_kind, space_base, space_length, parent_bus, subtractive_bit, takes_bit, range_list}
use Rattle.mps.specs.Pointer.{pointer, pointer_bytes, is_default, imcr_of, table_address, table_in}
use Rattle.mps.specs.Judge.{dump_rules, dump_refusal}
use Rattle.mps.specs.Answers.{answered}
use Rattle.mps.specs.Rooms.{too_small, lent_refusal, lent_left, fitted_bytes, fit_left}
use Rattle.mps.specs.declared.refusals.Refusal.{Refusal}

-- ---- Numbers

-- The last k digits of a number to a base, each shown by f, the highest first.
unfoldable pub digits : ℕ → (ℕ → ℕ) → ℕ → ℕ → List ℕ
digits base f zero n = []
digits base f (suc k) n = digits base f k (n / base) ++ (f (n % base) ∷ [])

-- 0 to 9
unfoldable pub decimal_digit : ℕ → ℕ
decimal_digit d = 48 + d

-- 0 to 9, A to F: "upper-case hex digits"
unfoldable pub hex_digit : ℕ → ℕ
hex_digit d = cond (ltb d 10) (48 + d) (55 + d)

-- How many decimal digits a number has. Every number that the listing of an accepted dump shows so is below 65,536.
unfoldable pub decimal_width : ℕ → ℕ
decimal_width n = cond (ltb n 10) 1 (cond (ltb n 100) 2 (cond (ltb n 1000) 3 (cond (ltb n 10000) 4 5)))

-- "Numbers are decimal"
unfoldable pub decimal : ℕ → List ℕ
decimal n = digits 10 decimal_digit (decimal_width n) n

-- "addresses eight upper-case hex digits", a mapping's base and length sixteen.
unfoldable pub hex : ℕ → ℕ → List ℕ
hex k n = digits 16 hex_digit k n

-- ---- Lines: words with a space between them, "each line ended by byte 10"

unfoldable pub line : List ℕ → List (List ℕ) → List ℕ
line word [] = word ++ (10 ∷ [])
line word (next ∷ words) = word ++ (32 ∷ line next words)

abbrev pub not_space : ℕ → Bool
not_space c = not (eqb c 32)

-- "Bus names lose their padding": no name of Table 4-8 has a space inside.
unfoldable pub unpadded : List ℕ → List ℕ
unpadded name = keep not_space name

-- "`on`" where enabled, "`off`" where not.
unfoldable pub on_off : Bool → List ℕ
unfolding text
on_off b = cond b (text "on") (text "off")

-- "`boot`" of the bootstrap processor, "`ap`" of the others.
unfoldable pub boot_ap : Bool → List ℕ
unfolding text
boot_ap b = cond b (text "boot") (text "ap")

-- "type (`INT`, `NMI`, `SMI`, `EXTINT`)"
unfoldable pub interrupt_name : ℕ → List ℕ
unfolding text
interrupt_name n = cond (eqb n 0) (text "INT") (cond (eqb n 1) (text "NMI") (cond (eqb n 2) (text "SMI") (text "EXTINT")))

-- ---- The lines of the base entries

-- `cpu 0 16 on boot`: ID, version, enabled, bootstrap.
unfoldable pub cpu_line : Entry → List ℕ
unfolding text
cpu_line e = line (text "cpu") (decimal (id_of e) ∷ decimal (version e) ∷ on_off (enabled e) ∷ boot_ap (bootstrap e) ∷ [])

-- `bus 0 ISA`: ID, name.
unfoldable pub bus_line : Entry → List ℕ
unfolding text
bus_line e = line (text "bus") (decimal (id_of e) ∷ unpadded (name_of e) ∷ [])

-- `ioapic 2 17 on FEC00000`: ID, version, enabled, address.
unfoldable pub io_apic_line : Entry → List ℕ
unfolding text
io_apic_line e = line (text "ioapic") (decimal (id_of e) ∷ decimal (version e) ∷ on_off (enabled e) ∷ hex 8 (address_of e) ∷ [])

-- "Interrupt fields: type .., bus, IRQ, polarity, trigger, destination, input."
unfoldable pub interrupt_line : List ℕ → Entry → List ℕ
interrupt_line word e =
    line word
    (interrupt_name (interrupt_type e)
    ∷ decimal (source_bus e)
    ∷ decimal (source_irq e)
    ∷ decimal (polarity e)
    ∷ decimal (trigger e)
    ∷ decimal (destination e)
    ∷ decimal (input e)
    ∷ [])

-- The line of a base entry, by its type.
unfoldable pub base_line : Entry → List ℕ
unfolding text
base_line e =
    cond (of_type processor_type e) (cpu_line e)
    (cond (of_type bus_type e) (bus_line e)
    (cond (of_type io_apic_type e) (io_apic_line e)
    (cond (of_type io_interrupt_type e) (interrupt_line (text "int") e) (interrupt_line (text "lint") e))))

-- ---- The lines of the extended entries

-- "`map bus kind base length` (16 hex digits each)"
unfoldable pub map_line : Entry → List ℕ
unfolding text
map_line e =
    line (text "map") (decimal (extended_bus e) ∷ decimal (space_kind e) ∷ hex 16 (space_base e) ∷ hex 16 (space_length e) ∷ [])

-- "`tree bus parent bit`"
unfoldable pub tree_line : Entry → List ℕ
unfolding text
tree_line e = line (text "tree") (decimal (extended_bus e) ∷ decimal (parent_bus e) ∷ decimal (flag (subtractive_bit e)) ∷ [])

-- "`mod bus bit list`"
unfoldable pub mod_line : Entry → List ℕ
unfolding text
mod_line e = line (text "mod") (decimal (extended_bus e) ∷ decimal (flag (takes_bit e)) ∷ decimal (range_list e) ∷ [])

-- "`skip type length`"
unfoldable pub skip_line : Entry → List ℕ
unfolding text
skip_line e = line (text "skip") (decimal (type e) ∷ decimal (extended_entry_length e) ∷ [])

-- The line of an extended entry, by its type.
unfoldable pub extended_line : Entry → List ℕ
extended_line e =
    cond (of_type mapping_type e) (map_line e)
    (cond (of_type hierarchy_type e) (tree_line e)
    (cond (of_type modifier_type e) (mod_line e) (skip_line e)))

-- ---- The whole

-- "`default n imcr b`": the only line.
unfoldable pub default_line : ℕ → ℕ → List ℕ
unfolding text
default_line n b = line (text "default") (decimal n ∷ text "imcr" ∷ decimal b ∷ [])

-- `pointer 000F0000 imcr 0`: where it stands, and its IMCR bit.
unfoldable pub pointer_line : ℕ → ℕ → List ℕ
unfolding text
pointer_line address b = line (text "pointer") (hex 8 address ∷ text "imcr" ∷ decimal b ∷ [])

-- "The table line has address, base length, extended length and count".
unfoldable pub table_line : ℕ → ℕ → ℕ → ℕ → List ℕ
unfolding text
table_line address base extended count =
    line (text "table") (hex 8 address ∷ decimal base ∷ decimal extended ∷ decimal count ∷ [])

-- `end`
unfoldable pub end_line : List ℕ
unfolding text
end_line = line (text "end") []

-- "entries follow in table order"
unfoldable pub table_lines : ℕ → List ℕ → List ℕ
table_lines address t =
    table_line address (base_length t) (extended_length t) (entry_count t)
    ++ (joined base_line (base_entries t) ++ (joined extended_line (extended_entries t) ++ end_line))

-- The listing of an accepted dump.
unfoldable pub listing : List ℕ → List ℕ
listing d =
    cond (is_default d) (default_line (feature1 (pointer_bytes d)) (imcr_of d))
    (pointer_line (pointer d).address (imcr_of d) ++ table_lines (table_address d) (table_in d))

-- "`refused n`": the listing program's line; the listing itself returns the number.
unfoldable pub refused_line : ℕ → List ℕ
unfolding text
refused_line n = line (text "refused") (decimal n ∷ [])

-- All that the listing program writes for what it read: "A refusal or default is the only line."
unfoldable pub program_output : List ℕ → List ℕ
program_output d = cond (eqb (dump_refusal d) 0) (listing d) (refused_line (dump_refusal d))

-- ---- The call: "the listing tests 1 to 18, then 19"

unfoldable pub list_refusal : List ℕ → List ℕ → ℕ
list_refusal d room = lent_refusal (dump_rules d) (too_small (length (listing d)) room)

-- How many bytes stand in the room.
unfoldable pub listed : List ℕ → List ℕ → Result ℕ Refusal
listed d room = answered (list_refusal d room) (length (listing d))

unfoldable pub list_left : List ℕ → List ℕ → List ℕ
list_left d room = lent_left (list_refusal d room) (listing d) room

-- ---- The listing program's call: the same for all that it writes, so that only a room too small is refused

unfoldable pub printed : List ℕ → List ℕ → Result ℕ Refusal
printed d room = fitted_bytes (program_output d) room

unfoldable pub print_left : List ℕ → List ℕ → List ℕ
print_left d room = fit_left (program_output d) room
