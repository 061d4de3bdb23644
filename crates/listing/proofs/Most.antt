-- How long a line can be. Assumes nothing.
use Prim.Native.Nat.{ℕ, ◌≤◌}
use mathlib.Core.Bool.{Bool, true, false, cond}
use mathlib.Core.List.{List, [], ◌∷◌}
use native.Mathlib.Omega.{arith}
use lib.ListN.{length, drop, length-take}
use lib.Dec.{eqb}
use Rattle.mps.specs.Words.{text, flag, each}
use Rattle.mps.specs.Sums.{total}
use Rattle.mps.specs.Layout.{Entry, of_type, processor_type, bus_type, io_apic_type, io_interrupt_type}
use Rattle.mps.specs.Layout.{id_of, version, enabled, bootstrap, name_of, address_of, extended_entry_length, type}
use Rattle.mps.specs.Layout.{interrupt_type, source_bus, source_irq, polarity, trigger, destination, input}
use Rattle.mps.specs.Layout.{extended_bus, space_kind, space_base, space_length, parent_bus, subtractive_bit, takes_bit, range_list}
use Rattle.mps.specs.Listing.{decimal, hex, unpadded, on_off, boot_ap, interrupt_name}
use Rattle.mps.specs.Listing.{cpu_line, bus_line, io_apic_line, interrupt_line, base_line, map_line, tree_line, mod_line, skip_line}
use Rattle.mps.specs.Listing.{pointer_line, table_line, end_line, default_line, refused_line}
use Rattle.text.proofs.Laws.{length_decimal_most, length_hex, length_unpadded, length_line}

-- ---- Words of a choice

choice : (k : ℕ) (b : Bool) (x y : List ℕ) → length x ≤ k → length y ≤ k → length (cond b x y) ≤ k
choice k true x y h g = h
choice k false x y h g = g

on_most : (b : Bool) → length (on_off b) ≤ 3
unfolding on_off text
on_most b = choice 3 b (text "on") (text "off") (omega arith) (omega arith)

boot_most_lem : (b : Bool) → length (boot_ap b) ≤ 4
unfolding boot_ap text
boot_most_lem b = choice 4 b (text "boot") (text "ap") (omega arith) (omega arith)

interrupt_most : (n : ℕ) → length (interrupt_name n) ≤ 6
unfolding interrupt_name text
interrupt_most n =
    choice 6 (eqb n 0) (text "INT") (cond (eqb n 1) (text "NMI") (cond (eqb n 2) (text "SMI") (text "EXTINT"))) (omega arith)
    (choice 6 (eqb n 1) (text "NMI") (cond (eqb n 2) (text "SMI") (text "EXTINT")) (omega arith)
    (choice 6 (eqb n 2) (text "SMI") (text "EXTINT") (omega arith) (omega arith)))

hex_most : (k n : ℕ) → length (hex k n) ≤ k
hex_most k n = omega (arith, length_hex k n)

-- ---- Base entries: none has a line of more than 48 bytes

cpu_most : (e : Entry) → length (cpu_line e) ≤ 48
unfolding cpu_line text total each
cpu_most e =
    omega (
      arith,
      length_line (text "cpu") (decimal (id_of e) ∷ decimal (version e) ∷ on_off (enabled e) ∷ boot_ap (bootstrap e) ∷ []),
      length_decimal_most (id_of e),
      length_decimal_most (version e),
      on_most (enabled e),
      boot_most_lem (bootstrap e),
    )

bus_most : (e : Entry) → length (bus_line e) ≤ 48
unfolding bus_line text total each
bus_most e =
    omega (
      arith,
      length_line (text "bus") (decimal (id_of e) ∷ unpadded (name_of e) ∷ []),
      length_decimal_most (id_of e),
      length_unpadded (name_of e),
      length-take 6 (drop 2 e),
    )

io_apic_most : (e : Entry) → length (io_apic_line e) ≤ 48
unfolding io_apic_line text total each
io_apic_most e =
    omega (
      arith,
      length_line (text "ioapic") (decimal (id_of e) ∷ decimal (version e) ∷ on_off (enabled e) ∷ hex 8 (address_of e) ∷ []),
      length_decimal_most (id_of e),
      length_decimal_most (version e),
      on_most (enabled e),
      hex_most 8 (address_of e),
    )

interrupt_line_most : (word : List ℕ) (e : Entry) → length word ≤ 4 → length (interrupt_line word e) ≤ 48
unfolding interrupt_line total each
interrupt_line_most word e h =
    omega (
      arith,
      length_line word
          (interrupt_name (interrupt_type e)
          ∷ decimal (source_bus e)
          ∷ decimal (source_irq e)
          ∷ decimal (polarity e)
          ∷ decimal (trigger e)
          ∷ decimal (destination e)
          ∷ decimal (input e)
          ∷ []),
      interrupt_most (interrupt_type e),
      length_decimal_most (source_bus e),
      length_decimal_most (source_irq e),
      length_decimal_most (polarity e),
      length_decimal_most (trigger e),
      length_decimal_most (destination e),
      length_decimal_most (input e),
    )

pub base_most : (e : Entry) → length (base_line e) ≤ 48
unfolding base_line text
base_most e =
    choice 48 (of_type processor_type e) (cpu_line e) _ (cpu_most e)
    (choice 48 (of_type bus_type e) (bus_line e) _ (bus_most e)
    (choice 48 (of_type io_apic_type e) (io_apic_line e) _ (io_apic_most e)
    (choice 48 (of_type io_interrupt_type e) (interrupt_line (text "int") e) (interrupt_line (text "lint") e)
    (interrupt_line_most (text "int") e (omega arith)) (interrupt_line_most (text "lint") e (omega arith)))))

-- ---- Extended entries: one that is skipped has at most 17 bytes, a link or a modifier 24, a mapping 50

pub map_most : (e : Entry) → length (map_line e) ≤ 50
unfolding map_line text total each
map_most e =
    omega (
      arith,
      length_line (text "map") (decimal (extended_bus e) ∷ decimal (space_kind e) ∷ hex 16 (space_base e) ∷ hex 16 (space_length e) ∷ []),
      length_decimal_most (extended_bus e),
      length_decimal_most (space_kind e),
      hex_most 16 (space_base e),
      hex_most 16 (space_length e),
    )

pub tree_most : (e : Entry) → length (tree_line e) ≤ 24
unfolding tree_line text total each
tree_most e =
    omega (
      arith,
      length_line (text "tree") (decimal (extended_bus e) ∷ decimal (parent_bus e) ∷ decimal (flag (subtractive_bit e)) ∷ []),
      length_decimal_most (extended_bus e),
      length_decimal_most (parent_bus e),
      length_decimal_most (flag (subtractive_bit e)),
    )

pub mod_most : (e : Entry) → length (mod_line e) ≤ 24
unfolding mod_line text total each
mod_most e =
    omega (
      arith,
      length_line (text "mod") (decimal (extended_bus e) ∷ decimal (flag (takes_bit e)) ∷ decimal (range_list e) ∷ []),
      length_decimal_most (extended_bus e),
      length_decimal_most (flag (takes_bit e)),
      length_decimal_most (range_list e),
    )

pub skip_most : (e : Entry) → length (skip_line e) ≤ 17
unfolding skip_line text total each
skip_most e =
    omega (
      arith,
      length_line (text "skip") (decimal (type e) ∷ decimal (extended_entry_length e) ∷ []),
      length_decimal_most (type e),
      length_decimal_most (extended_entry_length e),
    )

-- ---- The other lines

pub pointer_most : (address b : ℕ) → length (pointer_line address b) ≤ 48
unfolding pointer_line text total each
pointer_most address b =
    omega (
      arith,
      length_line (text "pointer") (hex 8 address ∷ text "imcr" ∷ decimal b ∷ []),
      hex_most 8 address,
      length_decimal_most b,
    )

pub table_most : (address base extended count : ℕ) → length (table_line address base extended count) ≤ 48
unfolding table_line text total each
table_most address base extended count =
    omega (
      arith,
      length_line (text "table") (hex 8 address ∷ decimal base ∷ decimal extended ∷ decimal count ∷ []),
      hex_most 8 address,
      length_decimal_most base,
      length_decimal_most extended,
      length_decimal_most count,
    )

pub end_most : length end_line ≤ 48
unfolding end_line text total each
end_most = omega (arith, length_line (text "end") [])

pub default_most_lem : (n b : ℕ) → length (default_line n b) ≤ 48
unfolding default_line text total each
default_most_lem n b =
    omega (
      arith,
      length_line (text "default") (decimal n ∷ text "imcr" ∷ decimal b ∷ []),
      length_decimal_most n,
      length_decimal_most b,
    )

pub refused_most : (n : ℕ) → length (refused_line n) ≤ 48
unfolding refused_line text total each
refused_most n = omega (arith, length_line (text "refused") (decimal n ∷ []), length_decimal_most n)
