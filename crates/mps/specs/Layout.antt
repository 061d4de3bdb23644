-- Layouts and limits: the offsets, widths, lengths and limits of the dump, the pointer, the table, its entries and the book.
-- The ranges of MPS Table 4-17 stand in Ranges; the writer's header lays the fields of Table 4-2 one behind the other once
-- more. Document 01, "The dump", "The floating pointer" and "The table"; MPS 4.1 to 4.4; document 02 where it is named.
-- "Reserved bits and bytes decide nothing and are kept": only byte 43 has a name, since the writer takes it. Without a name
-- too is what no rule reads by itself: the pointer's "checksum at 10", which counts in its sum, and a processor's "signature
-- 4, features 8".
use Rattle.std.specs.Prelude.{ℕ, ◌+◌, ◌*◌, ◌/◌, ◌%◌, ◌^◌, Bool, cond, List, take, eqb}
use Rattle.mps.specs.Words.{byte, bit, part, cut}
use Rattle.mps.specs.Numbers.{le}

-- ---- Limits

-- "At most 65,536 bytes in all."
abbrev pub dump_most : ℕ
dump_most = 65536

-- "the number of regions, 0 to 8"
abbrev pub regions_most : ℕ
regions_most = 8

-- "Base and extended are each at most 4,096 bytes"
abbrev pub part_most : ℕ
part_most = 4096

-- "kinds 1 and 2 have at most 1,024 bytes"
abbrev pub kilobyte : ℕ
kilobyte = 1024

-- "kind 3 has its base at F0000h or above and base plus length at most 100000h"
abbrev pub rom_start : ℕ
rom_start = 0xf0000

abbrev pub rom_end : ℕ
rom_end = 0x100000

-- "Bases are multiples of 16"
abbrev pub region_step : ℕ
region_step = 16

-- "base plus length is at most 2^32", of a region; "Base plus length is at most 2^64", of a 128 entry
abbrev pub memory_end : ℕ
memory_end = 2 ^ 32

abbrev pub space_end : ℕ
space_end = 2 ^ 64

-- "the revision it writes is 4"
abbrev pub spec_revision : ℕ
spec_revision = 4

-- "pointer revision not 4", "table revision not 4": the revisions that are read.
unfoldable pub known_revision : ℕ → Bool
known_revision n = eqb n spec_revision

-- "Modifiers touch I/O addresses below 65,536 only"
abbrev pub modified_below : ℕ
modified_below = 65536

-- "local APIC address not a multiple of 4,096"; an I/O APIC's "not a multiple of 1,024"
abbrev pub local_apic_step : ℕ
local_apic_step = 4096

abbrev pub io_apic_step : ℕ
io_apic_step = 1024

-- ---- The dump: "Byte 0 is the number of regions"; "nine bytes a region: kind (1), physical base (4), length (4)"

-- "Kinds: 1 first kilobyte of the EBDA, 2 last kilobyte of base memory, 3 BIOS ROM, 4 other memory."
abbrev pub ebda : ℕ
ebda = 1

abbrev pub base_memory : ℕ
base_memory = 2

abbrev pub bios_rom : ℕ
bios_rom = 3

abbrev pub other_memory : ℕ
other_memory = 4

abbrev pub region_count : List ℕ → ℕ
region_count d = byte d 0

abbrev pub row_length : ℕ
row_length = 9

abbrev pub row_kind : List ℕ → ℕ
row_kind s = byte s 0

abbrev pub row_base : List ℕ → ℕ
row_base s = le 4 s 1

abbrev pub row_size : List ℕ → ℕ
row_size s = le 4 s 5

-- ---- The floating pointer, MPS Table 4-1: sixteen bytes

abbrev pub pointer_size : ℕ
pointer_size = 16

-- "length 1 at 8": one paragraph of sixteen bytes.
abbrev pub one_paragraph : ℕ
one_paragraph = 1

-- "Feature byte 1 at 1 to 7"
abbrev pub default_most : ℕ
default_most = 7

-- "boot processor not 0 or 1" (document 02, ask 6)
abbrev pub boot_most : ℕ
boot_most = 1

abbrev pub pointer_signature : List ℕ → List ℕ
pointer_signature p = take 4 p

abbrev pub pointer_table : List ℕ → ℕ
pointer_table p = le 4 p 4

abbrev pub pointer_paragraphs : List ℕ → ℕ
pointer_paragraphs p = byte p 8

abbrev pub pointer_revision : List ℕ → ℕ
pointer_revision p = byte p 9

abbrev pub feature1 : List ℕ → ℕ
feature1 p = byte p 11

-- "feature byte 2 at 12, bit 7 being IMCR"
abbrev pub imcr : List ℕ → Bool
imcr p = bit 7 (byte p 12)

-- ---- The header, MPS Table 4-2: 44 bytes

abbrev pub header_size : ℕ
header_size = 44

abbrev pub signature : List ℕ → List ℕ
signature t = take 4 t

abbrev pub base_length : List ℕ → ℕ
base_length t = le 2 t 4

abbrev pub revision : List ℕ → ℕ
revision t = byte t 6

-- The place of the byte that brings the base to 0.
abbrev pub checksum_at : ℕ
checksum_at = 7

abbrev pub oem_id : List ℕ → List ℕ
oem_id t = part 8 16 t

abbrev pub product_of : List ℕ → List ℕ
product_of t = part 16 28 t

abbrev pub oem_pointer : List ℕ → ℕ
oem_pointer t = le 4 t 28

abbrev pub oem_size : List ℕ → ℕ
oem_size t = le 2 t 32

abbrev pub entry_count : List ℕ → ℕ
entry_count t = le 2 t 34

abbrev pub local_apic : List ℕ → ℕ
local_apic t = le 4 t 36

-- Shut, as revision 1 will have none: proofs go by laws about it.
unfoldable pub extended_length : List ℕ → ℕ
extended_length t = le 2 t 40

abbrev pub extended_checksum : List ℕ → ℕ
extended_checksum t = byte t 42

abbrev pub reserved43 : List ℕ → ℕ
reserved43 t = byte t 43

-- ---- The parts of a table

-- "All base bytes", the header's among them.
abbrev pub base_bytes : List ℕ → List ℕ
base_bytes t = take (base_length t) t

-- The base entries' bytes: from the header's end to the base end.
abbrev pub base_part : List ℕ → List ℕ
base_part t = part header_size (base_length t) t

-- "The extended bytes follow the base".
abbrev pub extended_end : List ℕ → ℕ
extended_end t = base_length t + extended_length t

abbrev pub extended_part : List ℕ → List ℕ
extended_part t = part (base_length t) (extended_end t) t

-- ---- Entries, base and extended: "type in byte 0"

abbrev pub Entry : Type 0
Entry = List ℕ

abbrev pub type : Entry → ℕ
type e = byte e 0

abbrev pub of_type : ℕ → Entry → Bool
of_type n e = eqb (type e) n

-- MPS Table 4-3: a processor entry has 20 bytes, every other base entry 8.
abbrev pub processor_size : ℕ
processor_size = 20

abbrev pub entry_size : ℕ
entry_size = 8

unfoldable pub base_entry_length : List ℕ → ℕ
base_entry_length s = cond (eqb (byte s 0) 0) processor_size entry_size

-- "length in byte 1"
abbrev pub extended_entry_length : List ℕ → ℕ
extended_entry_length s = byte s 1

-- The base entries of a table, in its order.
unfoldable pub base_entries : List ℕ → List Entry
base_entries t = cut base_entry_length 0 (base_part t)

-- The extended entries of a table, in its order.
unfoldable pub extended_entries : List ℕ → List Entry
extended_entries t = cut extended_entry_length 0 (extended_part t)

-- ---- Base entries, MPS Tables 4-3, 4-4, 4-7 and 4-9 to 4-12

abbrev pub processor_type : ℕ
processor_type = 0

abbrev pub bus_type : ℕ
bus_type = 1

abbrev pub io_apic_type : ℕ
io_apic_type = 2

abbrev pub io_interrupt_type : ℕ
io_interrupt_type = 3

abbrev pub local_interrupt_type : ℕ
local_interrupt_type = 4

-- "base type over 4"
abbrev pub last_base_type : ℕ
last_base_type = 4

-- The ID of a processor, a bus or an I/O APIC.
abbrev pub id_of : Entry → ℕ
id_of e = byte e 1

-- The version of a processor's or an I/O APIC's APIC.
abbrev pub version : Entry → ℕ
version e = byte e 2

-- "flags 3 (bit 0 enabled ..)", of a processor or an I/O APIC.
abbrev pub enabled : Entry → Bool
enabled e = bit 0 (byte e 3)

-- ".. bit 1 bootstrap", of a processor.
abbrev pub bootstrap : Entry → Bool
bootstrap e = bit 1 (byte e 3)

-- "six-byte name 2", of a bus.
abbrev pub name_of : Entry → List ℕ
name_of e = part 2 8 e

-- The address of an I/O APIC.
abbrev pub address_of : Entry → ℕ
address_of e = le 4 e 4

-- The fields of an interrupt entry, I/O or local.
abbrev pub interrupt_type : Entry → ℕ
interrupt_type e = byte e 1

-- "type 1 (INT 0, NMI 1, SMI 2, ExtINT 3)"
abbrev pub interrupt_type_most : ℕ
interrupt_type_most = 3

-- ".. interrupt type INT" (document 02, ask 1); Table 4-11: a "vectored interrupt", a "nonmaskable" one, and one whose "vector is
-- supplied by external PIC"
abbrev pub vectored : ℕ
vectored = 0

abbrev pub non_maskable : ℕ
non_maskable = 1

abbrev pub external : ℕ
external = 3

-- "flags 2 (bits 0-1 polarity, 2-3 trigger ..)"
abbrev pub polarity : Entry → ℕ
polarity e = byte e 2 % 4

abbrev pub trigger : Entry → ℕ
trigger e = byte e 2 / 4 % 4

abbrev pub source_bus : Entry → ℕ
source_bus e = byte e 4

abbrev pub source_irq : Entry → ℕ
source_irq e = byte e 5

abbrev pub destination : Entry → ℕ
destination e = byte e 6

abbrev pub input : Entry → ℕ
input e = byte e 7

-- "value 2 reserved in each", polarity and trigger
abbrev pub reserved_mode : ℕ
reserved_mode = 2

-- "local input over 1"
abbrev pub local_input_most : ℕ
local_input_most = 1

-- "255 names all": a destination, and the ID that no enabled APIC may have.
abbrev pub everyone : ℕ
everyone = 255

-- ---- The source of a PCI interrupt, MPS Appendix D.3, Table D-1

-- "device 0 to 31 and pin 0 to 3" (document 02, ask 1)
abbrev pub pins : ℕ
pins = 4

abbrev pub devices : ℕ
devices = 32

-- The slots of a bus: what a source IRQ tells without its bit 7.
abbrev pub bus_slots : ℕ
bus_slots = devices * pins

-- "bits 0-1 the pin (0 is INTA#)"
abbrev pub pin_of : Entry → ℕ
pin_of e = source_irq e % pins

-- "bits 2-6 the device, bit 7 reserved"
abbrev pub device_of : Entry → ℕ
device_of e = source_irq e / pins % devices

-- ---- Extended entries, MPS Tables 4-13 to 4-16

-- "types .. at least 128, length in byte 1 (at least 2)"
abbrev pub first_extended_type : ℕ
first_extended_type = 128

abbrev pub least_length : ℕ
least_length = 2

abbrev pub mapping_type : ℕ
mapping_type = 128

abbrev pub hierarchy_type : ℕ
hierarchy_type = 129

abbrev pub modifier_type : ℕ
modifier_type = 130

-- MPS Table 4-13: a mapping has 20 bytes, a link and a modifier 8.
abbrev pub mapping_size : ℕ
mapping_size = 20

abbrev pub link_size : ℕ
link_size = 8

-- These are their own lengths; any other type has the length that its byte 1 says.
unfoldable pub own_length : Entry → ℕ
own_length e =
    cond (of_type mapping_type e) mapping_size
    (cond (of_type hierarchy_type e) link_size
    (cond (of_type modifier_type e) link_size (extended_entry_length e)))

-- The bus of a 128, 129 or 130 entry.
abbrev pub extended_bus : Entry → ℕ
extended_bus e = byte e 2

-- Of a 128 entry: "kind 3 (0 I/O, 1 memory, 2 prefetch), base 4, length 12 (eight bytes each)".
abbrev pub space_kind : Entry → ℕ
space_kind e = byte e 3

abbrev pub space_kind_most : ℕ
space_kind_most = 2

abbrev pub space_base : Entry → ℕ
space_base e = le 8 e 4

abbrev pub space_length : Entry → ℕ
space_length e = le 8 e 12

-- Of a 129 entry: "subtractive bit 3:0, parent 4".
abbrev pub subtractive_bit : Entry → Bool
subtractive_bit e = bit 0 (byte e 3)

abbrev pub parent_bus : Entry → ℕ
parent_bus e = byte e 4

-- Of a 130 entry: "bit 3:0 (1 takes away, 0 adds), list 4 (four bytes; 0 ISA, 1 VGA)".
abbrev pub takes_bit : Entry → Bool
takes_bit e = bit 0 (byte e 3)

abbrev pub range_list : Entry → ℕ
range_list e = le 4 e 4

abbrev pub range_list_most : ℕ
range_list_most = 1

-- ---- The book of earlier tables (document 02, ask 3)

-- "At most 32,768 bytes"
abbrev pub book_most : ℕ
book_most = 32768

-- "one byte of value 1 (layout), number of rows (two bytes)"
abbrev pub book_head : ℕ
book_head = 3

abbrev pub book_rows : List ℕ → ℕ
book_rows s = le 2 s 1

-- "rows of machine, edition, offset and length": the first two have two bytes each, the others as many as the layout says.
abbrev pub book_row : ℕ → ℕ
book_row width = 4 + 2 * width

-- The fields of the row that begins at a place.
abbrev pub machine_at : List ℕ → ℕ → ℕ
machine_at s at = le 2 s at

abbrev pub edition_at : List ℕ → ℕ → ℕ
edition_at s at = le 2 s (at + 2)

abbrev pub body_start : ℕ → List ℕ → ℕ → ℕ
body_start width s at = le width s (at + 4)

abbrev pub body_size : ℕ → List ℕ → ℕ → ℕ
body_size width s at = le width s (at + 4 + width)

-- ".. or edition 65,535 is reached"
abbrev pub edition_most : ℕ
edition_most = 65535
