-- The predefined ranges of I/O addresses. Document 01, "Routes and addresses"; MPS Table 4-17.
use Rattle.std.specs.Prelude.{ℕ, ◌+◌, ◌*◌, ◌%◌, Bool, ◌||◌, ◌&&◌, ltb, eqb}
use Rattle.mps.specs.Words.{flag, within}
use Rattle.mps.specs.Layout.{modified_below}

-- "ISA when the low ten bits are 100h to 3FFh".
unfoldable pub isa : ℕ → Bool
isa address = within 0x100 0x3ff (address % 1024)

-- "VGA when they are 3B0h to 3BBh or 3C0h to 3DFh".
unfoldable pub vga : ℕ → Bool
vga address = within 0x3b0 0x3bb (address % 1024) || within 0x3c0 0x3df (address % 1024)

-- "A table of 1,024 places for the low ten address bits": what the constant table of the crate tables must hold, bit 0 for
-- ISA and bit 1 for VGA.
unfoldable pub ranges_at : ℕ → ℕ
ranges_at address = flag (isa address) + 2 * flag (vga address)

-- Whether an I/O address lies in a predefined list, 0 for ISA and 1 for VGA: "below 65,536 only".
unfoldable pub in_list : ℕ → ℕ → Bool
in_list list address = ltb address modified_below && (eqb list 0 && isa address || eqb list 1 && vga address)

-- The ranges as Intel prints them, over the low twelve bits of an address: X is any digit. That they are the same at every
-- address is proved beside the constant table (crate tables, isa-printed and vga-printed).
unfoldable pub printed_isa : ℕ → Bool
printed_isa x = within 0x100 0x3ff x || within 0x500 0x7ff x || within 0x900 0xbff x || within 0xd00 0xfff x

unfoldable pub printed_vga : ℕ → Bool
printed_vga x =
    within 0x3b0 0x3bb x || within 0x3c0 0x3df x || within 0x7b0 0x7bb x || within 0x7c0 0x7df x
    || within 0xbb0 0xbbb x
    || within 0xbc0 0xbdf x
    || within 0xfb0 0xfbb x
    || within 0xfc0 0xfdf x
