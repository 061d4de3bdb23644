-- The default configurations: the full table that each of the seven stands for, and the listing of one. Document 02, ask 6; MPS
-- chapter 5. The three tables are Intel's, cell by cell. Where chapter 5 leaves a field open, docs/DEFAULTS.md says what stands
-- there and why.
use Rattle.std.specs.Prelude.{ℕ, suc, ◌+◌, ◌-◌, ◌*◌, Bool, cond, not, ◌||◌, ◌&&◌, List, [], ◌∷◌, ◌++◌, length, get_or, replicate, ltb, eqb, Result}
use Rattle.mps.specs.Words.{text, flag, within, keep, head, joined}
use Rattle.mps.specs.Refusals.{Rule, ◌when◌, default_number}
use Rattle.mps.specs.Answers.{answered}
use Rattle.mps.specs.Rooms.{too_small, lent_refusal, lent_left}
use Rattle.mps.specs.Numbers.{bytes}
use Rattle.mps.specs.Layout.{Entry, default_most, boot_most, feature1, processor_type, bus_type, io_apic_type, io_interrupt_type, local_interrupt_type}
use Rattle.mps.specs.Layout.{vectored, non_maskable, external, everyone}
use Rattle.mps.specs.Pointer.{pointer, pointer_bytes, is_default, imcr_of}
use Rattle.mps.specs.Judge.{dump_rules}
use Rattle.mps.specs.Listing.{pointer_line, table_lines, listing}
use Rattle.mps.specs.Writing.{Parts, image}
use Rattle.mps.specs.declared.Fields.{Fields}
use Rattle.mps.specs.declared.refusals.Refusal.{Refusal}

-- ---- Table 5-1. Default Configurations

-- A row: "Default Config Code", "Bus Type", and by "APIC Type" the version that we write, 01h for "82489DX" and 10h for
-- "Integrated" (Table 3-2: "0x" and "1x"). "Number of CPUs" is 2 in every row; "Variant" and "Schematic" tell of Table 5-2.
pub record Configuration : Type 0 where
  pub code : ℕ
  pub buses : List (List ℕ)
  pub apic : ℕ

abbrev config : ℕ → List (List ℕ) → ℕ → Configuration
config code buses apic = record { code = code; buses = buses; apic = apic }

abbrev discrete : ℕ
discrete = 0x01

abbrev integrated : ℕ
integrated = 0x10

unfoldable pub ISA : List ℕ
unfolding text
ISA = text "ISA   "

unfoldable pub EISA : List ℕ
unfolding text
EISA = text "EISA  "

unfoldable pub MCA : List ℕ
unfolding text
MCA = text "MCA   "

unfoldable pub PCI : List ℕ
unfolding text
PCI = text "PCI   "

unfoldable pub table5_1 : List Configuration
table5_1 =
    config 1 (ISA ∷ []) discrete
    ∷ config 2 (EISA ∷ []) discrete
    ∷ config 3 (EISA ∷ []) discrete
    ∷ config 4 (MCA ∷ []) discrete
    ∷ config 5 (ISA ∷ PCI ∷ []) integrated
    ∷ config 6 (EISA ∷ PCI ∷ []) integrated
    ∷ config 7 (MCA ∷ PCI ∷ []) integrated
    ∷ []

abbrev coded : ℕ → Configuration → Bool
coded n c = eqb c.code n

-- The row of a code; of any other number one with no bus.
unfoldable pub configuration : ℕ → Configuration
configuration n = head (config n [] 0) (keep (coded n) table5_1)

-- ---- Tables 5-2 and 5-3: what an input is connected to

pub data Line : Type 0 where
  -- "8259A INTR"
  INTR : Line
  -- "IRQ1" is `IRQ 1`.
  IRQ : ℕ → Line
  NMI : Line
  -- "N/C designates not connected."
  NC : Line

-- A row of either table, from "Config 1" to "Config 7".
abbrev row : Line → Line → Line → Line → Line → Line → Line → List Line
row a b c d e f g = a ∷ b ∷ c ∷ d ∷ e ∷ f ∷ g ∷ []

-- "Default Configuration Interrupt Assignments", from "INTIN0" to "INTIN15".
unfoldable pub table5_2 : List (List Line)
table5_2 =
    row INTR INTR INTR INTR INTR INTR NC
    ∷ row (IRQ 1) (IRQ 1) (IRQ 1) (IRQ 1) (IRQ 1) (IRQ 1) (IRQ 1)
    ∷ row (IRQ 0) NC (IRQ 0) (IRQ 0) (IRQ 0) (IRQ 0) (IRQ 0)
    ∷ row (IRQ 3) (IRQ 3) (IRQ 3) (IRQ 3) (IRQ 3) (IRQ 3) (IRQ 3)
    ∷ row (IRQ 4) (IRQ 4) (IRQ 4) (IRQ 4) (IRQ 4) (IRQ 4) (IRQ 4)
    ∷ row (IRQ 5) (IRQ 5) (IRQ 5) (IRQ 5) (IRQ 5) (IRQ 5) (IRQ 5)
    ∷ row (IRQ 6) (IRQ 6) (IRQ 6) (IRQ 6) (IRQ 6) (IRQ 6) (IRQ 6)
    ∷ row (IRQ 7) (IRQ 7) (IRQ 7) (IRQ 7) (IRQ 7) (IRQ 7) (IRQ 7)
    ∷ row (IRQ 8) (IRQ 8) (IRQ 8) (IRQ 8) (IRQ 8) (IRQ 8) (IRQ 8)
    ∷ row (IRQ 9) (IRQ 9) (IRQ 9) (IRQ 9) (IRQ 9) (IRQ 9) (IRQ 9)
    ∷ row (IRQ 10) (IRQ 10) (IRQ 10) (IRQ 10) (IRQ 10) (IRQ 10) (IRQ 10)
    ∷ row (IRQ 11) (IRQ 11) (IRQ 11) (IRQ 11) (IRQ 11) (IRQ 11) (IRQ 11)
    ∷ row (IRQ 12) (IRQ 12) (IRQ 12) (IRQ 12) (IRQ 12) (IRQ 12) (IRQ 12)
    ∷ row (IRQ 13) NC (IRQ 13) (IRQ 13) (IRQ 13) (IRQ 13) (IRQ 13)
    ∷ row (IRQ 14) (IRQ 14) (IRQ 14) (IRQ 14) (IRQ 14) (IRQ 14) (IRQ 14)
    ∷ row (IRQ 15) (IRQ 15) (IRQ 15) (IRQ 15) (IRQ 15) (IRQ 15) (IRQ 15)
    ∷ []

-- "Assignment of System Interrupts to APIC Local Unit", "LINTIN0" and "LINTIN1".
unfoldable pub table5_3 : List (List Line)
table5_3 = row INTR INTR INTR INTR INTR INTR INTR ∷ row NMI NMI NMI NMI NMI NMI NMI ∷ []

-- What a row has for a configuration.
unfoldable pub cell : ℕ → List Line → Line
cell n lines = get_or lines (n - 1) NC

-- ---- The entries, MPS Tables 4-4, 4-7 and 4-9 to 4-12

-- "Processors 0 and 1": enabled, and bootstrap where it booted. Signature, features and reserved bytes are 0.
unfoldable pub processor_entry : ℕ → ℕ → ℕ → Entry
processor_entry apic boot id = processor_type ∷ id ∷ apic ∷ (1 + 2 * flag (eqb id boot)) ∷ replicate 16 0

-- The buses of a row have the IDs 0 and 1.
unfoldable pub bus_entries : ℕ → List (List ℕ) → List Entry
bus_entries id [] = []
bus_entries id (name ∷ names) = (bus_type ∷ id ∷ name) ∷ bus_entries (suc id) names

-- "the I/O APIC at FEC00000h numbered 2"
abbrev pub default_io_apic : ℕ
default_io_apic = 2

unfoldable pub io_apic_entry : ℕ → Entry
io_apic_entry apic = io_apic_type ∷ default_io_apic ∷ apic ∷ 1 ∷ bytes 4 0xfec00000

-- An interrupt of bus 0, I/O or local, that conforms to its bus: interrupt type, IRQ, destination and input.
unfoldable pub interrupt_entry : ℕ → ℕ → ℕ → ℕ → ℕ → Entry
interrupt_entry type itype irq to input = type ∷ itype ∷ 0 ∷ 0 ∷ 0 ∷ irq ∷ to ∷ input ∷ []

-- The entry of an input, none where nothing is connected.
unfoldable pub wired : ℕ → ℕ → ℕ → Line → List Entry
wired type to input INTR = interrupt_entry type external 0 to input ∷ []
wired type to input (IRQ k) = interrupt_entry type vectored k to input ∷ []
wired type to input NMI = interrupt_entry type non_maskable 0 to input ∷ []
wired type to input NC = []

-- The entries of a table's rows, from an input on.
unfoldable pub inputs : ℕ → ℕ → ℕ → ℕ → List (List Line) → List Entry
inputs type to n input [] = []
inputs type to n input (lines ∷ rows) = wired type to input (cell n lines) ++ inputs type to n (suc input) rows

-- All of a configuration, for a boot processor. A local interrupt goes to "All Local APICs".
unfoldable pub default_entries : ℕ → ℕ → List Entry
default_entries n boot =
    let c = configuration n in
    processor_entry c.apic boot 0
    ∷ processor_entry c.apic boot 1
    ∷ (bus_entries 0 c.buses
    ++ (io_apic_entry c.apic
    ∷ (inputs io_interrupt_type default_io_apic n 0 table5_2 ++ inputs local_interrupt_type everyone n 0 table5_3)))

-- ---- The table: "made by our writer"

-- "local APICs at FEE00000h"; OEM ID and product are spaces.
unfoldable pub default_fields : Fields
default_fields =
    record { oem = replicate 8 32; product = replicate 12 32; pointer = 0; size = 0; apic = 0xfee00000; reserved = 0 }

unfoldable pub default_parts : ℕ → ℕ → Parts
default_parts n boot = record { fields = default_fields; base = joined (λ (e : Entry). e) (default_entries n boot); extended = [] }

unfoldable pub default_table : ℕ → ℕ → List ℕ
default_table n boot = image (default_parts n boot)

-- ---- The call: "30, .. before 19"

-- "number not 1 to 7 or boot processor not 0 or 1"
unfoldable pub no_default : ℕ → ℕ → Bool
no_default n boot = not (within 1 default_most n) || ltb boot_most boot

unfoldable pub make_refusal : ℕ → ℕ → List ℕ → ℕ
make_refusal n boot room = lent_refusal (default_number when no_default n boot ∷ []) (too_small (length (default_table n boot)) room)

-- How many bytes stand in the room.
unfoldable pub made : ℕ → ℕ → List ℕ → Result ℕ Refusal
made n boot room = answered (make_refusal n boot room) (length (default_table n boot))

unfoldable pub make_left : ℕ → ℕ → List ℕ → List ℕ
make_left n boot room = lent_left (make_refusal n boot room) (default_table n boot) room

-- ---- The full listing of a dump

-- The number of a default dump: "default configuration n".
abbrev pub default_of : List ℕ → ℕ
default_of d = feature1 (pointer_bytes d)

-- "the pointer line stands as ever and the table's address is written 00000000"
unfoldable pub full_listing : List ℕ → ℕ → List ℕ
full_listing d boot =
    cond (is_default d) (pointer_line (pointer d).address (imcr_of d) ++ table_lines 0 (default_table (default_of d) boot)) (listing d)

-- "a listing tests it only for a default"
unfoldable pub wrong_boot : List ℕ → ℕ → Bool
wrong_boot d boot = is_default d && no_default (default_of d) boot

-- "30, .. after 4 and before 19"
unfoldable pub full_rules : List ℕ → ℕ → List Rule
full_rules d boot = dump_rules d ++ (default_number when wrong_boot d boot ∷ [])

unfoldable pub full_refusal : List ℕ → ℕ → List ℕ → ℕ
full_refusal d boot room = lent_refusal (full_rules d boot) (too_small (length (full_listing d boot)) room)

unfoldable pub full_listed : List ℕ → ℕ → List ℕ → Result ℕ Refusal
full_listed d boot room = answered (full_refusal d boot room) (length (full_listing d boot))

unfoldable pub full_left : List ℕ → ℕ → List ℕ → List ℕ
full_left d boot room = lent_left (full_refusal d boot room) (full_listing d boot) room
