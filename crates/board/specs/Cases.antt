-- Document 01, "On both sides of a line": P1 to P12, as one table. A row has what the definitions give and what the paper
-- wants. Answers are the paper's numbers (mps, specs/Answers.antt); behind a route's and a refused edit's answer stands all
-- that it leaves in what it was lent, behind P5's the byte that the row is about.
use Rattle.std.specs.Prelude.{ℕ, List, [], ◌∷◌, ◌++◌, set, replicate}
use Rattle.mps.specs.Words.{byte, flag}
use Rattle.mps.specs.Sums.{sum256}
use Rattle.mps.specs.Ranges.{in_list}
use Rattle.mps.specs.Layout.{checksum_at, base_bytes, base_part}
use Rattle.mps.specs.Judge.{judged, held}
use Rattle.mps.specs.Rules.{io_side}
use Rattle.mps.specs.Routes.{Question, question, routed, routes_left}
use Rattle.mps.specs.Addresses.{seen}
use Rattle.mps.specs.Writing.{fields_of, image}
use Rattle.mps.specs.Edits.{Edit, edited, edit_left}
use Rattle.mps.specs.Answers.{judged_numbers, held_numbers, lent_numbers, seen_numbers, edited_numbers}
use Rattle.board.specs.Board.{contents, pointer, table, interrupt, bare_header}

pub record Row : Type 0 where
  pub got : List ℕ
  pub wanted : List ℕ

abbrev pub got : Row → List ℕ
got r = r.got

abbrev pub wanted : Row → List ℕ
wanted r = r.wanted

abbrev pub gives : List ℕ → List ℕ → Row
gives a b = record { got = a; wanted = b }

-- A room of four bytes that hold EEh.
abbrev room : List ℕ
room = replicate 4 0xee

-- INT, bus 0, and an IRQ, of the I/O side.
abbrev irq : ℕ → Question
irq n = question io_side 0 0 n

-- To input 9 at a place, stating the bytes of the board's place 3.
abbrev pub to_input9 : ℕ → Edit
to_input9 place = record { place = place; stated = interrupt; wanted = set interrupt 7 9 }

-- The board with the edit made.
abbrev after : List ℕ
after = edit_left table (to_input9 3)

-- The board's dump with another pointer checksum.
abbrev pub dump_with_checksum : ℕ → List ℕ
dump_with_checksum sum = contents ++ (set pointer 10 sum ++ table)

-- The board and a modifier that adds a list to its bus, which declares nothing else.
abbrev pub with_list : ℕ → List ℕ
with_list list =
    image
    (record { fields = fields_of table; base = base_part table; extended = 0x82 ∷ 0x08 ∷ 0x00 ∷ 0x00 ∷ list ∷ 0x00 ∷ 0x00 ∷ 0x00 ∷ [] })

-- Whether an I/O address is in a list, and whether that bus then sees it: no or yes, no link climbed.
abbrev listed : ℕ → ℕ → List ℕ
listed list address = flag (in_list list address) ∷ seen_numbers (seen (with_list list) 0 0 address)

abbrev no : List ℕ
no = 0 ∷ 0 ∷ 0 ∷ 0 ∷ []

abbrev yes : List ℕ
yes = 1 ∷ 0 ∷ 1 ∷ 0 ∷ []

abbrev isa : ℕ
isa = 0

abbrev vga : ℕ
vga = 1

unfoldable pub cases : List Row
cases =
    -- P1 the board's base bytes add to 0. P2 its pointer does.
    gives (sum256 (base_bytes table) ∷ []) (0 ∷ [])
    ∷ gives (sum256 pointer ∷ []) (0 ∷ [])
    -- P3 route INT, bus 0, IRQ 1: (2,1). P4 IRQ 2: none.
    ∷ gives (lent_numbers (routed (irq 1) table room) ++ routes_left (irq 1) table room) (0 ∷ 1 ∷ 2 ∷ 1 ∷ 0xee ∷ 0xee ∷ [])
    ∷ gives (lent_numbers (routed (irq 2) table room) ++ routes_left (irq 2) table room) (0 ∷ 0 ∷ room)
    -- P5 edit place 3 to input 9: byte 7 is B8h. P6 the same edit again, still stating input 1: 22. P7 place 5: 20.
    ∷ gives (edited_numbers (edited table (to_input9 3)) ++ (byte after checksum_at ∷ [])) (0 ∷ 0xb8 ∷ [])
    ∷ gives (edited_numbers (edited after (to_input9 3)) ++ edit_left after (to_input9 3)) (22 ∷ after)
    ∷ gives (edited_numbers (edited table (to_input9 5)) ++ edit_left table (to_input9 5)) (20 ∷ table)
    -- P8 I/O 0FFh not ISA, 100h is. P9 3BBh VGA, 3BCh not. P10 10100h in neither.
    ∷ gives (listed isa 0xff ++ listed isa 0x100) (no ++ yes)
    ∷ gives (listed vga 0x3bb ++ listed vga 0x3bc) (yes ++ no)
    ∷ gives (listed isa 0x10100 ++ listed vga 0x10100) (no ++ no)
    -- P11 pointer checksum 80h: 2. P12 sound header of length 44, no entries: 14.
    ∷ gives (held_numbers (held (dump_with_checksum 0x80))) (2 ∷ [])
    ∷ gives (judged_numbers (judged bare_header)) (14 ∷ [])
    ∷ []
