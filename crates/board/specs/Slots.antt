-- Document 02, ask 1, on a board with PCI buses: the bytes are put together here and the answers worked out from MPS Table D-1,
-- both by hand. The rows are as those of P1 to P12; behind each answer stands all that it leaves in the room.
use Rattle.std.specs.Prelude.{ℕ, List, [], ◌∷◌, ◌++◌, set, replicate}
use Rattle.mps.specs.Words.{joined}
use Rattle.mps.specs.Layout.{device_of, pin_of}
use Rattle.mps.specs.Judge.{judged}
use Rattle.mps.specs.Rules.{io_side}
use Rattle.mps.specs.Routes.{question, routed, routes_left}
use Rattle.mps.specs.Slots.{Slot, slot, slot_routed, slot_routes_left, slots_listed, slots_left}
use Rattle.mps.specs.Answers.{judged_numbers, lent_numbers}
use Rattle.board.specs.Board.{header, processor, io_apic, interrupt, table}
use Rattle.board.specs.Cases.{Row, gives}

-- PCI bus 4 stands before PCI bus 0, and bus 7 is an ISA bus.
abbrev buses : List ℕ
buses =
    (0x01 ∷ 0x04 ∷ 0x50 ∷ 0x43 ∷ 0x49 ∷ 0x20 ∷ 0x20 ∷ 0x20 ∷ [])
    ++ ((0x01 ∷ 0x00 ∷ 0x50 ∷ 0x43 ∷ 0x49 ∷ 0x20 ∷ 0x20 ∷ 0x20 ∷ [])
    ++ (0x01 ∷ 0x07 ∷ 0x49 ∷ 0x53 ∷ 0x41 ∷ 0x20 ∷ 0x20 ∷ 0x20 ∷ []))

-- The bench board's, number 2; another, 3; and a disabled one, 5.
abbrev io_apics : List ℕ
io_apics =
    io_apic
    ++ ((0x02 ∷ 0x03 ∷ 0x11 ∷ 0x01 ∷ 0x00 ∷ 0x10 ∷ 0xc0 ∷ 0xfe ∷ [])
    ++ (0x02 ∷ 0x05 ∷ 0x11 ∷ 0x00 ∷ 0x00 ∷ 0x20 ∷ 0xc0 ∷ 0xfe ∷ []))

abbrev interrupts : List ℕ
interrupts =
    -- Bus 4, 7Fh, bits 0 11111 11: device 31, pin 3.
    (0x03 ∷ 0x00 ∷ 0x00 ∷ 0x00 ∷ 0x04 ∷ 0x7f ∷ 0x02 ∷ 0x10 ∷ [])
    -- Bus 0, 85h and 05h, bits 1 00001 01 and 0 00001 01: both device 1, pin 1. Then an NMI of it.
    ++ ((0x03 ∷ 0x00 ∷ 0x00 ∷ 0x00 ∷ 0x00 ∷ 0x85 ∷ 0x03 ∷ 0x12 ∷ [])
    ++ ((0x03 ∷ 0x00 ∷ 0x00 ∷ 0x00 ∷ 0x00 ∷ 0x05 ∷ 0x02 ∷ 0x11 ∷ [])
    ++ ((0x03 ∷ 0x01 ∷ 0x00 ∷ 0x00 ∷ 0x00 ∷ 0x05 ∷ 0x02 ∷ 0x13 ∷ [])
    -- An NMI of bus 0, 0Ah, bits 0 00010 10: device 2, pin 2.
    ++ ((0x03 ∷ 0x01 ∷ 0x00 ∷ 0x00 ∷ 0x00 ∷ 0x0a ∷ 0x02 ∷ 0x14 ∷ [])
    -- Bus 0, 00h: device 0, pin 0, to 255. Then 43h, bits 0 10000 11: device 16, pin 3, to the disabled one.
    ++ ((0x03 ∷ 0x00 ∷ 0x00 ∷ 0x00 ∷ 0x00 ∷ 0x00 ∷ 0xff ∷ 0x15 ∷ [])
    ++ ((0x03 ∷ 0x00 ∷ 0x00 ∷ 0x00 ∷ 0x00 ∷ 0x43 ∷ 0x05 ∷ 0x16 ∷ [])
    -- IRQ 12 of the ISA bus.
    ++ ((0x03 ∷ 0x00 ∷ 0x00 ∷ 0x00 ∷ 0x07 ∷ 0x0c ∷ 0x02 ∷ 0x17 ∷ [])
    -- Bus 4, 05h: device 1, pin 1 there. Then an ExtINT of 80h, bits 1 00000 00: device 0, pin 0.
    ++ ((0x03 ∷ 0x00 ∷ 0x00 ∷ 0x00 ∷ 0x04 ∷ 0x05 ∷ 0x02 ∷ 0x18 ∷ [])
    ++ (0x03 ∷ 0x03 ∷ 0x00 ∷ 0x00 ∷ 0x04 ∷ 0x80 ∷ 0x03 ∷ 0x19 ∷ [])))))))))

-- A local one of bus 0, 09h, bits 0 00010 01.
abbrev local_interrupt : List ℕ
local_interrupt = 0x04 ∷ 0x00 ∷ 0x00 ∷ 0x00 ∷ 0x00 ∷ 0x09 ∷ 0xff ∷ 0x01 ∷ []

-- 200 bytes and 18 entries: the header is the bench board's with these. Modulo 256 the header's bytes but the checksum add to
-- 6Ch, the processor's to 2Ah, the buses' to C3h, the I/O APICs' to AFh, the interrupts' to 05h and the local one's to 0Dh; in
-- all that is 1Ah, so E6h is the checksum.
abbrev pci_table : List ℕ
pci_table =
    set (set (set header 4 0xc8) 7 0xe6) 34 0x12
    ++ (processor ++ (buses ++ (io_apics ++ (interrupts ++ local_interrupt))))

-- The same with a wrong checksum.
abbrev wrong_sum : List ℕ
wrong_sum = set pci_table 7 0xe7

-- Device and pin of an interrupt that has such a source IRQ.
abbrev unpacked : ℕ → List ℕ
unpacked irq = device_of (set interrupt 5 irq) ∷ pin_of (set interrupt 5 irq) ∷ []

-- So many bytes that hold EEh.
abbrev room : ℕ → List ℕ
room size = replicate size 0xee

-- What the query of a table answers and leaves in a room of so many bytes.
abbrev query : List ℕ → Slot → ℕ → List ℕ
query t s size = lent_numbers (slot_routed s t (room size)) ++ slot_routes_left s t (room size)

-- The listing, as the query.
abbrev listing : List ℕ → ℕ → List ℕ
listing t size = lent_numbers (slots_listed t (room size)) ++ slots_left t (room size)

-- The route query: INT, bus 0 and a whole byte, in a room of two.
abbrev route : ℕ → List ℕ
route irq =
    lent_numbers (routed (question io_side 0 0 irq) pci_table (room 2)) ++ routes_left (question io_side 0 0 irq) pci_table (room 2)

-- The slots of the board, by bus, device and pin.
abbrev slots_of_board : List ℕ
slots_of_board =
    (0 ∷ 0 ∷ 0 ∷ [])
    ++ ((0 ∷ 1 ∷ 1 ∷ [])
    ++ ((0 ∷ 2 ∷ 2 ∷ [])
    ++ ((0 ∷ 16 ∷ 3 ∷ []) ++ ((4 ∷ 0 ∷ 0 ∷ []) ++ ((4 ∷ 1 ∷ 1 ∷ []) ++ (4 ∷ 31 ∷ 3 ∷ []))))))

unfoldable pub slot_cases : List Row
slot_cases =
    -- "bits 0-1 the pin": 00h to 03h.
    gives (joined unpacked (0x00 ∷ 0x01 ∷ 0x02 ∷ 0x03 ∷ [])) (0 ∷ 0 ∷ 0 ∷ 1 ∷ 0 ∷ 2 ∷ 0 ∷ 3 ∷ [])
    -- "bits 2-6 the device": each bit by itself, and all, without the pin's and with them.
    ∷ gives (joined unpacked (0x04 ∷ 0x08 ∷ 0x10 ∷ 0x20 ∷ 0x40 ∷ [])) (1 ∷ 0 ∷ 2 ∷ 0 ∷ 4 ∷ 0 ∷ 8 ∷ 0 ∷ 16 ∷ 0 ∷ [])
    ∷ gives (joined unpacked (0x7c ∷ 0x7f ∷ [])) (31 ∷ 0 ∷ 31 ∷ 3 ∷ [])
    -- "bit 7 reserved": by itself, and beside the others.
    ∷ gives (joined unpacked (0x80 ∷ 0x85 ∷ 0xff ∷ [])) (0 ∷ 0 ∷ 1 ∷ 1 ∷ 31 ∷ 3 ∷ [])
    -- The board is accepted.
    ∷ gives (judged_numbers (judged pci_table)) (0 ∷ [])
    -- 85h and 05h are one slot, and their pairs stand in table order; the NMI has none. Of a longer room the rest stays; one as
    -- long as the pairs will do, and one byte less is 19.
    ∷ gives (query pci_table (slot 0 1 1) 6) (0 ∷ 2 ∷ 3 ∷ 0x12 ∷ 2 ∷ 0x11 ∷ 0xee ∷ 0xee ∷ [])
    ∷ gives (query pci_table (slot 0 1 1) 4) (0 ∷ 2 ∷ 3 ∷ 0x12 ∷ 2 ∷ 0x11 ∷ [])
    ∷ gives (query pci_table (slot 0 1 1) 3) (19 ∷ room 3)
    -- "Existing routes still compare the whole byte."
    ∷ gives (route 0x05 ++ route 0x85) (0 ∷ 1 ∷ 2 ∷ 0x11 ∷ 0 ∷ 1 ∷ 3 ∷ 0x12 ∷ [])
    -- The same device and pin of the other bus, and the last ones.
    ∷ gives (query pci_table (slot 4 1 1) 2) (0 ∷ 1 ∷ 2 ∷ 0x18 ∷ [])
    ∷ gives (query pci_table (slot 4 31 3) 2) (0 ∷ 1 ∷ 2 ∷ 0x10 ∷ [])
    -- 255 names both enabled ones; the disabled one gets no pair.
    ∷ gives (query pci_table (slot 0 0 0) 4) (0 ∷ 2 ∷ 2 ∷ 0x15 ∷ 3 ∷ 0x15 ∷ [])
    ∷ gives (query pci_table (slot 0 16 3) 2) (0 ∷ 0 ∷ room 2)
    -- An NMI alone, an ExtINT alone, a local interrupt alone: no pair.
    ∷ gives (query pci_table (slot 0 2 2) 2) (0 ∷ 0 ∷ room 2)
    ∷ gives (query pci_table (slot 4 0 0) 2) (0 ∷ 0 ∷ room 2)
    ∷ gives (query pci_table (slot 0 2 1) 2) (0 ∷ 0 ∷ room 2)
    -- 24 before 25: bus 1 is not listed, and there are no such device and pin.
    ∷ gives (query pci_table (slot 1 32 4) 0) (24 ∷ [])
    -- 25 before 19: the ISA bus, whose IRQ 12 would be device 3 and pin 0; device 32; pin 4. No room is written.
    ∷ gives (query pci_table (slot 7 3 0) 0) (25 ∷ [])
    ∷ gives (query pci_table (slot 0 32 0) 0) (25 ∷ [])
    ∷ gives (query pci_table (slot 0 0 4) 0) (25 ∷ [])
    ∷ gives (query pci_table (slot 7 3 0) 2) (25 ∷ room 2)
    -- The listing: every interrupt type, and to the disabled one too; nothing of the ISA bus, nor of the local interrupt. The
    -- rooms are as those of the query above.
    ∷ gives (listing pci_table 23) (0 ∷ 7 ∷ slots_of_board ++ (0xee ∷ 0xee ∷ []))
    ∷ gives (listing pci_table 21) (0 ∷ 7 ∷ slots_of_board)
    ∷ gives (listing pci_table 20) (19 ∷ room 20)
    -- The bench board has no PCI bus.
    ∷ gives (listing table 0) (0 ∷ 0 ∷ [])
    -- The table's own number is first.
    ∷ gives (query wrong_sum (slot 1 32 4) 0 ++ listing wrong_sum 0) (8 ∷ 8 ∷ [])
    ∷ []
