-- Document 02, ask 3: the book of earlier tables, worked out by hand. The bench board is edition 1 of machine 7, and edition 2
-- is the bench board with P5's edit; their books are spelled out. Behind a call's answer stands all that it leaves in the room.
use Rattle.std.specs.Prelude.{ℕ, List, [], ◌∷◌, ◌++◌, set, replicate, take}
use Rattle.mps.specs.Words.{flag, each}
use Rattle.mps.specs.Book.{Row as Edition, BookLayout, layout1, book_of}
use Rattle.mps.specs.History.{booked, latest_told, body_told, history_told, history_left}
use Rattle.mps.specs.Saving.{book_full, Ask, save, restore, added, add_left, add_run}
use Rattle.mps.specs.Answers.{number_of, lent_numbers, booked_numbers, latest_numbers, body_numbers}
use Rattle.board.specs.Board.{table}
use Rattle.board.specs.Cases.{Row, gives}

-- ---- Books

-- P5: the input at 87 is 9 in place of 1, so the byte at 7 is B8h.
abbrev edited : List ℕ
edited = set (set table 87 0x09) 7 0xb8

-- One row: the body begins at 3 + 8 = 11 = 0Bh and has 96 = 60h bytes.
abbrev one : List ℕ
one = (0x01 ∷ 0x01 ∷ 0x00 ∷ []) ++ ((0x07 ∷ 0x00 ∷ 0x01 ∷ 0x00 ∷ 0x0b ∷ 0x00 ∷ 0x60 ∷ 0x00 ∷ []) ++ table)

-- Two rows: the bodies begin at 3 + 16 = 19 = 13h and at 19 + 96 = 115 = 73h.
abbrev two_with : List ℕ → List ℕ
two_with body =
    (0x01 ∷ 0x02 ∷ 0x00 ∷ [])
    ++ ((0x07 ∷ 0x00 ∷ 0x01 ∷ 0x00 ∷ 0x13 ∷ 0x00 ∷ 0x60 ∷ 0x00 ∷ [])
    ++ ((0x07 ∷ 0x00 ∷ 0x02 ∷ 0x00 ∷ 0x73 ∷ 0x00 ∷ 0x60 ∷ 0x00 ∷ []) ++ (table ++ body)))

abbrev two : List ℕ
two = two_with edited

-- The book that rows make.
abbrev made : List Edition → List ℕ
made rows = book_of layout1 rows

abbrev row : ℕ → ℕ → List ℕ → Edition
row machine edition body = record { machine = machine; edition = edition; body = body }

-- Of two rows, sound but for their machines and editions; and of one, sound but for its body.
abbrev pair : ℕ → ℕ → ℕ → ℕ → List ℕ
pair machine edition other next = made (row machine edition table ∷ row other next edited ∷ [])

abbrev lone : List ℕ → List ℕ
lone body = made (row 7 1 body ∷ [])

-- So many bytes that hold EEh.
abbrev room : ℕ → List ℕ
room size = replicate size 0xee

-- Layout 1 with another "At most 32,768 bytes", so that the limit is seen on short books.
abbrev at_most : ℕ → BookLayout
at_most most = record { mark = 1; width = 2; most = most }

-- ---- What is asked of a book

-- Its rows and bytes, or 27.
abbrev counts : List ℕ → List ℕ
counts s = booked_numbers (booked layout1 s)

-- 27 or 0.
abbrev bad : List ℕ → ℕ
bad s = number_of (counts s)

abbrev newest : List ℕ → ℕ → List ℕ
newest s machine = latest_numbers (latest_told layout1 s machine)

abbrev stands : List ℕ → ℕ → ℕ → List ℕ
stands s machine edition = body_numbers (body_told layout1 s machine edition)

abbrev history : List ℕ → ℕ → List ℕ
history s size = lent_numbers (history_told layout1 s (room size)) ++ history_left layout1 s (room size)

unfoldable pub book_cases : List Row
book_cases =
    -- "one byte of value 1 (layout), number of rows (two bytes), then rows of machine, edition, offset and length (two bytes
    -- each), then the bodies in row order, with nothing between."
    gives (made []) (0x01 ∷ 0x00 ∷ 0x00 ∷ [])
    ∷ gives (made (row 7 1 table ∷ [])) one
    ∷ gives (made (row 7 1 table ∷ row 7 2 edited ∷ [])) two
    -- They are good. "what follows isn't read"
    ∷ gives (counts (made []) ++ counts one) (0 ∷ 0 ∷ 3 ∷ 0 ∷ 1 ∷ 107 ∷ [])
    ∷ gives (counts (two ++ room 2)) (0 ∷ 2 ∷ 211 ∷ [])
    -- The latest edition: 0 of a machine that is not there.
    ∷ gives (newest one 7 ++ newest two 7 ++ newest two 8) (0 ∷ 1 ∷ 0 ∷ 2 ∷ 0 ∷ 0 ∷ [])
    -- Where a body stands: 28 for one that the book does not hold.
    ∷ gives (stands one 7 1) (0 ∷ 96 ∷ 11 ∷ [])
    ∷ gives (stands two 7 1 ++ stands two 7 2) (0 ∷ 96 ∷ 19 ∷ 0 ∷ 96 ∷ 115 ∷ [])
    ∷ gives (stands two 7 0 ++ stands two 7 3 ++ stands two 8 1) (28 ∷ 28 ∷ 28 ∷ [])
    -- The history, twelve bytes a row: of a longer room the rest stays, and one byte less is 19.
    ∷ gives (history one 13) (0 ∷ 1 ∷ 7 ∷ 0 ∷ 1 ∷ 0 ∷ 11 ∷ 0 ∷ 0 ∷ 0 ∷ 96 ∷ 0 ∷ 0 ∷ 0 ∷ 0xee ∷ [])
    ∷ gives (history one 11) (19 ∷ room 11)
    ∷ gives (history (made []) 0) (0 ∷ 0 ∷ [])
    -- 27: a room under three bytes, and another layout; before 28 and 19.
    ∷ gives (each bad ([] ∷ take 2 one ∷ set one 0 0 ∷ set one 0 2 ∷ [])) (27 ∷ 27 ∷ 27 ∷ 27 ∷ [])
    ∷ gives (newest (set one 0 2) 7 ++ stands (set one 0 2) 8 1 ++ history (set one 0 2) 0) (27 ∷ 27 ∷ 27 ∷ [])
    -- Of the room a byte of the body is missing, or of the row; the number of rows is one more.
    ∷ gives (each bad (take 106 one ∷ take 10 one ∷ set one 1 2 ∷ [])) (27 ∷ 27 ∷ 27 ∷ [])
    -- "At most 32,768 bytes": here 107, and 106 and 10, which the body and the row pass.
    ∷ gives (booked_numbers (booked (at_most 107) one)) (0 ∷ 1 ∷ 107 ∷ [])
    ∷ gives (booked_numbers (booked (at_most 106) one) ++ booked_numbers (booked (at_most 10) one)) (27 ∷ 27 ∷ [])
    -- An offset that is not where the body before it ends: of the first body and of the second, one less and one more.
    ∷ gives (each bad (set one 7 10 ∷ set one 7 12 ∷ set two 15 0x72 ∷ set two 15 0x74 ∷ [])) (27 ∷ 27 ∷ 27 ∷ 27 ∷ [])
    -- "with nothing between": a byte stands before the body, and the offset tells of it.
    ∷ gives (bad (take 7 one ++ (0x0c ∷ 0x00 ∷ 0x60 ∷ 0x00 ∷ 0x00 ∷ table)) ∷ []) (27 ∷ [])
    -- "editions run from 1 without a gap, rising in row order": from 0 or 2, twice the same, and falling. Then a gap.
    ∷ gives (each bad (pair 7 0 7 1 ∷ pair 7 2 7 3 ∷ pair 7 1 7 1 ∷ pair 7 2 7 1 ∷ [])) (27 ∷ 27 ∷ 27 ∷ 27 ∷ [])
    ∷ gives (bad (pair 7 1 7 3) ∷ []) (27 ∷ [])
    -- "A machine's": each has its own from 1.
    ∷ gives (each bad (pair 7 1 8 2 ∷ pair 0 1 65535 1 ∷ [])) (27 ∷ 0 ∷ [])
    -- "a bad body inside it too": no byte, one byte less, one behind the table, and a wrong sum.
    ∷ gives
    (each bad (lone [] ∷ lone (take 95 table) ∷ lone (table ++ (0 ∷ [])) ∷ lone (set table 7 0) ∷ []))
    (27 ∷ 27 ∷ 27 ∷ 27 ∷ [])
    ∷ []

-- ---- Saving and restoring

-- What a call answers, and leaves in a book and so many bytes behind it.
abbrev asked : List ℕ → ℕ → Ask → List ℕ
asked s size ask = booked_numbers (added layout1 (s ++ room size) ask) ++ add_left layout1 (s ++ room size) ask

-- All of it stays.
abbrev refused : ℕ → List ℕ → ℕ → List ℕ
refused number s size = number ∷ s ++ room size

-- Edition 2 saved, in a book of at most so many bytes.
abbrev within : ℕ → List ℕ
within most = booked_numbers (added (at_most most) (one ++ room 200) (save 7 1 edited))

-- Whether none can follow this edition: 1 or 0. No good book holds so many, but the test stands.
abbrev last_edition : ℕ → ℕ
last_edition n =
    flag (book_full layout1 (made (row 7 n table ∷ []) ++ room 200) (record { machine = 7; began = n; body = table }))

unfoldable pub save_cases : List Row
save_cases =
    -- "A save adds row and body last": into the empty book, and behind a row. Of a longer room the rest stays.
    gives (asked (made []) 104 (save 7 0 table)) (0 ∷ 1 ∷ 107 ∷ one)
    ∷ gives (asked one 106 (save 7 1 edited)) (0 ∷ 2 ∷ 211 ∷ two ++ room 2)
    -- "taken only if that is still the latest": of machine 7 that is neither 0 nor 2, and of a new machine not 1. 28 before 29.
    ∷ gives (asked one 104 (save 7 0 edited)) (refused 28 one 104)
    ∷ gives (asked one 0 (save 7 2 edited)) (refused 28 one 0)
    ∷ gives (asked one 104 (save 8 1 edited)) (refused 28 one 104)
    -- "29 exactly when the book with row and body would pass .. the lent room": a byte less than the two take.
    ∷ gives (asked one 103 (save 7 1 edited)) (refused 29 one 103)
    -- ".. would pass 32,768": here 211 and 210. ".. or edition 65,535 is reached"
    ∷ gives (within 211 ++ within 210) (0 ∷ 2 ∷ 211 ∷ 29 ∷ [])
    ∷ gives (last_edition 65534 ∷ last_edition 65535 ∷ []) (0 ∷ 1 ∷ [])
    -- "then the new body's own number, or 7 if bytes follow the table", before 28 and 29; 27 is before it.
    ∷ gives (asked one 0 (save 7 0 (set table 7 0))) (refused 8 one 0)
    ∷ gives (asked one 0 (save 7 0 (table ++ (0 ∷ [])))) (refused 7 one 0)
    ∷ gives (asked (set one 0 2) 0 (save 7 0 (set table 7 0))) (refused 27 (set one 0 2) 0)
    -- Restoring "saves the old body as a new edition": an old one, and the latest itself.
    ∷ gives (asked two 104 (restore 7 1 2)) (0 ∷ 3 ∷ 315 ∷ made (row 7 1 table ∷ row 7 2 edited ∷ row 7 3 table ∷ []))
    ∷ gives (asked one 104 (restore 7 1 1)) (0 ∷ 2 ∷ 211 ∷ two_with table)
    -- "28 not the latest, or an edition to restore that the book doesn't hold", before 29; 27 is before it.
    ∷ gives (asked two 0 (restore 7 1 1)) (refused 28 two 0)
    ∷ gives (asked one 0 (restore 7 0 1)) (refused 28 one 0)
    ∷ gives (asked one 0 (restore 8 1 0)) (refused 28 one 0)
    ∷ gives (asked one 103 (restore 7 1 1)) (refused 29 one 103)
    ∷ gives (asked (set one 0 2) 0 (restore 8 1 0)) (refused 27 (set one 0 2) 0)
    -- Two save from edition 1: the second is refused, and saves from edition 2. Then edition 1 is restored.
    ∷ gives
    (add_run layout1 (one ++ room 312) (save 7 1 edited ∷ save 7 1 table ∷ save 7 2 edited ∷ restore 7 1 3 ∷ []))
    (made (row 7 1 table ∷ row 7 2 edited ∷ row 7 3 edited ∷ row 7 4 table ∷ []))
    ∷ []
