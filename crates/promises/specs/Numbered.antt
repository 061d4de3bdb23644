-- Demand 1: a call "ends with an answer or a numbered refusal of document 01". Which numbers each call may give, as the
-- paper's paragraph behind its table says, and document 02 of what it asks for.
use Rattle.std.specs.Prelude.{ℕ, ◌≡◌, true, List, [], ◌∷◌, ◌++◌}
use Rattle.mps.specs.Words.{among}

-- An answer is made of the call's number, which is 0 or among those of a list. `of` makes the answer of a number: of 0 what is
-- answered, of any other the refusal with it. So no refusal has the number 0.
pub record OneOf {X : Type 0} (of : ℕ → X) (number : ℕ) (numbers : List ℕ) (answer : X) : Type 0 where
  pub made : answer ≡ of number
  pub known : among number (0 ∷ numbers) ≡ true

-- "A bare table in a lent buffer is judged as one region holding the buffer: numbers 5 to 18."
abbrev pub table_numbers : List ℕ
table_numbers = 5 ∷ 6 ∷ 7 ∷ 8 ∷ 9 ∷ 10 ∷ 11 ∷ 12 ∷ 13 ∷ 14 ∷ 15 ∷ 16 ∷ 17 ∷ 18 ∷ []

-- 1 to 4: the dump and its pointer.
abbrev pub pointer_numbers : List ℕ
pointer_numbers = 1 ∷ 2 ∷ 3 ∷ 4 ∷ []

-- "Edits test the table, then 20 to 23"
abbrev pub edit_numbers : List ℕ
edit_numbers = table_numbers ++ (20 ∷ 21 ∷ 22 ∷ 23 ∷ [])

-- "queries test the table, then 24, then 19": an address query has no room.
abbrev pub address_numbers : List ℕ
address_numbers = table_numbers ++ (24 ∷ [])

abbrev pub route_numbers : List ℕ
route_numbers = table_numbers ++ (24 ∷ 19 ∷ [])

-- Of a PCI slot, "25, .. after 24 and before 19"; the listing of slots tests the table and 19 (document 02, ask 1).
abbrev pub slot_numbers : List ℕ
slot_numbers = table_numbers ++ (24 ∷ 25 ∷ 19 ∷ [])

abbrev pub slots_numbers : List ℕ
slots_numbers = table_numbers ++ (19 ∷ [])

-- The new numbers of I/O APICs: "26, .. last" (document 02, ask 2).
abbrev pub renumber_numbers : List ℕ
renumber_numbers = table_numbers ++ (19 ∷ 26 ∷ [])

-- The dump reader: 1 to 18.
abbrev pub read_numbers : List ℕ
read_numbers = pointer_numbers ++ table_numbers

-- "the listing tests 1 to 18, then 19"
abbrev pub list_numbers : List ℕ
list_numbers = pointer_numbers ++ (table_numbers ++ (19 ∷ []))

-- The program's text is refused by a room too small alone.
abbrev pub print_numbers : List ℕ
print_numbers = 19 ∷ []

-- The tables of the default configurations: "30, number not 1 to 7 or boot processor not 0 or 1, .. before 19" (document 02,
-- ask 6).
abbrev pub make_numbers : List ℕ
make_numbers = 30 ∷ 19 ∷ []

-- The full listing: ".. after 4 and before 19".
abbrev pub full_numbers : List ℕ
full_numbers = pointer_numbers ++ (table_numbers ++ (30 ∷ 19 ∷ []))

-- "It refuses 7 if the base would pass 4,096, 13 if the extended part would, then 19 ..; then the finished image is judged":
-- the header that the writer makes passes 5 to 9.
abbrev pub later_numbers : List ℕ
later_numbers = 10 ∷ 11 ∷ 12 ∷ 13 ∷ 14 ∷ 15 ∷ 16 ∷ 17 ∷ 18 ∷ []

abbrev pub write_numbers : List ℕ
write_numbers = 7 ∷ 13 ∷ 19 ∷ later_numbers

-- The book of earlier tables (document 02, ask 3): "27 bad book ..; then the new body's own number, or 7 if bytes follow the
-- table; 28 not the latest, or an edition to restore that the book doesn't hold; 29 ..".
abbrev pub book_numbers : List ℕ
book_numbers = 27 ∷ []

abbrev pub edition_numbers : List ℕ
edition_numbers = 27 ∷ 28 ∷ []

abbrev pub history_numbers : List ℕ
history_numbers = 27 ∷ 19 ∷ []

abbrev pub save_numbers : List ℕ
save_numbers = 27 ∷ table_numbers ++ (7 ∷ 28 ∷ 29 ∷ [])

abbrev pub restore_numbers : List ℕ
restore_numbers = 27 ∷ 28 ∷ 29 ∷ []
