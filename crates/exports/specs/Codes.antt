-- An answer as one number for C, what C takes out of it again, and the arguments of a call from C as the definitions take
-- them. include/ruxtajma.h says the same in its words.
use Rattle.std.specs.Prelude.{ℕ, zero, suc, ◌+◌, ◌-◌, ◌/◌, ◌%◌, ◌^◌, List, [], ◌∷◌, get_or, eqb, Result, Ok, Err, Option}
use Rattle.packs.specs.Packs.{packed, taken}
use Rattle.mps.specs.Words.{exactly, only}
use Rattle.mps.specs.Refusals.{inner_number}
use Rattle.mps.specs.Answers.{numbers_of, judged_numbers, lent_numbers, found_numbers, parted_numbers, renumbered_numbers, seen_numbers, edited_numbers, booked_numbers, latest_numbers, body_numbers}
use Rattle.mps.specs.declared.refusals.Refusal.{Refusal}
use Rattle.mps.specs.declared.refusals.EditRefusal.{EditRefusal}
use Rattle.mps.specs.declared.Fields.{Fields}
use Rattle.mps.specs.declared.Parted.{Parted}
use Rattle.mps.specs.declared.Renumbered.{Renumbered}
use Rattle.mps.specs.declared.Seen.{Seen}
use Rattle.mps.specs.declared.Booked.{Booked}
use Rattle.mps.specs.declared.Body.{Body}
use Rattle.mps.specs.declared.Held.{Held}
use Rattle.mps.specs.declared.Held.TheVariants.{Default, Table}

-- ---- The rows: how many bits each value of an answer has, from bit 16 on, the first in the lowest

abbrev pub count_row : List ℕ
count_row = 48 ∷ []

-- Where the parts of a table end; how many numbers are given, and how many used; the rows and the bytes of a book; how long a
-- body is, and where it begins.
abbrev pub pair_row : List ℕ
pair_row = 16 ∷ 32 ∷ []

abbrev pub seen_row : List ℕ
seen_row = 8 ∷ 40 ∷ []

abbrev pub held_row : List ℕ
held_row = 8 ∷ 8 ∷ 16 ∷ 16 ∷ []

abbrev pub addresses_row : List ℕ
addresses_row = 32 ∷ 32 ∷ []

-- An edit has no values; it alone has something for the second byte, the inner number.
abbrev pub edited_row : List ℕ
edited_row = 8 ∷ 8 ∷ []

-- ---- The code of an answer

-- From its numbers: the refusal's in the low byte, 0 in the second, the values above by their row.
abbrev pub coded : List ℕ → List ℕ → ℕ
coded row [] = 0
coded row (number ∷ values) = packed (8 ∷ 8 ∷ row) (number ∷ 0 ∷ values)

unfoldable pub judged_code : Result (Unit {0}) Refusal → ℕ
judged_code answer = coded [] (judged_numbers answer)

unfoldable pub lent_code : Result ℕ Refusal → ℕ
lent_code answer = coded count_row (lent_numbers answer)

unfoldable pub found_code : Option ℕ → ℕ
found_code answer = coded count_row (found_numbers answer)

unfoldable pub parted_code : Result Parted Refusal → ℕ
parted_code answer = coded pair_row (parted_numbers answer)

unfoldable pub renumbered_code : Result Renumbered Refusal → ℕ
renumbered_code answer = coded pair_row (renumbered_numbers answer)

unfoldable pub booked_code : Result Booked Refusal → ℕ
booked_code answer = coded pair_row (booked_numbers answer)

unfoldable pub latest_code : Result ℕ Refusal → ℕ
latest_code answer = coded count_row (latest_numbers answer)

unfoldable pub body_code : Result Body Refusal → ℕ
body_code answer = coded pair_row (body_numbers answer)

unfoldable pub seen_code : Result Seen Refusal → ℕ
seen_code answer = coded seen_row (seen_numbers answer)

unfoldable pub edited_code : Result (Unit {0}) EditRefusal → ℕ
edited_code answer = packed edited_row (edited_numbers answer)

-- What a dump holds is told in two codes. The first has the number of a default configuration, 0 for a table; the IMCR bit;
-- then where a table begins, and how many bytes lie from there to the end of its region.
abbrev pub held_shown : Held → List ℕ
held_shown (Default number imcr) = number ∷ imcr ∷ []
held_shown (Table pointer imcr address start end) = 0 ∷ imcr ∷ start ∷ (end - start) ∷ []

unfoldable pub held_code : Result Held Refusal → ℕ
held_code answer = coded held_row (numbers_of held_shown answer)

-- The second is the one code with no refusal in it: the table's address and the floating pointer's.
abbrev pub held_addresses : Result Held Refusal → List ℕ
held_addresses (Ok (Default number imcr)) = []
held_addresses (Ok (Table pointer imcr address start end)) = address ∷ pointer ∷ []
held_addresses (Err refusal) = []

unfoldable pub addresses_code : Result Held Refusal → ℕ
addresses_code answer = packed addresses_row (held_addresses answer)

-- ---- What C takes out of a code: the functions of the header, by shifts and masks there

abbrev pub refusal_in : ℕ → ℕ
refusal_in code = code % 2 ^ 8

abbrev pub values_in : ℕ → ℕ
values_in code = code / 2 ^ 16

-- The values are there where nothing is refused.
abbrev pub answered : ℕ → List ℕ → List ℕ
answered zero values = 0 ∷ values
answered (suc n) values = suc n ∷ []

-- The numbers of an answer, as mps's specs/Answers.antt has them.
unfoldable pub numbers_in : List ℕ → ℕ → List ℕ
numbers_in row code = answered (refusal_in code) (taken row (values_in code))

-- The inner number is there at 23.
abbrev pub edited_from : List ℕ → List ℕ
edited_from [] = []
edited_from (number ∷ inner) = number ∷ only (eqb number inner_number) inner

unfoldable pub edited_in : ℕ → List ℕ
edited_in code = edited_from (taken edited_row code)

-- A default has a number, which is not 0.
abbrev pub held_values : ℕ → ℕ → ℕ → ℕ → ℕ → ℕ → List ℕ
held_values zero imcr start size address pointer = pointer ∷ imcr ∷ address ∷ start ∷ (start + size) ∷ []
held_values (suc number) imcr start size address pointer = suc number ∷ imcr ∷ []

abbrev pub held_from : List ℕ → List ℕ → List ℕ
held_from p a = held_values (get_or p 0 0) (get_or p 1 0) (get_or p 2 0) (get_or p 3 0) (get_or a 0 0) (get_or a 1 0)

unfoldable pub held_in : ℕ → ℕ → List ℕ
held_in code addresses = answered (refusal_in code) (held_from (taken held_row (values_in code)) (taken addresses_row addresses))

-- ---- Arguments

-- Eight bytes are taken of the OEM ID, and twelve of the product.
abbrev pub fields_given : List ℕ → List ℕ → ℕ → ℕ → ℕ → ℕ → Fields
fields_given oem product pointer size apic reserved =
    record { oem = exactly 8 oem; product = exactly 12 product; pointer = pointer; size = size; apic = apic; reserved = reserved }
