-- The answers as numbers. Document 01: "Where an answer is an enum, a definition gives this paper's number and values for
-- each of its cases. The promises use this definition." First the refusal's number, 0 where there is none; then the values,
-- in the order in which the enum has them.
use Rattle.std.specs.Prelude.{ℕ, zero, suc, cond, List, [], ◌∷◌, eqb, Result, Ok, Err, Option, Some, None}
use Rattle.mps.specs.Words.{head}
use Rattle.mps.specs.Refusals.{inner_number}
use Rattle.mps.specs.Reasons.{number_of_refusal, refusal_numbered}
use Rattle.mps.specs.declared.refusals.Refusal.{Refusal}
use Rattle.mps.specs.declared.refusals.EditRefusal.{EditRefusal}
use Rattle.mps.specs.declared.refusals.EditRefusal.TheVariants.{Refused, Inner}
use Rattle.mps.specs.declared.Sections.{Sections}
use Rattle.mps.specs.declared.Held.{Held}
use Rattle.mps.specs.declared.Held.TheVariants.{Default, Table}
use Rattle.mps.specs.declared.Parted.{Parted}
use Rattle.mps.specs.declared.Renumbered.{Renumbered}
use Rattle.mps.specs.declared.Seen.{Seen}
use Rattle.mps.specs.declared.Seen.TheVariants.{No, Yes, Undeclared}
use Rattle.mps.specs.declared.Booked.{Booked}
use Rattle.mps.specs.declared.Body.{Body}

-- The number of an answer is the first: the refusal's, or 0.
abbrev pub number_of : List ℕ → ℕ
number_of numbers = head 0 numbers

-- ---- From a number to what a call answers

-- What is answered where the number is 0, and else the refusal of that number.
abbrev pub answered : {A : Type 0} → ℕ → A → Result A Refusal
answered zero answer = Ok answer
answered (suc n) answer = Err (refusal_numbered (suc n))

-- An edit that would spoil the table tells the inner number too.
abbrev pub edited_of : ℕ → ℕ → Result (Unit {0}) EditRefusal
edited_of zero inner = Ok tt
edited_of (suc n) inner = Err (cond (eqb (suc n) inner_number) (Inner (refusal_numbered inner)) (Refused (refusal_numbered (suc n))))

-- The reader refuses nothing: the length of the entry, or none.
abbrev pub found_of : ℕ → Option ℕ
found_of zero = None
found_of (suc n) = Some (suc n)

-- ---- From what is answered to the paper's numbers

-- A refusal has its number alone.
abbrev pub numbers_of : {A : Type 0} → (A → List ℕ) → Result A Refusal → List ℕ
numbers_of values (Ok answer) = 0 ∷ values answer
numbers_of values (Err refusal) = number_of_refusal refusal ∷ []

abbrev pub judged_numbers : Result (Unit {0}) Refusal → List ℕ
judged_numbers = numbers_of (λ _. [])

-- The places in the order in which the sections stand.
abbrev pub examined_numbers : Result Sections Refusal → List ℕ
examined_numbers =
    numbers_of (λ s. s.buses ∷ s.ioapics ∷ s.interrupts ∷ s.locals ∷ s.mappings ∷ s.links ∷ s.modifiers ∷ s.others ∷ s.end ∷ [])

-- A default has two values and a table five.
abbrev pub held_values : Held → List ℕ
held_values (Default number imcr) = number ∷ imcr ∷ []
held_values (Table pointer imcr address start end) = pointer ∷ imcr ∷ address ∷ start ∷ end ∷ []

abbrev pub held_numbers : Result Held Refusal → List ℕ
held_numbers = numbers_of held_values

abbrev pub lent_numbers : Result ℕ Refusal → List ℕ
lent_numbers = numbers_of (λ count. count ∷ [])

abbrev pub parted_numbers : Result Parted Refusal → List ℕ
parted_numbers = numbers_of (λ p. p.base ∷ p.end ∷ [])

-- "a byte for each enabled one", and "how many bits are set at the end".
abbrev pub renumbered_numbers : Result Renumbered Refusal → List ℕ
renumbered_numbers = numbers_of (λ r. r.count ∷ r.used ∷ [])

-- The paper names the three answers and gives them no numbers: no is 0, yes is 1, undeclared is 2. Then the links climbed.
abbrev pub seen_values : Seen → List ℕ
seen_values (No links) = 0 ∷ links ∷ []
seen_values (Yes links) = 1 ∷ links ∷ []
seen_values (Undeclared links) = 2 ∷ links ∷ []

abbrev pub seen_numbers : Result Seen Refusal → List ℕ
seen_numbers = numbers_of seen_values

-- "The answer carries how many links to parents were climbed".
abbrev pub links_in : Seen → ℕ
links_in (No k) = k
links_in (Yes k) = k
links_in (Undeclared k) = k

-- Those that an answer carries; a refusal has none.
abbrev pub links_of : Result Seen Refusal → ℕ
links_of (Ok seen) = links_in seen
links_of (Err refusal) = 0

-- "23 .. the inner number is given too"
abbrev pub edited_numbers : Result (Unit {0}) EditRefusal → List ℕ
edited_numbers (Ok _) = 0 ∷ []
edited_numbers (Err (Refused refusal)) = number_of_refusal refusal ∷ []
edited_numbers (Err (Inner refusal)) = inner_number ∷ number_of_refusal refusal ∷ []

-- The length of the entry, 0 where there is none.
abbrev pub found_numbers : Option ℕ → List ℕ
found_numbers (Some size) = 0 ∷ size ∷ []
found_numbers None = 0 ∷ 0 ∷ []

-- How many rows a book has, and how many bytes.
abbrev pub booked_numbers : Result Booked Refusal → List ℕ
booked_numbers = numbers_of (λ b. b.rows ∷ b.size ∷ [])

abbrev pub latest_numbers : Result ℕ Refusal → List ℕ
latest_numbers = numbers_of (λ edition. edition ∷ [])

-- How many bytes a body has, and where the first of them stands.
abbrev pub body_numbers : Result Body Refusal → List ℕ
body_numbers = numbers_of (λ b. b.size ∷ b.start ∷ [])
