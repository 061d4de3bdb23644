-- A request and an answer as the program holds them: docs/ANSWERS.md.
use Rattle.std.specs.Prelude.{ℕ, ◌+◌, ◌*◌, List, [], ◌∷◌}
use Rattle.mps.specs.Numbers.{le}
use Rattle.mps.specs.declared.Fields.{Fields as HeaderFields}
use Rattle.answers.specs.declared.request.Head.{Head}
use Rattle.answers.specs.declared.reply.Answer.{Answer}
use Rattle.answers.specs.declared.reply.Answer.TheVariants.{One, Two, Fields}

-- ---- Requests

-- What each of the three buffers has room for.
abbrev pub most : ℕ
most = 2097152

-- The length of a slice, counted from 0, as the head has it.
abbrev pub length_of : Head → ℕ → ℕ
length_of q i = le 4 q.bytes (65 + 4 * i)

-- The second, third and fourth slice stand one behind the other in the middle.
unfoldable pub middle_of : Head → ℕ
middle_of q = length_of q 1 + length_of q 2 + length_of q 3

-- ---- Answers

-- The values that an answer carries, and no other.
abbrev pub values_of : Answer → List ℕ
values_of (One values) = values
values_of (Two values) = values
values_of (Fields values) = values

-- The header fields of a table: the two texts are given as numbers, the product's as two.
abbrev pub fields_numbers : HeaderFields → List ℕ
fields_numbers f =
    le 8 f.oem 0 ∷ le 8 f.product 0 ∷ le 4 f.product 8 ∷ f.pointer ∷ f.size ∷ f.apic ∷ f.reserved ∷ []
