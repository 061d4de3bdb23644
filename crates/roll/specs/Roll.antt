-- The roll: a number for each ID from 0 to 255, whose bits say who has that ID.
use Rattle.std.specs.Prelude.{ℕ, ◌^◌, ◌<◌, ◌≡◌, Bool, List, [], ◌∷◌, get_or, set}
use Rattle.std.specs.Int.Bits.{bit_or}
use Rattle.mps.specs.Words.{bit, among}

-- ---- The bits

-- A processor has the ID, enabled or not.
abbrev pub processor_bit : ℕ
processor_bit = 0

-- An enabled processor has it, or none may; on the roll of a route query, an enabled APIC of the side that is asked.
abbrev pub taken_bit : ℕ
taken_bit = 1

-- An I/O APIC has it, enabled or not.
abbrev pub io_apic_bit : ℕ
io_apic_bit = 2

-- A bus has it.
abbrev pub bus_bit : ℕ
bus_bit = 3

-- An enabled I/O APIC has it, or none may.
abbrev pub io_taken_bit : ℕ
io_taken_bit = 4

-- The number that has one bit.
abbrev pub mark : ℕ → ℕ
mark k = 2 ^ k

-- ---- The roll

-- Whether bit k is set at an ID.
unfoldable pub marked : ℕ → List ℕ → ℕ → Bool
marked k roll x = bit k (get_or roll x 0)

-- The roll with the bits of a number set at an ID, beside those that were.
unfoldable pub with_marks : ℕ → List ℕ → ℕ → List ℕ
with_marks marks roll x = set roll x (bit_or (get_or roll x 0) marks)

-- Bit k is set at exactly the IDs of which a test holds.
abbrev pub Shows : ℕ → List ℕ → (ℕ → Bool) → Type 0
Shows k roll test = (y : ℕ) → y < 256 → marked k roll y ≡ test y

-- A roll with bit k set at each of some IDs, one after the other. (`called` of Calls looks for wrong entries; here none can be.)
unfoldable pub enrolled : ℕ → List ℕ → List ℕ → List ℕ
enrolled k roll [] = roll
enrolled k roll (x ∷ ids) = enrolled k (with_marks (mark k) roll x) ids

-- They are on the roll, and no others.
abbrev pub OnRoll : ℕ → List ℕ → List ℕ → Type 0
OnRoll k roll ids = Shows k roll (λ (x : ℕ). among x ids)
