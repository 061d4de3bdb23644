-- One answer in a lent room: this answer, or this number; and what the room then holds. Every call that is lent a room says
-- its answer so. Document 01: 19, "answer longer than the lent room"; "Answers and images start at their room's first byte;
-- what lies past them stays." Demand 1: "A refusal writes nothing into lent memory, with one exception": the writer is refused
-- here by what it tests before it writes, and a finished image that is refused is zeros (Writing, `finished`).
use Rattle.std.specs.Prelude.{ℕ, Bool, cond, List, [], ◌∷◌, ◌++◌, length, ltb, eqb, Result}
use Rattle.mps.specs.Words.{put}
use Rattle.mps.specs.Refusals.{Rule, ◌when◌, refusal, room_number}
use Rattle.mps.specs.Answers.{answered}
use Rattle.mps.specs.declared.refusals.Refusal.{Refusal}

-- Whether so many bytes are more than a room has.
unfoldable pub too_small : ℕ → List ℕ → Bool
too_small size room = ltb (length room) size

-- The rows that the call tests before its room, then 19. A call that is lent two rooms gives 19 where either is too small.
unfoldable pub room_rules : List Rule → Bool → List Rule
room_rules rows small = rows ++ (room_number when small ∷ [])

-- The number.
unfoldable pub lent_refusal : List Rule → Bool → ℕ
lent_refusal rows small = refusal (room_rules rows small)

-- What a room holds then: the answer's bytes and what lies past them, or at a refusal what it held before.
unfoldable pub lent_left : ℕ → List ℕ → List ℕ → List ℕ
lent_left number answer room = cond (eqb number 0) (put answer room) room

-- ---- Of an answer that nothing but its room can refuse

unfoldable pub room_refusal : List ℕ → List ℕ → ℕ
room_refusal answer room = lent_refusal [] (too_small (length answer) room)

-- The count goes with the answer: of its bytes, or of the pieces that they make.
unfoldable pub fitted : List ℕ → ℕ → List ℕ → Result ℕ Refusal
fitted answer count room = answered (room_refusal answer room) count

-- Counted in bytes.
abbrev pub fitted_bytes : List ℕ → List ℕ → Result ℕ Refusal
fitted_bytes answer room = fitted answer (length answer) room

unfoldable pub fit_left : List ℕ → List ℕ → List ℕ
fit_left answer room = lent_left (room_refusal answer room) answer room
