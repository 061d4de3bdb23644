-- An answer that is there only where a configuration and a boot processor are: the table that is made, and the full listing of
-- a default dump.
use Rattle.std.specs.Prelude.{ℕ, List, [], ◌∷◌, length, Result}
use Rattle.mps.specs.Refusals.{Rule, ◌when◌, default_number}
use Rattle.mps.specs.Answers.{answered}
use Rattle.mps.specs.Rooms.{too_small, lent_refusal, lent_left}
use Rattle.mps.specs.Defaults.{no_default}
use Rattle.mps.specs.declared.refusals.Refusal.{Refusal}

abbrev pub offer_rules : ℕ → ℕ → List Rule
offer_rules n boot = default_number when no_default n boot ∷ []

unfoldable pub offer_refusal : List ℕ → ℕ → ℕ → List ℕ → ℕ
offer_refusal answer n boot room = lent_refusal (offer_rules n boot) (too_small (length answer) room)

unfoldable pub offered : List ℕ → ℕ → ℕ → List ℕ → Result ℕ Refusal
offered answer n boot room = answered (offer_refusal answer n boot room) (length answer)

unfoldable pub offer_left : List ℕ → ℕ → ℕ → List ℕ → List ℕ
offer_left answer n boot room = lent_left (offer_refusal answer n boot room) answer room
