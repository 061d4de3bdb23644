-- Entries called over the roll, one after the other: the first that is wrong ends it, and every one before it has its marks
-- put at its ID. Rules 14, 15 and 16 are each such a call.
use Rattle.std.specs.Prelude.{ℕ, Bool, true, false, ◌||◌, ◌&&◌, List, [], ◌∷◌}
use Rattle.mps.specs.Layout.{Entry, id_of}
use Rattle.roll.specs.Roll.{marked, with_marks}

-- Whose ID must be free, by which bit it is taken, what is wrong by itself, and the marks that an entry puts.
pub record Call : Type 0 where
  pub claims : Entry → Bool
  pub by : ℕ
  pub bad : Entry → Bool
  pub marks : Entry → ℕ

-- Whether some entry was wrong, and the roll as it was left there, or behind the last.
pub record Called : Type 0 where
  pub wrong : Bool
  pub roll : List ℕ

unfoldable pub wrong_one : Call → List ℕ → Entry → Bool
wrong_one c roll e = c.claims e && marked c.by roll (id_of e) || c.bad e

unfoldable pub called : Call → List ℕ → List Entry → Called
called c roll [] = record { wrong = false; roll = roll }
called c roll (e ∷ es) =
    elim (wrong_one c roll e) [ true ↦ record { wrong = true; roll = roll } | false ↦ called c (with_marks (c.marks e) roll (id_of e)) es ]
