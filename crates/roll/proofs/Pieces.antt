-- A call, or IDs put on a roll, over the rows of a slice that a loop over its pieces has left: no whole row is left, the row
-- there ends it, or it does not. Assumes nothing.
use Prim.Native.Nat.{ℕ, ◌<◌}
use mathlib.Core.Path.{◌≡◌}
use mathlib.Core.Bool.{Bool, true, false}
use mathlib.Core.List.{List, ◌++◌}
use lib.ListN.{length}
use Rattle.mps.specs.Words.{each, keep}
use Rattle.mps.specs.Layout.{Entry, id_of}
use Rattle.mps.specs.Sections.{rows}
use Rattle.laws.proofs.Lists.{keep_in, keep_out}
use Rattle.laws.proofs.Rows.{rows_short, rows_more}
use Rattle.roll.specs.Roll.{mark, with_marks, enrolled}
use Rattle.roll.specs.Calls.{Call, wrong_one, called}
use Rattle.roll.proofs.Laws.{called_stop, called_next}

module _ (c : Call) (roll : List ℕ) (n : ℕ) (rest : List ℕ) where
  pub call_end : length rest < n → called c roll (rows n rest) ≡ record { wrong = false; roll = roll }
  unfolding called
  call_end f = rw (rows_short n rest f)

  module _ (e left : List ℕ) (z : 0 < n) (h : length e ≡ n) (k : rest ≡ e ++ left) where
    pub call_stop : wrong_one c roll e ≡ true → called c roll (rows n rest) ≡ record { wrong = true; roll = roll }
    call_stop w = rw (rows_more n rest e left z h k) (called_stop c roll e (rows n left) w)

    pub call_next : wrong_one c roll e ≡ false → called c roll (rows n rest) ≡ called c (with_marks (c.marks e) roll (id_of e)) (rows n left)
    call_next w = rw (rows_more n rest e left z h k) (called_next c roll e (rows n left) w)

pub ruleset call_steps = (call_end, call_stop, call_next)

-- The IDs of the rows that pass a test.
module _ (k : ℕ) (p : Entry → Bool) (roll : List ℕ) (n : ℕ) (rest : List ℕ) where
  pub enrol_end : length rest < n → enrolled k roll (each id_of (keep p (rows n rest))) ≡ roll
  unfolding enrolled each keep
  enrol_end f = rw (rows_short n rest f)

  module _ (e left : List ℕ) (z : 0 < n) (h : length e ≡ n) (c : rest ≡ e ++ left) where
    pub enrol_on :
        p e ≡ true
        → enrolled k roll (each id_of (keep p (rows n rest))) ≡ enrolled k (with_marks (mark k) roll (id_of e)) (each id_of (keep p (rows n left)))
    unfolding enrolled each
    enrol_on t = rw (rows_more n rest e left z h c, keep_in p e (rows n left) t)

    pub enrol_off : p e ≡ false → enrolled k roll (each id_of (keep p (rows n rest))) ≡ enrolled k roll (each id_of (keep p (rows n left)))
    enrol_off t = rw (rows_more n rest e left z h c, keep_out p e (rows n left) t)

pub ruleset enrol_steps = (enrol_end, enrol_on, enrol_off)
