-- The loop keeps `Spells`.
use Prim.Native.Nat.{◌+◌, ◌≤◌, ◌<◌}
use native.Mathlib.Omega.{arith}
use lib.Count.{count_trailing_zeros}
use lib.ListN.{length}
use Rattle.mps.specs.Words.{joined}
use Rattle.laws.proofs.Writes.{writes_first}
use Rattle.sets.specs.Sets.{set_bits}
use Rattle.slots.specs.Sets.{slot_bytes}
use Rattle.slots.proofs.Writing.{spells_done, spells_inside, spells_room, spells_less, spells_next}
use Rattle.slots.proofs.put_word.Goals as goal
use Rattle.slots.proofs.put_word.Goals.{In-loop-rest}

pub loop-rest-init : goal.loop-rest-init
loop-rest-init c = (writes_first _ _ _, omega arith)

-- The next slot is one of the word's, and there is room for it.
inside : (c : In-loop-rest) → count_trailing_zeros 64 c.loop-rest.rest < 64
inside c = spells_inside _ _ _ _ _ _ _ c.loop-rest.invariant c.loop-rest-test.true

room :
    (c : In-loop-rest) → let a = c.args in
    c.loop-rest.place + 3 ≤ a.at + length (joined slot_bytes (set_bits 64 a.first a.word))
room c = spells_room _ _ _ _ _ _ _ c.loop-rest.invariant c.loop-rest-test.true

pub overflow_cast-rest : goal.overflow_cast-rest
overflow_cast-rest c = omega (arith, inside (goal.at.overflow_cast-rest c).In-loop-rest)

pub overflow_add-first : goal.overflow_add-first
overflow_add-first c = omega (arith, inside (goal.at.overflow_add-first c).In-loop-rest)

pub put_slot-requires : goal.put_slot-requires
put_slot-requires c =
    (omega (arith, inside (goal.at.put_slot-requires c).In-loop-rest), omega (arith, room (goal.at.put_slot-requires c).In-loop-rest))

pub overflow_add-place : goal.overflow_add-place
overflow_add-place c = omega (arith, room (goal.at.overflow_add-place c).In-loop-rest)

pub overflow_sub-rest : goal.overflow_sub-rest
overflow_sub-rest c = omega (arith, c.loop-rest-test.true)

pub loop-rest-smaller : goal.loop-rest-smaller
loop-rest-smaller c = spells_less _ _ _ _ _ _ _ c.loop-rest.invariant c.loop-rest-test.true

pub loop-rest-preserved : goal.loop-rest-preserved
loop-rest-preserved c = spells_next _ _ _ _ _ _ _ c.loop-rest.invariant c.loop-rest-test.true c.put_slot.ensures

pub shape_of-out : goal.shape_of-out
shape_of-out c = c.loop-rest.invariant.0.room

pub returns : goal.returns
returns c =
    let both = spells_done _ _ _ _ _ _ _ c.loop-rest.invariant c.loop-rest-test.false in record { value = both.0; out_after = both.1 }
