-- The loop keeps `Gives`.
use Prim.Native.Nat.{◌<◌}
use native.Mathlib.Omega.{arith}
use lib.ListN.{length}
use Rattle.renumbering.proofs.Loops.{gives_done, gives_off, gives_on, gives_small, gives_room}
use Rattle.renumbering.proofs.give.Goals as goal
use Rattle.renumbering.proofs.give.Goals.{After-number}

pub number-requires : goal.number-requires
number-requires c =
    let s = c.in-Some.ensures.steps in
    omega (arith, gives_small c.loop-e.invariant.1 c.in-Some.e.now _ (omega (arith, s.1.1, c.loop-e.invariant.0)) s.1.0 c.if-flags-eq1.true)

room : (c : After-number) → let l = c.loop-e in l.place < length l.out
room c =
    let s = c.in-Some.ensures.steps in
    gives_room c.loop-e.invariant.1 c.in-Some.e.now _ (omega (arith, s.1.1, c.loop-e.invariant.0)) s.1.0 c.if-flags-eq1.true c.requires.s_in_bounds

pub bounds-out-place : goal.bounds-out-place
bounds-out-place c = room (goal.at.bounds-out-place c).After-number

pub overflow_add-place : goal.overflow_add-place
overflow_add-place c = omega (arith, room (goal.at.overflow_add-place c).After-number)

pub loop-e-preserved-then-flags-eq1 : goal.loop-e-preserved-then-flags-eq1
loop-e-preserved-then-flags-eq1 c =
    let l = c.loop-e in
    let s = c.in-Some.ensures.steps in
    let n = c.number.ensures in (
      omega (arith, s.0, l.invariant.0),
      gives_on l.invariant.1 c.in-Some.e.now _ (omega (arith, s.1.1, l.invariant.0)) s.1.0 c.if-flags-eq1.true n.value n.own_after,
    )

pub loop-e-preserved : goal.loop-e-preserved
loop-e-preserved c =
    let l = c.loop-e in
    let s = c.in-Some.ensures.steps in (
      omega (arith, s.0, l.invariant.0),
      gives_off l.invariant.1 c.in-Some.e.now _ (omega (arith, s.1.1, l.invariant.0)) s.1.0 c.if-flags-eq1.false,
    )

pub returns : goal.returns
returns c = gives_done c.loop-e.invariant.1 (omega (arith, c.in-None.ensures.steps.1.0, c.loop-e.invariant.0))
