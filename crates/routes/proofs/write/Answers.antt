-- The pairs of the rows left make the whole (`Writes`).
use native.Mathlib.Omega.{arith}
use Rattle.std.specs.Slice.Iter.{chunks_exact_rest}
use Rattle.laws.proofs.Writes.{writes_done}
use Rattle.routes.specs.Pairs.{asked_by}
use Rattle.routes.proofs.Writing.{pairs_done, pairs_room, pairs_put, pairs_pass}
use Rattle.routes.proofs.write.Goals as goal

pub put-place-requires : goal.put-place-requires
put-place-requires c =
    let l = c.loop-e in
    let a = c.args in
    let s = c.in-Some.ensures.steps in
    let room = pairs_room a.targets.ids.now (asked_by a.wire.now) _ c.in-Some.e.now _ (omega (arith, s.1.1, l.invariant.0)) s.1.0 c.asks.ensures
    c.if-asks.true in
    (omega (arith, s.1.1, l.invariant.0), omega (arith, room, c.requires, l.invariant.1.end, l.invariant.1.room))

pub loop-e-preserved-then-asks : goal.loop-e-preserved-then-asks
loop-e-preserved-then-asks c =
    let l = c.loop-e in
    let a = c.args in
    let s = c.in-Some.ensures.steps in
    let put = c.put-place.ensures in (
      omega (arith, s.0, l.invariant.0),
      pairs_put a.targets.ids.now (asked_by a.wire.now) _ c.in-Some.e.now _ (omega (arith, s.1.1, l.invariant.0)) s.1.0 c.asks.ensures
          c.if-asks.true l.invariant.1 put.value put.out_after,
    )

pub loop-e-preserved : goal.loop-e-preserved
loop-e-preserved c =
    let l = c.loop-e in
    let a = c.args in
    let s = c.in-Some.ensures.steps in (
      omega (arith, s.0, l.invariant.0),
      pairs_pass a.targets.ids.now (asked_by a.wire.now) _ c.in-Some.e.now _ (omega (arith, s.1.1, l.invariant.0)) s.1.0 c.asks.ensures
          c.if-asks.false l.invariant.1,
    )

pub returns : goal.returns
returns c =
    let a = c.args in
    let none = pairs_done a.targets.ids.now (asked_by a.wire.now) (chunks_exact_rest c.loop-e.e-iterator) (omega (arith, c.in-None.ensures.steps.1.0, c.loop-e.invariant.0)) in
    let done = writes_done c.loop-e.invariant.1 none in
    record { value = omega (arith, done.0); out_after = done.1 }
