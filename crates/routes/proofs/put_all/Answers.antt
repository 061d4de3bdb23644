-- The pairs of the IDs left make the whole (`Writes`).
use native.Mathlib.Omega.{arith}
use Rattle.laws.proofs.Writes.{writes_done}
use Rattle.routes.proofs.Writing.{ids_done, ids_room, ids_put}
use Rattle.routes.proofs.put_all.Goals as goal

pub put_pair-requires : goal.put_pair-requires
put_pair-requires c =
    let a = c.args in
    (omega arith, omega (arith, ids_room a.entry.now a.ids.now c.loop-id.id-index (omega arith), c.loop-id.invariant.end, c.loop-id.invariant.room))

pub overflow_add-place : goal.overflow_add-place
overflow_add-place c =
    let a = c.args in
    omega (arith, ids_room a.entry.now a.ids.now c.loop-id.id-index (omega arith), c.loop-id.invariant.end)

pub loop-id-preserved : goal.loop-id-preserved
loop-id-preserved c =
    let a = c.args in
    ids_put a.entry.now a.ids.now c.loop-id.id-index (omega arith) c.loop-id.invariant c.put_pair.ensures

pub returns : goal.returns
returns c =
    let a = c.args in
    let both = writes_done c.loop-id.invariant (ids_done a.entry.now a.ids.now c.loop-id.id-index (omega arith)) in
    record { value = both.0; out_after = both.1 }
