-- The IDs are gathered in 256 places; the pairs are written where they fit.
use Prim.Native.Nat.{◌-◌, ◌≤◌}
use mathlib.Core.Path.{◌≡◌}
use native.Mathlib.Omega.{arith}
use lib.ListN.{length, take, replicate}
use Rattle.apics.specs.Enabled.{enabled_in}
use Rattle.routes.specs.Pairs.{asked_by}
use Rattle.roll.specs.Roll.{taken_bit, OnRoll}
use Rattle.routes.proofs.Answering.{ids_most, ids_inside, ids_read, ids_known, answer_short, answer_room, answer_put}
use Rattle.routes.proofs.answer.Goals as goal
use Rattle.routes.proofs.answer.Goals.{After-gather-n}

most : (c : After-gather-n) → let a = c.args in length (enabled_in a.size a.targets.now) ≤ 256
most c =
    let bytes = c.type_inv.targets in
    ids_most c.args.size c.args.targets.now (λ i. omega (arith, bytes i)) c.requires.1

read :
    (c : After-gather-n) → let a = c.args in
    take (c.gather-n.result - 0) c.gather-n.new.ids ≡ enabled_in a.size a.targets.now
read c = ids_read _ _ (most c) c.gather-n.ensures.value c.gather-n.ensures.ids_after

known :
    (c : After-gather-n) → let ids = take (c.gather-n.result - 0) c.gather-n.new.ids in
    OnRoll taken_bit c.gather-n.new.roll ids × (length ids ≤ 256)
known c = ids_known _ _ (most c) c.gather-n.ensures.value c.gather-n.ensures.ids_after c.gather-n.ensures.roll_after

pub gather-n-requires : goal.gather-n-requires
gather-n-requires c =
    let bytes = c.type_inv.targets in
    (c.requires.0, ids_most c.args.size c.args.targets.now (λ i. omega (arith, bytes i)) c.requires.1)

pub slice_bounds-targets-end : goal.slice_bounds-targets-end
slice_bounds-targets-end c =
    let a = c.args in
    ids_inside (replicate 256 0) (enabled_in a.size a.targets.now) (most (goal.at.slice_bounds-targets-end c).After-gather-n) c.gather-n.ensures.value c.gather-n.ensures.ids_after

pub invariant_of-targets : goal.invariant_of-targets
invariant_of-targets c =
    let k = known (goal.at.invariant_of-targets c).After-gather-n in
    record { on_roll = k.0; few = k.1 }

pub has_room-requires : goal.has_room-requires
has_room-requires c = c.requires.2

pub returns-then-not-has_room : goal.returns-then-not-has_room
returns-then-not-has_room c =
    let a = c.args in let both = answer_short (enabled_in a.size a.targets.now) (asked_by a.wire.now) _ a.out.now (read (goal.at.returns-then-not-has_room c).After-gather-n)
    c.has_room.ensures c.if-not-has_room.true in record { value = both.0; out_after = both.1 }

pub write-requires : goal.write-requires
write-requires c =
    let a = c.args in
    answer_room (enabled_in a.size a.targets.now) (asked_by a.wire.now) _ a.out.now (read (goal.at.write-requires c).After-gather-n)
    c.has_room.ensures c.if-not-has_room.false

pub returns : goal.returns
returns c =
    let a = c.args in let both = answer_put (enabled_in a.size a.targets.now) (asked_by a.wire.now) _ a.out.now (read (goal.at.returns c).After-gather-n)
    c.has_room.ensures c.if-not-has_room.false c.write.ensures.value c.write.ensures.out_after in record { value = both.0; out_after = both.1 }
