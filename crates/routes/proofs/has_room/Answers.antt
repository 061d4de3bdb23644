-- By the most that there can be, or by the count: `room_most` and `room_counted`.
use Prim.Native.Nat.{◌*◌, ◌/◌, ◌≤◌}
use native.Mathlib.Nat.{mul-le-mul}
use native.Mathlib.Omega.{arith}
use lib.ListN.{length}
use Rattle.routes.specs.Pairs.{asked_by}
use Rattle.routes.proofs.Answering.{room_most, room_counted}
use Rattle.routes.proofs.has_room.Goals as goal
use Rattle.routes.proofs.has_room.Goals.{Start}

few : (c : Start) → let a = c.args in length a.s.now / 8 * length a.targets.ids.now ≤ 8191 * 256
few c =
    let a = c.args in
    let rows : length a.s.now / 8 ≤ 8191 = omega arith in
    let ids : length a.targets.ids.now ≤ 256 = omega arith in
    mul-le-mul rows ids

pub overflow_mul-most : goal.overflow_mul-most
overflow_mul-most c = omega (arith, few (goal.at.overflow_mul-most c).Start)

pub overflow_mul-most-2 : goal.overflow_mul-most-2
overflow_mul-most-2 c = omega (arith, few (goal.at.overflow_mul-most-2 c).Start)

pub returns-then-most-room : goal.returns-then-most-room
returns-then-most-room c =
    let a = c.args in
    room_most a.targets.ids.now (asked_by a.wire.now) a.s.now a.room c.if-most-room.true

pub returns : goal.returns
returns c =
    let a = c.args in
    room_counted a.targets.ids.now (asked_by a.wire.now) a.s.now a.room c.count.ensures.value
