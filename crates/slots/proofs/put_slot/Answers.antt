-- `slot_put`.
use native.Mathlib.Omega.{arith}
use lib.ListN.{length-set}
use Rattle.slots.proofs.Writing.{slot_put}
use Rattle.slots.proofs.put_slot.Goals as goal

pub bounds-out-at-2 : goal.bounds-out-at-2
bounds-out-at-2 c = simp length-set (omega arith)

pub bounds-out-at-3 : goal.bounds-out-at-3
bounds-out-at-3 c = simp length-set (omega arith)

pub returns : goal.returns
returns c = slot_put c.args.out.now c.args.at c.args.n
