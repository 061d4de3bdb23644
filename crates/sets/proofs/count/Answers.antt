use Rattle.std.proofs.Common.{arith}
use Rattle.sets.proofs.Words.{counts_next, counts_done}
use Rattle.sets.proofs.Laws.{members_few}
use Rattle.sets.proofs.count.Goals as goal

pub overflow_add-n : goal.overflow_add-n
overflow_add-n c =
    let l = c.loop-at in
    let s = c.args.set.now in
    let n = counts_next s l.n l.at l.invariant (omega arith) (omega arith) in
    let few = members_few s in
    let size = c.told-set in
    omega arith

pub loop-at-preserved : goal.loop-at-preserved
loop-at-preserved c =
    let l = c.loop-at in
    counts_next c.args.set.now l.n l.at l.invariant (omega arith) (omega arith)

pub returns : goal.returns
returns c = let l = c.loop-at in let size = c.told-set in counts_done c.args.set.now l.n l.at l.invariant (omega arith)
