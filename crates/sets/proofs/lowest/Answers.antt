-- The loop keeps what is the lowest: from the words on that it has come to.
use Rattle.std.proofs.Common.{sym, ◌∙◌, arith}
use Rattle.sets.proofs.Words.{lowest_first, lowest_done, lowest_next, lowest_here}
use Rattle.sets.proofs.lowest.Goals as goal

pub loop-at-init : goal.loop-at-init
loop-at-init c = lowest_first _ _

pub returns-then-free-ne0 : goal.returns-then-free-ne0
returns-then-free-ne0 c =
    let l = c.loop-at in
    let size = c.told-a in
    sym (lowest_here c.args.a.now c.args.b.now l.at (omega arith) (omega arith) (omega arith) c.if-free-ne0.true).1 ∙ l.invariant

pub loop-at-preserved : goal.loop-at-preserved
loop-at-preserved c =
    let l = c.loop-at in
    let size = c.told-a in
    sym (lowest_next c.args.a.now c.args.b.now l.at (omega arith) (omega arith) (omega arith) c.if-free-ne0.false) ∙ l.invariant

pub returns : goal.returns
returns c =
    let l = c.loop-at in
    let size = c.told-a in
    omega (arith, lowest_done c.args.a.now c.args.b.now l.at (omega arith), l.invariant)
