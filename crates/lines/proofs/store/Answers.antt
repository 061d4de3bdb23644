-- The line made in the buffer.
use Rattle.lines.proofs.Laws.{buffered}
use Rattle.lines.proofs.store.Goals as goal

pub returns-clause-out_after : goal.returns-clause-out_after
returns-clause-out_after g c =
    let args = c.args in
    (buffered args.out.now args.at c.put-n.ensures.upper_bound c.put-n.ensures.wrote c.moved.ensures.value c.moved.ensures.out_after).1
