use Rattle.rows.proofs.Laws.{Along}
use Rattle.rows.proofs.chained.Given as goal

abbrev pub invariant-loop-k : goal.invariant-loop-k
invariant-loop-k l = Along l.s l.before l.last l.machine l.k

abbrev pub decreases-loop-k : goal.decreases-loop-k
decreases-loop-k l = l.k
