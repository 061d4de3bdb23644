use Rattle.rows.proofs.Laws.{Runs}
use Rattle.rows.proofs.few.Given as goal

abbrev pub invariant-loop-k : goal.invariant-loop-k
invariant-loop-k l = Runs l.s l.rows l.k
