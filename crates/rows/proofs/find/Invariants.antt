use Rattle.rows.proofs.Laws.{Finds}
use Rattle.rows.proofs.find.Given as goal

abbrev pub invariant-loop-k : goal.invariant-loop-k
invariant-loop-k l = Finds l.machine l.edition l.s l.k
