use Rattle.sets.proofs.Words.{Counts}
use Rattle.sets.proofs.count.Given as goal

abbrev pub invariant-loop-at : goal.invariant-loop-at
invariant-loop-at l = Counts l.set l.n l.at
