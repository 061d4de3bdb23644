use Rattle.rows.proofs.Laws.{Runs, Chains}
use Rattle.rows.proofs.chains.Given as goal

abbrev pub invariant-loop-k : goal.invariant-loop-k
invariant-loop-k l = Runs l.s l.rows l.k × Chains l.s l.last l.before l.k
