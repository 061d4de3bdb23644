use Rattle.book.proofs.Laws.{Walks}
use Rattle.book.proofs.walk.Given as goal

abbrev pub invariant-loop-k : goal.invariant-loop-k
invariant-loop-k l = Walks l.limit l.s l.rows l.start l.k
