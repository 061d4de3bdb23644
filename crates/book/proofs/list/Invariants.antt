use Rattle.book.proofs.Laws.{Lists}
use Rattle.book.proofs.list.Given as goal

abbrev pub invariant-loop-k : goal.invariant-loop-k
invariant-loop-k l = Lists l.initial.out l.s l.rows l.out l.k
