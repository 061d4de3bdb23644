use Rattle.slots.proofs.Writing.{Fills}
use Rattle.slots.proofs.write.Given as goal

abbrev pub invariant-loop-k : goal.invariant-loop-k
invariant-loop-k l = Fills l.initial.out l.set l.out l.place l.k
