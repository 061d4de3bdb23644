use lib.ListN.{drop}
use Rattle.mps.specs.Words.{joined}
use Rattle.mps.specs.Routes.{pair}
use Rattle.laws.proofs.Writes.{Writes}
use Rattle.routes.proofs.put_all.Given as goal

abbrev pub invariant-loop-id : goal.invariant-loop-id
invariant-loop-id l = Writes l.initial.out l.at (joined (pair l.entry) l.ids) l.out l.place (joined (pair l.entry) (drop l.id-index l.ids))
