use Rattle.std.proofs.Common.{◌≡◌}
use Rattle.sets.specs.Sets.{lowest_out}
use Rattle.sets.proofs.Words.{lowest_from}
use Rattle.sets.proofs.lowest.Given as goal

abbrev pub invariant-loop-at : goal.invariant-loop-at
invariant-loop-at l = lowest_from l.a l.b l.at ≡ lowest_out l.a l.b
