use Rattle.std.proofs.Common.{◌≡◌, ◌-◌}
use Rattle.parents.specs.Parents.{goes_on}
use Rattle.parents.proofs.goes_on.Given as goal

abbrev pub invariant-loop : goal.invariant-loop
invariant-loop l = goes_on (l.links - l.counter) l.up l.place ≡ goes_on l.links l.up l.bus
