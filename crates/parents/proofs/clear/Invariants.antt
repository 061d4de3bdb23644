use Rattle.std.proofs.Common.{◌≡◌, ◌-◌}
use Rattle.parents.specs.Parents.{cleared}
use Rattle.parents.proofs.clear.Given as goal

abbrev pub invariant-loop : goal.invariant-loop
invariant-loop l = cleared (l.links - l.counter) l.up l.place ≡ cleared l.links l.initial.up l.bus
