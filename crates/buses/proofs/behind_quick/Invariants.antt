use Rattle.std.proofs.Common.{◌≡◌, length}
use Rattle.mps.specs.Sections.{rows}
use Rattle.roll.specs.Calls.{called}
use Rattle.buses.specs.Buses.{bus_call}
use Rattle.buses.proofs.behind_quick.Given as goal

abbrev pub invariant-loop-e : goal.invariant-loop-e
invariant-loop-e l = called bus_call l.roll (rows 8 l.rest) ≡ called bus_call l.initial.roll (rows 8 l.s)

abbrev pub decreases-loop-e : goal.decreases-loop-e
decreases-loop-e l = length l.rest
