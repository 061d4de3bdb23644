use Rattle.std.proofs.Common.{◌≡◌, ◌+◌, ◌*◌, ◌^◌, ◌≤◌, length}
use Rattle.mps.specs.Dump.{contents_end}
use Rattle.contents.specs.Steps.{fitted}
use Rattle.regions.specs.Walk.{listed}
use Rattle.contents.proofs.last_end.Given as goal

abbrev pub invariant-loop-r : goal.invariant-loop-r
invariant-loop-r l =
    (fitted l.end l.left ≡ fitted (contents_end l.d) (listed l.d))
    × (l.end + length l.left * 2 ^ 32 ≤ 2 ^ 62)

abbrev pub decreases-loop-r : goal.decreases-loop-r
decreases-loop-r l = length l.left
