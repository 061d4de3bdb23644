use Rattle.std.proofs.Common.{◌≡◌, ◌+◌, ◌%◌, drop}
use Rattle.mps.specs.Sums.{total}
use Rattle.sums.proofs.sum.Given as goal

abbrev pub invariant-loop-b : goal.invariant-loop-b
invariant-loop-b l = (l.acc + total (drop l.b-index l.s)) % 256 ≡ total l.s % 256
