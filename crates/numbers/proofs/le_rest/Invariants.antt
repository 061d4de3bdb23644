use Rattle.std.proofs.Common.{◌≡◌, ◌+◌, ◌-◌}
use Rattle.mps.specs.Numbers.{le}
use Rattle.numbers.proofs.le_rest.Given as goal

-- What is read is the number from place at + i on.
abbrev pub invariant-loop-i : goal.invariant-loop-i
invariant-loop-i l = l.r ≡ le (l.n - l.i) l.s (l.at + l.i)
