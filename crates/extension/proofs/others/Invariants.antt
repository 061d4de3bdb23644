use Rattle.std.proofs.Common.{◌≡◌, ◌≤◌, drop, length}
use Rattle.mps.specs.Table.{extended_from}
use Rattle.extension.specs.Extended.{extended_entries_in}
use Rattle.extension.proofs.others.Given as goal

abbrev pub invariant-loop-rest : goal.invariant-loop-rest
invariant-loop-rest l =
    (extended_from l.before (extended_entries_in l.rest) ≡ extended_from 131 (extended_entries_in (drop l.at l.s))) × (131 ≤ l.before)

abbrev pub decreases-loop-rest : goal.decreases-loop-rest
decreases-loop-rest l = length l.rest
