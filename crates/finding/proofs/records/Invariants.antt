use Rattle.std.proofs.Common.{◌≡◌, ◌+◌, ◌≤◌, length}
use Rattle.std.specs.Iterator.Adapters.{enumerate_source, enumerate_count}
use lib.Seq.{sets}
use Rattle.mps.specs.Dump.{regions}
use Rattle.regions.specs.Regions.{eight}
use Rattle.finding.proofs.records.Given as goal

-- With the regions left stored behind those that are, the records are what they are to be.
abbrev pub invariant-loop-i : goal.invariant-loop-i
invariant-loop-i l =
    let it = l.i-iterator in
    (sets l.rs (enumerate_count it) (enumerate_source it) ≡ eight (regions l.d))
    × (enumerate_count it + length (enumerate_source it) ≤ 8)
