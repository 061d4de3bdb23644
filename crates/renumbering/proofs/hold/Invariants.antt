use Rattle.std.proofs.Common.{◌≡◌, ◌<◌}
use Rattle.std.specs.Slice.Iter.{chunks_exact_rest, chunks_exact_size}
use lib.ListN.{set}
use Rattle.renumbering.proofs.Loops.{Puts}
use Rattle.renumbering.proofs.hold.Given as goal

abbrev pub invariant-loop-e : goal.invariant-loop-e
invariant-loop-e l =
    (chunks_exact_size l.e-iterator ≡ l.size)
    × Puts l.initial.set l.s l.size (set l.set l.k l.word) l.count (chunks_exact_rest l.e-iterator)
    × (l.k < 4)
