use Rattle.std.proofs.Common.{◌≡◌}
use Rattle.std.specs.Slice.Iter.{chunks_exact_rest, chunks_exact_size}
use Rattle.mps.specs.Layout.{link_size}
use Rattle.mps.specs.Sections.{rows}
use Rattle.marks.specs.Marks.{said_below}
use Rattle.marks.proofs.mark_below.Given as goal

abbrev pub invariant-loop-e : goal.invariant-loop-e
invariant-loop-e l =
    (chunks_exact_size l.e-iterator ≡ link_size)
    × (said_below l.marks l.below (rows link_size (chunks_exact_rest l.e-iterator)) ≡ said_below l.marks l.initial.below (rows link_size l.s))
