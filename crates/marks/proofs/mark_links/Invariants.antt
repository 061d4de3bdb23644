use Rattle.std.proofs.Common.{◌≡◌}
use Rattle.std.specs.Slice.Iter.{chunks_exact_rest, chunks_exact_size}
use Rattle.mps.specs.Layout.{link_size, extended_bus}
use Rattle.mps.specs.Sections.{rows}
use Rattle.marks.specs.Marks.{link_rank, marked, parented}
use Rattle.marks.proofs.mark_links.Given as goal

abbrev pub invariant-loop-e : goal.invariant-loop-e
invariant-loop-e l =
    (chunks_exact_size l.e-iterator ≡ link_size)
    × (marked extended_bus link_rank l.marks (rows link_size (chunks_exact_rest l.e-iterator)) ≡ marked extended_bus link_rank l.initial.marks (rows link_size l.s))
    × (parented l.parents (rows link_size (chunks_exact_rest l.e-iterator)) ≡ parented l.initial.parents (rows link_size l.s))
