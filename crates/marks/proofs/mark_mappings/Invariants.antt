use Rattle.std.proofs.Common.{◌≡◌}
use Rattle.std.specs.Slice.Iter.{chunks_exact_rest, chunks_exact_size}
use Rattle.mps.specs.Layout.{mapping_size, extended_bus}
use Rattle.mps.specs.Sections.{rows}
use Rattle.marks.specs.Marks.{mapping_rank, marked}
use Rattle.marks.proofs.mark_mappings.Given as goal

abbrev pub invariant-loop-e : goal.invariant-loop-e
invariant-loop-e l =
    (chunks_exact_size l.e-iterator ≡ mapping_size)
    × (marked extended_bus (mapping_rank l.kind l.address) l.marks (rows mapping_size (chunks_exact_rest l.e-iterator)) ≡ marked extended_bus (mapping_rank l.kind l.address) l.initial.marks (rows mapping_size l.s))
