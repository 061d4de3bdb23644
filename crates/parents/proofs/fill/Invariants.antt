use Rattle.std.proofs.Common.{◌≡◌}
use Rattle.std.specs.Slice.Iter.{chunks_exact_rest, chunks_exact_size}
use Rattle.mps.specs.Sections.{rows}
use Rattle.parents.specs.Parents.{filled, stopped}
use Rattle.parents.proofs.fill.Given as goal

abbrev pub invariant-loop-e : goal.invariant-loop-e
invariant-loop-e l =
    (chunks_exact_size l.e-iterator ≡ 8)
    × (stopped l.roll l.up (rows 8 (chunks_exact_rest l.e-iterator)) ≡ stopped l.roll l.initial.up (rows 8 l.s))
    × (filled l.up (rows 8 (chunks_exact_rest l.e-iterator)) ≡ filled l.initial.up (rows 8 l.s))
