use Rattle.std.proofs.Common.{◌≡◌}
use Rattle.std.specs.Slice.Iter.{chunks_exact_rest, chunks_exact_size}
use Rattle.mps.specs.Sections.{rows}
use Rattle.parents.specs.Parents.{endless_in}
use Rattle.parents.proofs.endless.Given as goal

abbrev pub invariant-loop-e : goal.invariant-loop-e
invariant-loop-e l =
    (chunks_exact_size l.e-iterator ≡ 8)
    × (endless_in l.links l.up (rows 8 (chunks_exact_rest l.e-iterator)) ≡ endless_in l.links l.initial.up (rows 8 l.s))
