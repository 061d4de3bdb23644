use Rattle.std.proofs.Common.{◌≡◌}
use Rattle.std.specs.Slice.Iter.{chunks_exact_rest, chunks_exact_size}
use Rattle.laws.proofs.Writes.{Writes}
use Rattle.mps.specs.Sections.{rows}
use Rattle.routes.specs.Pairs.{asked_by, pairs_in}
use Rattle.routes.proofs.write.Given as goal

abbrev pub invariant-loop-e : goal.invariant-loop-e
invariant-loop-e l =
    (chunks_exact_size l.e-iterator ≡ 8)
    × Writes l.initial.out 0 (pairs_in l.targets.ids.now (asked_by l.wire) (rows 8 l.s)) l.out l.place (pairs_in l.targets.ids.now (asked_by l.wire) (rows 8 (chunks_exact_rest l.e-iterator)))
