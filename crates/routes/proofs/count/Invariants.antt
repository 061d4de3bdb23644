use Rattle.std.proofs.Common.{◌≡◌, ◌+◌, ◌*◌, ◌≤◌, length}
use Rattle.std.specs.Slice.Iter.{chunks_exact_rest, chunks_exact_size}
use Rattle.mps.specs.Sections.{rows}
use Rattle.routes.specs.Pairs.{asked_by, count_in}
use Rattle.routes.proofs.count.Given as goal

-- A row has 256 pairs at most, 32 for each of its 8 bytes.
abbrev pub invariant-loop-e : goal.invariant-loop-e
invariant-loop-e l =
    let rest = chunks_exact_rest l.e-iterator in
    let asks = asked_by l.wire in
    (chunks_exact_size l.e-iterator ≡ 8)
    × (l.pairs + count_in l.targets.ids.now asks (rows 8 rest) ≡ count_in l.targets.ids.now asks (rows 8 l.s))
    × (l.pairs + 32 * length rest ≤ 32 * length l.s)
