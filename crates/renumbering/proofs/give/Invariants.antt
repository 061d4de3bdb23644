use Rattle.std.proofs.Common.{◌≡◌}
use Rattle.std.specs.Slice.Iter.{chunks_exact_rest, chunks_exact_size}
use Rattle.renumbering.proofs.Loops.{Gives}
use Rattle.renumbering.proofs.give.Given as goal

abbrev pub invariant-loop-e : goal.invariant-loop-e
invariant-loop-e l =
    (chunks_exact_size l.e-iterator ≡ 8)
    × Gives l.initial.out l.initial.own l.processors l.s l.out l.own l.place (chunks_exact_rest l.e-iterator)
