use Rattle.std.proofs.Common.{◌≡◌, ◌+◌, ◌≤◌, length}
use Rattle.std.specs.Slice.Iter.{chunks_exact_rest, chunks_exact_size}
use Rattle.mps.specs.Sections.{rows}
use Rattle.roll.specs.Calls.{called}
use Rattle.apics.specs.Apics.{processor_call}
use Rattle.apics.proofs.Laws.{boots_in}
use Rattle.apics.proofs.wrong_processors.Given as goal

abbrev pub invariant-loop-e : goal.invariant-loop-e
invariant-loop-e l =
    (chunks_exact_size l.e-iterator ≡ 20)
    × (called processor_call l.roll (rows 20 (chunks_exact_rest l.e-iterator)) ≡ called processor_call l.initial.roll (rows 20 l.s))
    × (l.boots + boots_in (rows 20 (chunks_exact_rest l.e-iterator)) ≡ boots_in (rows 20 l.s))
    × (l.boots + length (chunks_exact_rest l.e-iterator) ≤ length l.s)
