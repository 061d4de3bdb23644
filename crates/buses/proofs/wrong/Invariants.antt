use Rattle.std.proofs.Common.{◌≡◌}
use Rattle.std.specs.Slice.Iter.{chunks_exact_rest, chunks_exact_size}
use Rattle.mps.specs.Sections.{rows}
use Rattle.roll.specs.Calls.{called}
use Rattle.buses.specs.Buses.{bus_call}
use Rattle.buses.proofs.wrong.Given as goal

abbrev pub invariant-loop-e : goal.invariant-loop-e
invariant-loop-e l =
    (chunks_exact_size l.e-iterator ≡ 8)
    × (called bus_call l.roll (rows 8 (chunks_exact_rest l.e-iterator)) ≡ called bus_call l.fn.roll (rows 8 l.s))
