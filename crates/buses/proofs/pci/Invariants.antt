use Rattle.std.proofs.Common.{◌≡◌}
use Rattle.std.specs.Slice.Iter.{chunks_exact_rest, chunks_exact_size}
use Rattle.mps.specs.Sections.{rows}
use Rattle.mps.specs.Words.{each, keep}
use Rattle.mps.specs.Layout.{id_of}
use Rattle.mps.specs.Slots.{is_pci}
use Rattle.roll.specs.Roll.{enrolled}
use Rattle.buses.proofs.pci.Given as goal

abbrev pub invariant-loop-e : goal.invariant-loop-e
invariant-loop-e l =
    (chunks_exact_size l.e-iterator ≡ 8)
    × (enrolled 3 l.roll (each id_of (keep is_pci (rows 8 (chunks_exact_rest l.e-iterator)))) ≡ enrolled 3 l.initial.roll (each id_of (keep is_pci (rows 8 l.s))))
