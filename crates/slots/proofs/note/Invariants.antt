use Rattle.std.proofs.Common.{◌≡◌, ◌<◌, length}
use Rattle.std.specs.Slice.Iter.{chunks_exact_rest, chunks_exact_size}
use lib.ListN.{set}
use Rattle.slots.proofs.Sets.{Notes}
use Rattle.slots.proofs.note.Given as goal

abbrev pub invariant-loop-e : goal.invariant-loop-e
invariant-loop-e l =
    (chunks_exact_size l.e-iterator ≡ 8)
    × Notes l.initial.set l.pci l.s (set l.set l.k l.word) (chunks_exact_rest l.e-iterator)
    × (l.k < length l.set)
    × (length l.set ≡ length l.initial.set)
