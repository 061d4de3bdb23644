use Rattle.std.proofs.Common.{◌≡◌, ◌<◌}
use Rattle.std.specs.Slice.Iter.{chunks_exact_rest, chunks_exact_size}
use Rattle.slots.proofs.Sets.{Tops}
use Rattle.slots.proofs.top.Given as goal

abbrev pub invariant-loop-e : goal.invariant-loop-e
invariant-loop-e l = (chunks_exact_size l.e-iterator ≡ 8) × Tops l.s (chunks_exact_rest l.e-iterator) l.top × (l.top < 256)
