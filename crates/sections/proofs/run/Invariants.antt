use Rattle.std.proofs.Common.{◌≡◌, drop}
use Rattle.std.specs.Slice.Iter.{chunks_exact_rest, chunks_exact_size}
use Rattle.mps.specs.Layout.{base_entry_length}
use Rattle.sections.specs.Base.{base_own}
use Rattle.runs.proofs.Runs.{Upto}
use Rattle.sections.proofs.run.Given as goal

abbrev pub invariant-loop-e : goal.invariant-loop-e
invariant-loop-e l = record {
  size : chunks_exact_size l.e-iterator ≡ l.size;
  left : chunks_exact_rest l.e-iterator ≡ drop l.place l.s;
  upto : Upto base_own base_entry_length l.s l.kind l.at l.place;
}
