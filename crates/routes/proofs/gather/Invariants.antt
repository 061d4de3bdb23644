use Rattle.std.proofs.Common.{◌≡◌, ◌+◌, length}
use Rattle.std.specs.Slice.Iter.{chunks_exact_rest, chunks_exact_size}
use lib.Seq.{sets}
use Rattle.apics.specs.Enabled.{enabled_in}
use Rattle.roll.specs.Roll.{taken_bit, enrolled}
use Rattle.routes.proofs.gather.Given as goal

abbrev pub invariant-loop-e : goal.invariant-loop-e
invariant-loop-e l =
    let rest = enabled_in l.size (chunks_exact_rest l.e-iterator) in
    let all = enabled_in l.size l.s in
    (chunks_exact_size l.e-iterator ≡ l.size)
    × (l.count + length rest ≡ length all)
    × (enrolled taken_bit l.roll rest ≡ enrolled taken_bit l.initial.roll all)
    × (sets l.ids l.count rest ≡ sets l.initial.ids 0 all)
