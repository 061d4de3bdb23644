use Rattle.std.proofs.Common.{◌≡◌, ◌+◌, length, drop}
use Rattle.std.proofs.lemmas.List.Edits.{sets}
use Rattle.numbers.proofs.put.Given as goal

abbrev pub invariant-loop-k : goal.invariant-loop-k
invariant-loop-k g l = (sets l.out (l.at + l.k) (drop l.k l.x) ≡ sets l.initial.out l.at l.x) × (length l.out ≡ length l.initial.out)
