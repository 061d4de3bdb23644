use Rattle.std.proofs.Common.{◌≡◌, ◌+◌, length}
use Rattle.std.proofs.lemmas.List.Edits.{sets}
use Rattle.mps.specs.Words.{part}
use Rattle.slices.proofs.raise.Given as goal

-- The bytes before place i that are left to move make the whole.
abbrev pub invariant-loop-i : goal.invariant-loop-i
invariant-loop-i l = (sets l.s (l.from + l.by) (part l.from l.i l.s) ≡ sets l.initial.s (l.from + l.by) (part l.from l.to l.initial.s)) × (length l.s ≡ length l.initial.s)
