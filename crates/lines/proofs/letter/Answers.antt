-- The byte, or nothing where it is padding.
use native.Mathlib.Omega.{arith}
use Rattle.lines.proofs.BaseLines.{letter_space, letter_byte}
use Rattle.lines.proofs.letter.Goals as goal

pub returns-then-b-eq-SPACE : goal.returns-then-b-eq-SPACE
returns-then-b-eq-SPACE c =
    record { wrote = letter_space c.byte-b.ensures c.if-b-eq-SPACE.true; upper_bound = omega arith }

pub returns : goal.returns
returns c =
    record { wrote = letter_byte c.byte-b.ensures c.if-b-eq-SPACE.false; upper_bound = omega arith }
