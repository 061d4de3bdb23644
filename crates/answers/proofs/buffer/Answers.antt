-- By a law: to count the cells would cost by their number.
use Prim.Native.Nat.{ℕ}
use mathlib.Core.Path.{sym}
use lib.ListN.{length-replicate}
use Rattle.answers.specs.Wire.{most}
use Rattle.answers.proofs.buffer.Goals as goal

pub returns : goal.returns
returns c = sym (length-replicate {A = ℕ} most 0)
