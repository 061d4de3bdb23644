use native.Mathlib.Omega.{arith}
use Rattle.rows.proofs.Laws.{along_own}
use Rattle.rows.proofs.chained.Goals as goal

pub returns-then-passed-machine : goal.returns-then-passed-machine
returns-then-passed-machine c = along_own _ _ _ _ _ c.loop-k.invariant (omega arith) c.read-passed.ensures c.if-passed-machine.true
