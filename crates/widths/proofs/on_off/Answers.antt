-- `on_is` or `off_is`, by the bit.
use native.Mathlib.Omega.{arith}
use Rattle.widths.proofs.Laws.{on_is, off_is}
use Rattle.widths.proofs.on_off.Goals as goal

pub returns-then-flags-eq1 : goal.returns-then-flags-eq1
returns-then-flags-eq1 c = (on_is c.args.flags (omega arith), omega arith)

pub returns-else-flags-eq1 : goal.returns-else-flags-eq1
returns-else-flags-eq1 c = (off_is c.args.flags (omega arith), omega arith)
