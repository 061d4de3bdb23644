-- `boot_is` or `ap_is`, by the bit.
use native.Mathlib.Omega.{arith}
use Rattle.widths.proofs.Laws.{boot_is, ap_is}
use Rattle.widths.proofs.boot_ap.Goals as goal

pub returns-then-flags-eq1 : goal.returns-then-flags-eq1
returns-then-flags-eq1 c = (boot_is c.args.flags (omega arith), omega arith)

pub returns-else-flags-eq1 : goal.returns-else-flags-eq1
returns-else-flags-eq1 c = (ap_is c.args.flags (omega arith), omega arith)
