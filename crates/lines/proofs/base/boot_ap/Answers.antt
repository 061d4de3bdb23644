-- The law of each word, from the bit.
use native.Mathlib.Omega.{arith}
use Rattle.mps.specs.Words.{text}
use Rattle.lines.proofs.BaseLines.{boot_is, ap_is}
use Rattle.lines.proofs.base.boot_ap.Goals as goal

pub returns-then-flags-eq1-clause-wrote : goal.returns-then-flags-eq1-clause-wrote
unfolding text
returns-then-flags-eq1-clause-wrote c = boot_is _ (omega arith) c.word.ensures.wrote

pub returns-else-flags-eq1-clause-wrote : goal.returns-else-flags-eq1-clause-wrote
unfolding text
returns-else-flags-eq1-clause-wrote c = ap_is _ (omega arith) c.word-else-flags-eq1.ensures.wrote
