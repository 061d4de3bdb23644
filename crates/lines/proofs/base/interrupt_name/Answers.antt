-- The law of each word, from the number.
use native.Mathlib.Omega.{arith}
use Rattle.mps.specs.Words.{text}
use Rattle.lines.proofs.BaseLines.{int_is, nmi_is, smi_is, extint_is}
use Rattle.lines.proofs.base.interrupt_name.Goals as goal

pub returns-in-0-clause-wrote : goal.returns-in-0-clause-wrote
unfolding text
returns-in-0-clause-wrote c = int_is _ (omega arith) c.word.ensures.wrote

pub returns-in-1-clause-wrote : goal.returns-in-1-clause-wrote
unfolding text
returns-in-1-clause-wrote c = nmi_is _ (omega arith) c.word-in-1.ensures.wrote

pub returns-in-2-clause-wrote : goal.returns-in-2-clause-wrote
unfolding text
returns-in-2-clause-wrote c = smi_is _ (omega arith) c.word-in-2.ensures.wrote

pub returns-in_default-clause-wrote : goal.returns-in_default-clause-wrote
unfolding text
returns-in_default-clause-wrote c = extint_is _ (omega arith) c.word-in_default.ensures.wrote
