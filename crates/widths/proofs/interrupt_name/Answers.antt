-- Three of the four names have three letters.
use native.Mathlib.Omega.{arith}
use Rattle.widths.proofs.Laws.{short_name, long_name}
use Rattle.widths.proofs.interrupt_name.Goals as goal

pub returns-then-kind-lt3 : goal.returns-then-kind-lt3
returns-then-kind-lt3 c = (short_name c.args.kind c.if-kind-lt3.true, omega arith)

pub returns-else-kind-lt3 : goal.returns-else-kind-lt3
returns-else-kind-lt3 c = (long_name c.args.kind c.if-kind-lt3.false, omega arith)
