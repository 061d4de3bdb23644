-- `text::width` meets its contract: the sum over the bounds is `decimal_width`.
use native.Mathlib.Omega.{arith}
use Rattle.text.proofs.Laws.{width_is}
use Rattle.text.proofs.width.Goals as goal

pub returns : goal.returns
returns c = (omega (arith, width_is c.args.x), omega arith)
