-- The upper half of the number: `high_is`.
use native.Mathlib.Omega.{arith}
use Rattle.lines.proofs.Numbers.{high_is}
use Rattle.lines.proofs.high.Goals as goal

pub returns : goal.returns
returns c =
    let args = c.args in
    high_is args.e (omega arith)
