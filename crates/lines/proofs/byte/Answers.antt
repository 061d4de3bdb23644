-- A byte of the number: `byte_is`.
use native.Mathlib.Omega.{arith}
use Rattle.lines.proofs.Numbers.{byte_is}
use Rattle.lines.proofs.byte.Goals as goal

pub returns : goal.returns
returns c =
    let args = c.args in
    byte_is 8 args.k args.e (omega arith)
