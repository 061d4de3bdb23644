use native.Mathlib.Omega.{arith}
use Rattle.contracts.proofs.lent.Goals as goal

pub returns : goal.returns
returns c = λ i. omega (arith, c.type_inv.t i)
