-- The number is that of a name: `quick_is`.
use native.Mathlib.Omega.{arith}
use Rattle.buses.proofs.Laws.{quick_is}
use Rattle.buses.proofs.is_quick.Goals as goal

pub returns : goal.returns
returns c = λ q. quick_is _ (omega arith) (λ i. omega (arith, c.type_inv.e i)) c.le64.ensures c.quick.ensures q
