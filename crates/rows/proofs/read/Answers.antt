use native.Mathlib.Omega.{arith}
use Rattle.rows.proofs.Laws.{row_read}
use Rattle.rows.proofs.read.Goals as goal

pub returns : goal.returns
returns c = let bytes = c.type_inv.s in row_read _ (λ i. omega (arith, bytes i)) _ c.le64-all.ensures
