use native.Mathlib.Omega.{arith}
use Rattle.contracts.proofs.lent_to_write.Goals as goal

pub returns : goal.returns
returns c =
    let known = c.slice_known-1.given in
    record { bytes = λ i. omega (arith, known i); bytes_2 = λ i. omega (arith, known i) }
