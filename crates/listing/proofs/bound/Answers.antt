-- `table_longest`, with the two lengths as the code reads them.
use native.Mathlib.Omega.{arith}
use Rattle.listing.proofs.Longest.{table_longest}
use Rattle.listing.proofs.bound.Goals as goal

pub returns : goal.returns
returns c pointer imcr address =
    omega (arith, c.extended-extended.ensures, c.base-base.ensures, table_longest c.args.t.now c.requires pointer imcr address)
