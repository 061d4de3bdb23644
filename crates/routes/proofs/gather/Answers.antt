-- One more ID is still to come.
use mathlib.Core.Path.{ap}
use native.Mathlib.Omega.{arith}
use lib.ListN.{length}
use Rattle.laws.proofs.Enabled.{ids_on}
use Rattle.apics.specs.Enabled.{enabled_in}
use Rattle.routes.proofs.gather.Goals as goal

pub bounds-ids-count : goal.bounds-ids-count
unfolding enabled_in
bounds-ids-count c =
    let s = c.in-Some.ensures.steps in
    let size = c.loop-e.invariant.0 in
    omega (
      arith,
      c.requires.1,
      c.loop-e.invariant.1,
      ap length (ids_on c.args.size _ c.in-Some.e.now _ (omega (arith, c.requires.0)) (omega (arith, s.1.1, size)) s.1.0 c.if-e-eq1.true),
    )
