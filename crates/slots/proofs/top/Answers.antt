-- The loop keeps `Tops`.
use native.Mathlib.Omega.{arith}
use Rattle.slots.proofs.Sets.{tops_done, tops_next}
use Rattle.slots.proofs.top.Goals as goal

pub loop-e-preserved : goal.loop-e-preserved
loop-e-preserved c =
    let s = c.in-Some.ensures.steps in
    let size = c.loop-e.invariant.0 in
    (omega (arith, s.0, size), tops_next _ _ _ c.loop-e.invariant.1 c.in-Some.e.now _ (omega (arith, s.1.1, size)) s.1.0 c.max-top.ensures, omega arith)

pub returns : goal.returns
returns c = (
  omega arith,
  omega arith,
  λ x h. tops_done _ _ _ c.loop-e.invariant.1 (omega (arith, c.in-None.ensures.steps.1.0, c.loop-e.invariant.0)) x (omega (arith, h, c.from.ensures)),
)
