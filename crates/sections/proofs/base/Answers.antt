-- `base` meets its contract, by a law for each of its three answers, from what the five runs ensure.
use native.Mathlib.Omega.{arith}
use Rattle.sections.proofs.BaseEntries.{RunEnds, run_ends, base_faulty, base_miscounted, base_sound}
use Rattle.sections.proofs.base.Goals as goal
use Rattle.sections.proofs.base.Goals.{After-run-end}

-- What the five runs ensure, in one.
places :
    (c : After-run-end)
    → RunEnds c.args.s.now c.run-buses.result c.run-ioapics.result
    c.run-interrupts.result c.run-locals.result c.run-end.result
places c =
    run_ends _ _ _ _ _ _ c.run-buses.ensures c.run-ioapics.ensures c.run-interrupts.ensures
    c.run-locals.ensures c.run-end.ensures

pub returns-then-end-s : goal.returns-then-end-s
returns-then-end-s c =
    base_faulty _ _ _ _ _ _ _ (places (goal.at.returns-then-end-s c).After-run-end) _ c.if-end-s.true c.fault.ensures

pub returns-then-buses-s : goal.returns-then-buses-s
returns-then-buses-s c =
    base_miscounted _ _ _ _ _ _ _ (places (goal.at.returns-then-buses-s c).After-run-end) (omega arith) c.if-buses-s.true

pub returns : goal.returns
returns c =
    base_sound _ _ _ _ _ _ _ (places (goal.at.returns c).After-run-end) (omega arith) c.if-buses-s.false
