-- The place found in the body is the first good candidate of the region.
use native.Mathlib.Omega.{arith}
use Rattle.finding.proofs.Spots.{spots_blank, found_inside, spots_at_lem, spots_nothing}
use Rattle.finding.proofs.spot_in.Goals as goal

pub returns-in_err-r : goal.returns-in_err-r
returns-in_err-r c = rw c.from_residual.ensures (spots_blank _ c.in_err-r.was)

pub returns-in_err-at : goal.returns-in_err-at
returns-in_err-at c =
    let r = c.in_ok-r in
    rw (c.from_residual-in_err-at.ensures, r.was) (spots_nothing _ _ (rw r.was at c.requires) c.search.ensures c.in_err-at.was)

pub overflow_cast-result : goal.overflow_cast-result
overflow_cast-result c =
    let fits = rw c.in_ok-r.was at c.requires in
    omega (arith, found_inside _ c.in_ok-r.r fits c.search.ensures _ c.in_ok-at.was, fits)

pub overflow_add-result : goal.overflow_add-result
overflow_add-result c =
    let fits = rw c.in_ok-r.was at c.requires in
    omega (arith, found_inside _ c.in_ok-r.r fits c.search.ensures _ c.in_ok-at.was, fits)

pub overflow_add-result-2 : goal.overflow_add-result-2
overflow_add-result-2 c =
    let fits = rw c.in_ok-r.was at c.requires in
    omega (arith, found_inside _ c.in_ok-r.r fits c.search.ensures _ c.in_ok-at.was, fits)

pub returns : goal.returns
returns c =
    let r = c.in_ok-r in
    rw r.was (spots_at_lem _ _ (rw r.was at c.requires) c.search.ensures _ c.in_ok-at.was)
