-- Those counted, and those from here on, are all (`Counts`).
use Rattle.std.proofs.Common.{◌≡◌, ◌<◌, [], ◌∷◌, length, get_or, arith, rules}
use Rattle.entries.proofs.Laws.{size_bounds, counts_first, counts_next, counts_done}
use Rattle.entries.proofs.count.Goals as goal

pub loop-kind-init : goal.loop-kind-init
loop-kind-init c = counts_first c.args.s.now

pub overflow_add-at : goal.overflow_add-at
overflow_add-at c = let b = size_bounds (c.in-Some.kind.now ∷ []) in omega arith

pub overflow_add-n : goal.overflow_add-n
overflow_add-n c = let w = c.loop-kind.invariant.few in omega arith

pub loop-kind-smaller : goal.loop-kind-smaller
loop-kind-smaller c =
    let b = size_bounds (c.in-Some.kind.now ∷ []) in
    let h : c.loop-kind.at < length c.args.s.now = search rules in
    omega arith

pub loop-kind-preserved : goal.loop-kind-preserved
loop-kind-preserved c =
    let l = c.loop-kind in
    let e : c.in-Some.kind.now ≡ get_or c.args.s.now l.at 0 = search rules in
    counts_next c.args.s.now l.invariant (search rules) (rw e at c.size-at.ensures)

pub returns : goal.returns
returns c = counts_done c.args.s.now c.loop-kind.invariant (search rules)
