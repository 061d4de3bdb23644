-- `examine` meets its contract: refused by the header or the walk, else by what is behind the base.
use Prim.Native.Nat.{◌+◌}
use Rattle.std.proofs.lemmas.Result.{err_from_is_err_and}
use native.Mathlib.Omega.{arith}
use Rattle.header.proofs.Laws.{header_passed}
use Rattle.judge.specs.Stages.{Walked}
use Rattle.judge.proofs.Verdict.{head_refused, head_passed, walk_refused, walk_passed, walk_fits}
use Rattle.judge.proofs.examine.Goals as goal
use Rattle.judge.proofs.examine.Goals.{In_ok-walked}

pub returns-in_err-check : goal.returns-in_err-check
returns-in_err-check c =
    let p = err_from_is_err_and c.from_residual.result c.from_residual.ensures.1 in
    rw (p.1, p.2) (head_refused _ c.check.ensures c.in_err-check.was)

pub slice_bounds-base-count : goal.slice_bounds-base-count
slice_bounds-base-count c =
    let h = header_passed _ (head_passed _ c.check.ensures c.in_ok-check.was) in
    omega (arith, h)

pub slice_bounds-base-start : goal.slice_bounds-base-start
slice_bounds-base-start c =
    let h = header_passed _ (head_passed _ c.check.ensures c.in_ok-check.was) in
    omega (arith, h)

pub slice_bounds-base-end : goal.slice_bounds-base-end
slice_bounds-base-end c =
    let h = header_passed _ (head_passed _ c.check.ensures c.in_ok-check.was) in
    omega (arith, h)

pub returns-in_err-walked : goal.returns-in_err-walked
returns-in_err-walked c =
    let p = err_from_is_err_and c.from_residual-in_err-walked.result c.from_residual-in_err-walked.ensures.1 in
    let h = head_passed _ c.check.ensures c.in_ok-check.was in
    rw (p.1, p.2) (walk_refused _ c.base-base.ensures c.count-count.ensures h c.base.ensures c.in_err-walked.was)

-- The places of the base.
places : (c : In_ok-walked)
    → Walked c.args.t.now (record {
      buses = 44 + c.in_ok-walked.walked.buses;
      ioapics = 44 + c.in_ok-walked.walked.ioapics;
      interrupts = 44 + c.in_ok-walked.walked.interrupts;
      locals = 44 + c.in_ok-walked.walked.locals;
      mappings = c.base-base.result;
      links = c.base-base.result;
      modifiers = c.base-base.result;
      others = c.base-base.result;
      end = c.base-base.result;
    })
places c =
    let h = head_passed _ c.check.ensures c.in_ok-check.was in
    walk_passed _ c.base-base.ensures c.count-count.ensures h c.base.ensures c.in_ok-walked.was

pub behind_base-requires : goal.behind_base-requires
behind_base-requires c = places (goal.at.behind_base-requires c).In_ok-walked

pub overflow_add-walked : goal.overflow_add-walked
overflow_add-walked c =
    let g = places (goal.at.overflow_add-walked c).In_ok-walked in
    omega (arith, walk_fits c.args.t.now g)

pub overflow_add-walked-2 : goal.overflow_add-walked-2
overflow_add-walked-2 c =
    let g = places (goal.at.overflow_add-walked-2 c).In_ok-walked in
    omega (arith, walk_fits c.args.t.now g)

pub overflow_add-walked-3 : goal.overflow_add-walked-3
overflow_add-walked-3 c =
    let g = places (goal.at.overflow_add-walked-3 c).In_ok-walked in
    omega (arith, walk_fits c.args.t.now g)

pub overflow_add-walked-4 : goal.overflow_add-walked-4
overflow_add-walked-4 c =
    let g = places (goal.at.overflow_add-walked-4 c).In_ok-walked in
    omega (arith, walk_fits c.args.t.now g)
