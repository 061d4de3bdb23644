-- `behind_base` meets its contract: refused with 13, else by what is behind the walks. That the places fit follows from those
-- of the definition, `more_passed`.
use Prim.Native.Nat.{◌+◌}
use mathlib.Core.Path.{sym, ◌∙◌}
use Rattle.std.proofs.lemmas.Result.{err_from_is_err_and}
use native.Mathlib.Omega.{arith}
use Rattle.header.proofs.Laws.{header_passed, extended_fits}
use Rattle.judge.specs.Stages.{Ready}
use Rattle.judge.proofs.Verdict.{part_refused, more_refused, more_passed}
use Rattle.judge.proofs.behind_base.Goals as goal
use Rattle.judge.proofs.behind_base.Goals.{In_ok-walked}

pub returns-then-wrong_extended : goal.returns-then-wrong_extended
returns-then-wrong_extended c = part_refused _ c.requires c.wrong_extended.ensures c.if-wrong_extended.true

pub overflow_add-end : goal.overflow_add-end
overflow_add-end c =
    let g = c.requires in
    let h = header_passed _ g.header in
    let f = extended_fits _ (sym c.wrong_extended.ensures ∙ c.if-wrong_extended.false) in
    omega (arith, g.mappings, h.inside, f)

pub slice_bounds-extended-count : goal.slice_bounds-extended-count
slice_bounds-extended-count c = omega arith

pub slice_bounds-extended-start : goal.slice_bounds-extended-start
slice_bounds-extended-start c = omega arith

pub slice_bounds-extended-end : goal.slice_bounds-extended-end
slice_bounds-extended-end c =
    let g = c.requires in
    let h = header_passed _ g.header in
    let f = extended_fits _ (sym c.wrong_extended.ensures ∙ c.if-wrong_extended.false) in
    omega (arith, g.mappings, h.inside, f)

pub returns-in_err-walked : goal.returns-in_err-walked
returns-in_err-walked c =
    let p = err_from_is_err_and c.from_residual.result c.from_residual.ensures.1 in
    let g = c.requires in
    rw (p.1, p.2)
    (more_refused _ g c.wrong_extended.ensures c.if-wrong_extended.false g.mappings c.extended.ensures c.extended-2.ensures
    c.ok_or.ensures.value c.in_err-walked.was)

ready : (c : In_ok-walked)
    → Ready c.args.t.now (record {
      buses = c.args.p.buses;
      ioapics = c.args.p.ioapics;
      interrupts = c.args.p.interrupts;
      locals = c.args.p.locals;
      mappings = c.args.p.mappings;
      links = c.args.p.mappings + c.in_ok-walked.walked.links;
      modifiers = c.args.p.mappings + c.in_ok-walked.walked.modifiers;
      others = c.args.p.mappings + c.in_ok-walked.walked.others;
      end = c.args.p.mappings + c.extended.result;
    })
ready c =
    let g = c.requires in
    more_passed _ g c.wrong_extended.ensures c.if-wrong_extended.false g.mappings c.extended.ensures c.extended-2.ensures
    c.ok_or.ensures.value c.in_ok-walked.was (λ i. omega (arith, c.type_inv.t i))

pub behind_walks-requires : goal.behind_walks-requires
behind_walks-requires c = ready (goal.at.behind_walks-requires c).In_ok-walked

pub overflow_add-base : goal.overflow_add-base
overflow_add-base c = let r = ready (goal.at.overflow_add-base c).In_ok-walked in omega (arith, r.placed)

pub overflow_add-base-2 : goal.overflow_add-base-2
overflow_add-base-2 c = let r = ready (goal.at.overflow_add-base-2 c).In_ok-walked in omega (arith, r.placed)

pub overflow_add-base-3 : goal.overflow_add-base-3
overflow_add-base-3 c = let r = ready (goal.at.overflow_add-base-3 c).In_ok-walked in omega (arith, r.placed)
