-- `from_17` meets its contract: a law of Ways.antt for each way out.
use mathlib.Core.Path.{◌∙◌}
use native.Mathlib.Omega.{arith}
use Rattle.judge.proofs.Ways.{by_interrupt, by_local, past_17}
use Rattle.mps.specs.Reasons.{refusal_numbered}
use Rattle.laws.proofs.Answers.{told}
use Rattle.judge.proofs.from_17.Goals as goal

pub returns-then-wrong_io : goal.returns-then-wrong_io
unfolding refusal_numbered
returns-then-wrong_io c = let h = c.requires in told tt (by_interrupt h.placed h.named c.wrong_io.ensures c.if-wrong_io.true)

pub returns-then-wrong_local : goal.returns-then-wrong_local
unfolding refusal_numbered
returns-then-wrong_local c =
    let h = c.requires in told tt (by_local h.placed h.named c.wrong_io.ensures c.wrong_local.ensures c.if-wrong_local.true)

pub returns : goal.returns
unfolding refusal_numbered
returns c =
    let h = c.requires in
    c.from_18.ensures
    ∙ told tt (past_17 h.placed h.named c.wrong_io.ensures c.wrong_local.ensures c.if-wrong_io.false c.if-wrong_local.false)

pub slice_bounds-wrong_io-count : goal.slice_bounds-wrong_io-count
slice_bounds-wrong_io-count c = omega arith

pub slice_bounds-wrong_io-start : goal.slice_bounds-wrong_io-start
slice_bounds-wrong_io-start c = omega arith

pub slice_bounds-wrong_io-end : goal.slice_bounds-wrong_io-end
slice_bounds-wrong_io-end c = omega arith

pub slice_bounds-wrong_local-count : goal.slice_bounds-wrong_local-count
slice_bounds-wrong_local-count c = omega arith

pub slice_bounds-wrong_local-start : goal.slice_bounds-wrong_local-start
slice_bounds-wrong_local-start c = omega arith

pub slice_bounds-wrong_local-end : goal.slice_bounds-wrong_local-end
slice_bounds-wrong_local-end c = omega arith
