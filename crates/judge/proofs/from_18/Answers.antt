-- `from_18` meets its contract: a law of Ways.antt for each way out.
use native.Mathlib.Omega.{arith}
use Rattle.judge.proofs.Ways.{by_mapping, by_modifier, by_link, past_18}
use Rattle.mps.specs.Reasons.{refusal_numbered}
use Rattle.laws.proofs.Answers.{told}
use Rattle.judge.proofs.from_18.Goals as goal

pub returns-then-wrong_mappings : goal.returns-then-wrong_mappings
unfolding refusal_numbered
returns-then-wrong_mappings c =
    let h = c.requires in told tt (by_mapping h.placed h.named c.wrong_mappings.ensures c.if-wrong_mappings.true)

pub returns-then-wrong_modifiers : goal.returns-then-wrong_modifiers
unfolding refusal_numbered
returns-then-wrong_modifiers c =
    let h = c.requires in told tt (by_modifier h.placed h.named c.wrong_mappings.ensures c.wrong_modifiers.ensures c.if-wrong_modifiers.true)

pub returns-then-wrong : goal.returns-then-wrong
unfolding refusal_numbered
returns-then-wrong c =
    let h = c.requires in told tt (by_link h.placed h.named c.wrong_mappings.ensures c.wrong_modifiers.ensures c.wrong.ensures c.if-wrong.true)

pub returns : goal.returns
unfolding refusal_numbered
returns c =
    let h = c.requires in told tt (past_18 h.placed h.named c.wrong_mappings.ensures c.wrong_modifiers.ensures c.wrong.ensures
    c.if-wrong_mappings.false c.if-wrong_modifiers.false c.if-wrong.false)

pub slice_bounds-wrong_mappings-count : goal.slice_bounds-wrong_mappings-count
slice_bounds-wrong_mappings-count c = omega arith

pub slice_bounds-wrong_mappings-start : goal.slice_bounds-wrong_mappings-start
slice_bounds-wrong_mappings-start c = omega arith

pub slice_bounds-wrong_mappings-end : goal.slice_bounds-wrong_mappings-end
slice_bounds-wrong_mappings-end c = omega arith

pub slice_bounds-wrong_modifiers-count : goal.slice_bounds-wrong_modifiers-count
slice_bounds-wrong_modifiers-count c = omega arith

pub slice_bounds-wrong_modifiers-start : goal.slice_bounds-wrong_modifiers-start
slice_bounds-wrong_modifiers-start c = omega arith

pub slice_bounds-wrong_modifiers-end : goal.slice_bounds-wrong_modifiers-end
slice_bounds-wrong_modifiers-end c = omega arith

pub slice_bounds-wrong-count : goal.slice_bounds-wrong-count
slice_bounds-wrong-count c = omega arith

pub slice_bounds-wrong-start : goal.slice_bounds-wrong-start
slice_bounds-wrong-start c = omega arith

pub slice_bounds-wrong-end : goal.slice_bounds-wrong-end
slice_bounds-wrong-end c = omega arith
