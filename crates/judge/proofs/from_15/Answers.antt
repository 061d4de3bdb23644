-- `from_15` meets its contract: a law of Ways.antt for each way out.
use mathlib.Core.Path.{◌∙◌}
use native.Mathlib.Omega.{arith}
use Rattle.judge.proofs.Ways.{by_bus, past_15, roll_15}
use Rattle.mps.specs.Reasons.{refusal_numbered}
use Rattle.laws.proofs.Answers.{told}
use Rattle.judge.proofs.from_15.Goals as goal

pub returns-then-wrong : goal.returns-then-wrong
unfolding refusal_numbered
returns-then-wrong c = let h = c.requires in told tt (by_bus h.placed h.rolled c.wrong.ensures.value c.if-wrong.true)

pub from_16-requires : goal.from_16-requires
from_16-requires c =
    let h = c.requires in
    let w = c.wrong.ensures in record { placed = h.placed; rolled = roll_15 h.placed h.rolled w.value c.if-wrong.false w.roll_after }

pub returns : goal.returns
unfolding refusal_numbered
returns c =
    let h = c.requires in
    c.from_16.ensures ∙ told tt (past_15 h.placed h.rolled c.wrong.ensures.value c.if-wrong.false)

pub slice_bounds-wrong-count : goal.slice_bounds-wrong-count
slice_bounds-wrong-count c = omega arith

pub slice_bounds-wrong-start : goal.slice_bounds-wrong-start
slice_bounds-wrong-start c = omega arith

pub slice_bounds-wrong-end : goal.slice_bounds-wrong-end
slice_bounds-wrong-end c = omega arith
