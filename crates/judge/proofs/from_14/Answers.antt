-- `from_14` meets its contract: a law of Ways.antt for each way out.
use mathlib.Core.Path.{◌∙◌}
use native.Mathlib.Omega.{arith}
use Rattle.judge.proofs.Ways.{by_local_apic, by_processor, past_14, roll_14}
use Rattle.mps.specs.Reasons.{refusal_numbered}
use Rattle.laws.proofs.Answers.{told}
use Rattle.judge.proofs.from_14.Goals as goal

pub returns-then-le32-ne0 : goal.returns-then-le32-ne0
unfolding refusal_numbered
returns-then-le32-ne0 c = told tt (by_local_apic c.requires c.le32.ensures c.if-le32-ne0.true)

pub returns-then-wrong_processors : goal.returns-then-wrong_processors
unfolding refusal_numbered
returns-then-wrong_processors c = told tt (by_processor c.requires c.le32.ensures c.put.ensures c.wrong_processors.ensures.value c.if-wrong_processors.true)

pub from_15-requires : goal.from_15-requires
from_15-requires c =
    let h = c.requires in
    let w = c.wrong_processors.ensures in record { placed = h; rolled = roll_14 h c.le32.ensures c.put.ensures w.value c.if-wrong_processors.false w.roll_after }

pub returns : goal.returns
unfolding refusal_numbered
returns c =
    let w = c.wrong_processors.ensures in
    c.from_15.ensures
    ∙ told tt (past_14 c.requires c.le32.ensures c.put.ensures w.value (omega arith) c.if-wrong_processors.false)

pub slice_bounds-wrong_processors-count : goal.slice_bounds-wrong_processors-count
slice_bounds-wrong_processors-count c = omega arith

pub slice_bounds-wrong_processors-start : goal.slice_bounds-wrong_processors-start
slice_bounds-wrong_processors-start c = omega arith

pub slice_bounds-wrong_processors-end : goal.slice_bounds-wrong_processors-end
slice_bounds-wrong_processors-end c = omega arith
