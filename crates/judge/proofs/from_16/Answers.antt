-- `from_16` meets its contract: a law of Ways.antt for each way out.
use mathlib.Core.Path.{◌∙◌}
use native.Mathlib.Omega.{arith}
use Rattle.judge.proofs.Ways.{by_apic, past_16, roll_16}
use Rattle.mps.specs.Reasons.{refusal_numbered}
use Rattle.laws.proofs.Answers.{told}
use Rattle.judge.proofs.from_16.Goals as goal

pub returns-then-wrong_io_apics : goal.returns-then-wrong_io_apics
unfolding refusal_numbered
returns-then-wrong_io_apics c =
    let h = c.requires in told tt (by_apic h.placed h.rolled c.wrong_io_apics.ensures.value c.if-wrong_io_apics.true)

pub from_17-requires : goal.from_17-requires
from_17-requires c =
    let h = c.requires in
    let w = c.wrong_io_apics.ensures in record { placed = h.placed; named = roll_16 h.placed h.rolled w.value c.if-wrong_io_apics.false w.roll_after c.put.ensures }

pub returns : goal.returns
unfolding refusal_numbered
returns c =
    let h = c.requires in
    c.from_17.ensures ∙ told tt (past_16 h.placed h.rolled c.wrong_io_apics.ensures.value c.if-wrong_io_apics.false)

pub slice_bounds-wrong_io_apics-count : goal.slice_bounds-wrong_io_apics-count
slice_bounds-wrong_io_apics-count c = omega arith

pub slice_bounds-wrong_io_apics-start : goal.slice_bounds-wrong_io_apics-start
slice_bounds-wrong_io_apics-start c = omega arith

pub slice_bounds-wrong_io_apics-end : goal.slice_bounds-wrong_io_apics-end
slice_bounds-wrong_io_apics-end c = omega arith
