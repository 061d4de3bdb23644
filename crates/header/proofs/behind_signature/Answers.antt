-- `behind_signature` meets its contract: a law of Laws.antt for each way out.
use Rattle.std.proofs.Common.{sym, arith, length-take-le}
use Rattle.header.proofs.Laws.{is_short, is_long, is_past, is_missummed, is_unknown, is_good}
use Rattle.mps.specs.Reasons.{refusal_numbered}
use Rattle.laws.proofs.Answers.{told}
use Rattle.header.proofs.behind_signature.Goals as goal

pub returns-then-base-lt-HEADER_SIZE : goal.returns-then-base-lt-HEADER_SIZE
unfolding refusal_numbered
returns-then-base-lt-HEADER_SIZE c = told tt (is_short _ (omega arith))

pub returns-then-base-gt-PART_MOST : goal.returns-then-base-gt-PART_MOST
unfolding refusal_numbered
returns-then-base-gt-PART_MOST c = told tt (is_long _ (omega arith))

pub returns-then-t-base : goal.returns-then-t-base
unfolding refusal_numbered
returns-then-t-base c = told tt (is_past _ (omega arith))

pub slice_bounds-sum-end : goal.slice_bounds-sum-end
slice_bounds-sum-end c = sym (length-take-le _ c.args.t.now (omega arith))

pub returns-then-sum-ne0 : goal.returns-then-sum-ne0
unfolding refusal_numbered
returns-then-sum-ne0 c = told tt (is_missummed _ (omega arith) (omega arith) (omega arith) c.sum.ensures c.requires.0 c.if-sum-ne0.true)

pub returns-then-t-ne-SPEC_REVISION : goal.returns-then-t-ne-SPEC_REVISION
unfolding refusal_numbered
returns-then-t-ne-SPEC_REVISION c = told tt (is_unknown _ (omega arith) (omega arith) (omega arith) c.sum.ensures c.requires.0 (omega arith) c.if-t-ne-SPEC_REVISION.true)

pub returns : goal.returns
unfolding refusal_numbered
returns c = told tt (is_good _ (omega arith) (omega arith) (omega arith) c.sum.ensures c.requires.0 (omega arith) c.if-t-ne-SPEC_REVISION.false)
