-- `check` meets its contract: 5 and 6 here, 7 to 9 by what `behind_signature` ensures.
use Rattle.std.proofs.Common.{sym, ◌∙◌, arith}
use Rattle.header.proofs.Laws.{signature_is, is_cut, is_unsigned, is_signed}
use Rattle.mps.specs.Reasons.{refusal_numbered}
use Rattle.laws.proofs.Answers.{told}
use Rattle.header.proofs.check.Goals as goal

pub returns-then-t-lt-HEADER_SIZE : goal.returns-then-t-lt-HEADER_SIZE
unfolding refusal_numbered
returns-then-t-lt-HEADER_SIZE c = told tt (is_cut _ c.if-t-lt-HEADER_SIZE.true)

pub returns-then-starts_with : goal.returns-then-starts_with
unfolding refusal_numbered
returns-then-starts_with c =
    c.behind_signature.ensures ∙ told tt (is_signed _ (omega arith) (sym (signature_is _ c.starts_with.ensures.value) ∙ c.if-starts_with.true))

pub returns : goal.returns
unfolding refusal_numbered
returns c = told tt (is_unsigned _ (omega arith) (sym (signature_is _ c.starts_with.ensures.value) ∙ c.if-starts_with.false))
