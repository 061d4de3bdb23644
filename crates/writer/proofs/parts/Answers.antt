use mathlib.Core.Path.{◌∙◌}
use Rattle.std.proofs.lemmas.Result.{err_from_is_err_and}
use Rattle.writer.proofs.Calls.{parted_refused, parted_accepted}
use Rattle.writer.proofs.parts.Goals as goal

pub returns-in_err-judge : goal.returns-in_err-judge
returns-in_err-judge c =
    let p = err_from_is_err_and c.from_residual.result c.from_residual.ensures.1 in
    rw (p.1, p.2) (parted_refused _ c.judge.ensures c.in_err-judge.was)

pub returns : goal.returns
returns c =
    parted_accepted _ c.judge.ensures c.in_ok-judge.was (c.from-base.ensures ∙ c.base.ensures) (c.from.ensures ∙ c.extended.ensures)
