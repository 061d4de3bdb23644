-- `behind_walks` meets its contract, from what `from_14` ensures.
use Rattle.std.proofs.lemmas.Result.{err_from_is_err_and}
use Rattle.judge.proofs.Verdict.{rules_refused, rules_passed}
use Rattle.judge.proofs.behind_walks.Goals as goal

pub returns-in_err-from_14 : goal.returns-in_err-from_14
returns-in_err-from_14 c =
    let p = err_from_is_err_and c.from_residual.result c.from_residual.ensures.1 in
    rw (p.1, p.2) (rules_refused _ c.requires c.from_14.ensures c.in_err-from_14.was)

pub returns : goal.returns
returns c = rules_passed _ c.requires c.from_14.ensures c.in_ok-from_14.was
