use Rattle.std.proofs.lemmas.Result.{err_from_is_err_and}
use Rattle.judge.proofs.Laws.{judged_ok, judged_err}
use Rattle.judge.proofs.judge.Goals as goal

pub returns-in_err-_places : goal.returns-in_err-_places
returns-in_err-_places c =
    let p = err_from_is_err_and c.from_residual.result c.from_residual.ensures.1 in
    rw (p.1, p.2) (judged_err _ c.examine.ensures c.in_err-_places.was)

pub returns : goal.returns
returns c = judged_ok _ c.examine.ensures c.in_ok-_places.was
