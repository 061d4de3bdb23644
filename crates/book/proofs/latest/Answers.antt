-- A bad book's refusal is the call's.
use Rattle.std.proofs.lemmas.Result.{err_from_is_err_and}
use Rattle.book.proofs.Answering.{latest_refused}
use Rattle.book.proofs.latest.Goals as goal

pub returns-in_err-measure : goal.returns-in_err-measure
returns-in_err-measure c =
    let p = err_from_is_err_and c.from_residual.result c.from_residual.ensures.1 in
    rw (p.1, p.2) (latest_refused _ _ _ c.measure.ensures c.in_err-measure.was)
