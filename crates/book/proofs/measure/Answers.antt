-- Where the bodies end, and whether the editions run.
use Rattle.std.proofs.lemmas.Result.{err_from_is_err_and}
use Rattle.book.proofs.Answering.{ends_nowhere}
use Rattle.book.proofs.measure.Goals as goal

pub returns-in_err-size : goal.returns-in_err-size
returns-in_err-size c =
    let p = err_from_is_err_and c.from_residual.result c.from_residual.ensures.1 in
    rw (p.1, p.2) (ends_nowhere _ c.end.ensures c.ok_or.ensures.value c.in_err-size.was)
