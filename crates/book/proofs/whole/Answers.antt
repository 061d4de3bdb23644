-- What the judge refuses.
use Rattle.std.proofs.lemmas.Result.{err_from_is_err_and}
use Rattle.book.proofs.Laws.{whole_refused, whole_more}
use Rattle.book.proofs.whole.Goals as goal

pub returns-in_err-p : goal.returns-in_err-p
returns-in_err-p c =
    let p = err_from_is_err_and c.from_residual.result c.from_residual.ensures.1 in
    rw (p.1, p.2) (whole_refused _ c.examine.ensures c.in_err-p.was)

pub returns-then-p-b : goal.returns-then-p-b
returns-then-p-b c = whole_more _ c.examine.ensures c.in_ok-p.was c.if-p-b.true
