-- A bad book's refusal is the call's, then the body's own, then that of the addition; else the body is copied behind the end, and the
-- book grows.
use Rattle.std.proofs.lemmas.Result.{err_from_is_err_and}
use Rattle.saving.proofs.Laws.{bad_book_lem, save_own, save_late, save_done}
use Rattle.saving.proofs.save.Goals as goal

pub returns-in_err-found : goal.returns-in_err-found
returns-in_err-found c =
    let p = err_from_is_err_and c.from_residual.result c.from_residual.ensures.1 in
    let both = bad_book_lem _ _ c.measure.ensures c.in_err-found.was in record { value = rw (p.1, p.2) both.0; room_after = both.1 }

pub returns-in_err-_sure : goal.returns-in_err-_sure
returns-in_err-_sure c =
    let p = err_from_is_err_and c.from_residual-in_err-_sure.result c.from_residual-in_err-_sure.ensures.1 in
    let both = save_own _ _ _ _ c.measure.ensures c.in_ok-found.was c.whole.ensures c.in_err-_sure.was in record { value = rw (p.1, p.2) both.0; room_after = both.1 }

pub returns-in_err-test : goal.returns-in_err-test
returns-in_err-test c =
    let p = err_from_is_err_and c.from_residual-in_err-test.result c.from_residual-in_err-test.ensures.1 in
    let both = save_late _ _ _ _ c.measure.ensures c.in_ok-found.was c.whole.ensures c.in_ok-_sure.was c.test.ensures c.in_err-test.was in record { value = rw (p.1, p.2) both.0; room_after = both.1 }

pub returns : goal.returns
returns c =
    let g = c.grow.ensures in
    let both = save_done _ _ _ _ c.measure.ensures c.in_ok-found.was c.whole.ensures c.in_ok-_sure.was c.test.ensures c.in_ok-test.was
    c.copy.ensures g.rows g.size g.room_after in record { value = both.0; room_after = both.1 }
