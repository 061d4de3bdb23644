-- A bad book's refusal is the call's, then that of an edition that it does not hold, then that of the addition; else the old body, which
-- lies in the book, is raised behind the end, and the book grows.
use native.Mathlib.Omega.{arith}
use Rattle.std.proofs.lemmas.Result.{err_from_is_err_and}
use Rattle.saving.proofs.Laws.{bad_book_lem, restore_none, restore_stands, restore_late, restore_done}
use Rattle.saving.proofs.restore.Goals as goal

pub returns-in_err-found : goal.returns-in_err-found
returns-in_err-found c =
    let p = err_from_is_err_and c.from_residual.result c.from_residual.ensures.1 in
    let both = bad_book_lem _ _ c.measure.ensures c.in_err-found.was in record { value = rw (p.1, p.2) both.0; room_after = both.1 }

pub returns-in_err-row : goal.returns-in_err-row
returns-in_err-row c =
    let p = err_from_is_err_and c.from_residual-in_err-row.result c.from_residual-in_err-row.ensures.1 in
    let both = restore_none _ _ _ _ c.measure.ensures c.in_ok-found.was c.find.ensures.row c.ok_or.ensures.value c.in_err-row.was in record { value = rw (p.1, p.2) both.0; room_after = both.1 }

pub returns-in_err-test : goal.returns-in_err-test
returns-in_err-test c =
    let p = err_from_is_err_and c.from_residual-in_err-test.result c.from_residual-in_err-test.ensures.1 in
    let both = restore_late _ _ _ _ c.measure.ensures c.in_ok-found.was c.find.ensures.row c.ok_or.ensures.value c.in_ok-row.was
    c.test.ensures c.in_err-test.was in record { value = rw (p.1, p.2) both.0; room_after = both.1 }

pub overflow_sub-found : goal.overflow_sub-found
overflow_sub-found c =
    let ends = restore_stands _ _ _ c.args.latest c.measure.ensures c.in_ok-found.was c.find.ensures.row c.ok_or.ensures.value c.in_ok-row.was in
    omega (arith, ends)

pub returns : goal.returns
returns c =
    let g = c.grow.ensures in
    let both = restore_done _ _ _ _ c.measure.ensures c.in_ok-found.was c.find.ensures.row c.ok_or.ensures.value c.in_ok-row.was
    c.test.ensures c.in_ok-test.was c.raise.ensures g.rows g.size g.room_after in record { value = both.0; room_after = both.1 }
