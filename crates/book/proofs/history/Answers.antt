-- A bad book's refusal is the call's; 19 where the room is too small for a row each; else all rows.
use Rattle.std.proofs.lemmas.Result.{err_from_is_err_and}
use Rattle.pages.proofs.Bytes.{readable1}
use Rattle.book.proofs.Answering.{booked_measured, history_refused, history_short, history_put}
use Rattle.book.proofs.history.Goals as goal

pub returns-in_err-rows : goal.returns-in_err-rows
returns-in_err-rows c =
    let p = err_from_is_err_and c.from_residual.result c.from_residual.ensures.1 in
    let both = history_refused _ _ _ c.measure.ensures c.in_err-rows.was in record { value = rw (p.1, p.2) both.0; out_after = both.1 }

pub returns-then-out-rows : goal.returns-then-out-rows
returns-then-out-rows c =
    let m = booked_measured _ _ c.measure.ensures c.in_ok-rows.was in
    let both = history_short _ _ _ m.good m.count c.if-out-rows.true in record { value = both.0; out_after = both.1 }

pub returns : goal.returns
returns c =
    let m = booked_measured _ _ c.measure.ensures c.in_ok-rows.was in
    let both = history_put _ _ _ m.good m.count readable1 c.if-out-rows.false c.list.ensures in record { value = both.0; out_after = both.1 }
