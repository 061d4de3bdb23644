-- The judge's refusal is that of the edit, then one of 20 to 22; else the exchange answers.
use Rattle.std.proofs.Common.{refl, arith}
use Rattle.std.proofs.lemmas.Result.{err_from_is_err_and}
use Rattle.editor.specs.Tested.{edit_of}
use Rattle.editor.proofs.Laws.{examined_table, table_refused, entry_refused, ready, edit_exchanged}
use Rattle.editor.proofs.edit.Goals as goal
use Rattle.editor.proofs.edit.Goals.{In_ok-p}
use Rattle.editor.specs.Tested.{Accepted}

accepted : (c : In_ok-p) → Accepted c.args.t.now c.in_ok-p.p
accepted c = let bytes = c.slice_known-1.given in
    examined_table c.args.t.now (λ i. omega (arith, bytes i)) c.examine.ensures c.in_ok-p.was

pub returns-in_err-p : goal.returns-in_err-p
returns-in_err-p c =
    let a = c.args in
    let p = err_from_is_err_and c.from_residual.result c.from_residual.ensures.1 in
    let both = table_refused a.t.now (edit_of a.place a.stated.now a.wanted.now) c.examine.ensures c.in_err-p.was p.2 in
    record { value = rw p.1 both.0; t_after = both.1 }

pub test-requires : goal.test-requires
test-requires c = accepted (goal.at.test-requires c).In_ok-p

pub returns-in-Err : goal.returns-in-Err
returns-in-Err c =
    let a = c.args in
    let both = entry_refused a.t.now (edit_of a.place a.stated.now a.wanted.now) (accepted (goal.at.returns-in-Err c).In_ok-p)
    c.test.ensures c.in-Err.is refl in
    record { value = both.0; t_after = both.1 }

pub exchange-requires : goal.exchange-requires
exchange-requires c =
    let a = c.args in
    ready a.t.now (edit_of a.place a.stated.now a.wanted.now) (accepted (goal.at.exchange-requires c).In_ok-p) c.test.ensures c.in_default.is

pub returns : goal.returns
returns c =
    let a = c.args in
    let both = edit_exchanged a.t.now (edit_of a.place a.stated.now a.wanted.now) (accepted (goal.at.returns c).In_ok-p)
    c.test.ensures c.in_default.is (c.exchange.ensures.value, c.exchange.ensures.t_after) in
    record { value = both.0; t_after = both.1 }
