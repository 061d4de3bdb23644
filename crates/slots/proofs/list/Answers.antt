-- The judge's refusal is the listing's; else the table is accepted, with its places.
use Rattle.std.proofs.lemmas.Result.{err_from_is_err_and}
use native.Mathlib.Omega.{arith}
use Rattle.judge.proofs.Laws.{examined_accepted}
use Rattle.slots.proofs.Answering.{examined_refused}
use Rattle.slots.proofs.list.Goals as goal

pub of_table-requires : goal.of_table-requires
of_table-requires c =
    let bytes = c.type_inv.t in
    examined_accepted c.args.t.now (λ i. omega (arith, bytes i)) c.examine.ensures c.in_ok-p.was

pub returns-in_err-p : goal.returns-in_err-p
returns-in_err-p c =
    let p = err_from_is_err_and c.from_residual.result c.from_residual.ensures.1 in
    let both = examined_refused c.args.t.now c.args.out.now c.examine.ensures c.in_err-p.was in
    record { value = rw (p.1, p.2) both.0; out_after = both.1 }
