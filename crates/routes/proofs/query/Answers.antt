-- The judge's refusal is the query's; else the table is accepted, with its places.
use Rattle.std.proofs.lemmas.Result.{err_from_is_err_and}
use native.Mathlib.Omega.{arith}
use Rattle.mps.specs.Routes.{question, routes_of}
use Rattle.routes.specs.Pairs.{side_of}
use Rattle.judge.proofs.Laws.{examined_accepted}
use Rattle.routes.proofs.Numbers.{examined_refused, line_own, line_some, line_answers}
use Rattle.routes.proofs.query.Goals as goal

pub behind_table-requires : goal.behind_table-requires
behind_table-requires c =
    let bytes = c.type_inv.t in
    examined_accepted c.args.t.now (λ i. omega (arith, bytes i)) c.examine.ensures c.in_ok-p.was

pub returns-in_err-p : goal.returns-in_err-p
returns-in_err-p c =
    let a = c.args in
    let q = question (side_of a.side) a.itype a.bus a.irq in
    let t = a.t.now in
    let p = err_from_is_err_and c.from_residual.result c.from_residual.ensures.1 in
    let both = line_answers t a.out.now q
    (examined_refused t (line_own q t) (line_some q t) (routes_of q t) a.out.now c.examine.ensures c.in_err-p.was) in
    record { value = rw (p.1, p.2) both.0; out_after = both.1 }
