-- `seen` meets its contract, from what the judge's answers mean.
use Rattle.std.proofs.lemmas.Result.{err_from_is_err_and}
use native.Mathlib.Omega.{arith}
use Rattle.judge.proofs.Laws.{examined_accepted}
use Rattle.addresses.proofs.Laws.{refused_seen}
use Rattle.addresses.proofs.seen.Goals as goal

pub behind_table-requires : goal.behind_table-requires
behind_table-requires c =
    let bytes = c.type_inv.t in
    examined_accepted c.args.t.now (λ i. omega (arith, bytes i)) c.examine.ensures c.in_ok-p.was

pub returns-in_err-p : goal.returns-in_err-p
returns-in_err-p c =
    let a = c.args in
    let p = err_from_is_err_and c.from_residual.result c.from_residual.ensures.1 in
    rw (p.1, p.2) (refused_seen a.t.now a.bus a.kind a.address c.examine.ensures c.in_err-p.was)
