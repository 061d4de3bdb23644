-- The judge's refusal is the query's; else the table is accepted, with its places.
use Rattle.std.proofs.lemmas.Result.{err_from_is_err_and}
use native.Mathlib.Omega.{arith}
use Rattle.mps.specs.Slots.{slot, slot_routes_of}
use Rattle.judge.proofs.Laws.{examined_accepted}
use Rattle.routes.proofs.Numbers.{examined_refused, slot_own, slot_some, slot_answers}
use Rattle.routes.proofs.slot.Goals as goal

pub slot_behind_table-requires : goal.slot_behind_table-requires
slot_behind_table-requires c =
    let bytes = c.type_inv.t in
    examined_accepted c.args.t.now (λ i. omega (arith, bytes i)) c.examine.ensures c.in_ok-p.was

pub returns-in_err-p : goal.returns-in_err-p
returns-in_err-p c =
    let a = c.args in
    let s = slot a.bus a.device a.pin in
    let t = a.t.now in
    let p = err_from_is_err_and c.from_residual.result c.from_residual.ensures.1 in
    let both = slot_answers t a.out.now s
    (examined_refused t (slot_own s t) (slot_some s t) (slot_routes_of s t) a.out.now c.examine.ensures c.in_err-p.was) in
    record { value = rw (p.1, p.2) both.0; out_after = both.1 }
