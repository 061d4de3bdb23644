-- The bytes before place i, moved, make the whole.
use Rattle.std.proofs.Common.{◌≡◌, suc, ◌-◌, length-set, refl, sym, ◌∙◌, arith}
use Rattle.slices.proofs.Laws.{raise_done, raise_next, raise_room}
use Rattle.slices.proofs.raise.Goals as goal

pub loop-i-init : goal.loop-i-init
loop-i-init c =
    let a = c.args in
    (raise_room a.s.now a.from a.by c.min-end.result a.to (omega arith), refl)

pub loop-i-preserved : goal.loop-i-preserved
loop-i-preserved c =
    let l = c.loop-i in
    let a = c.args in
    let k = l.i - 1 in
    let e : suc k ≡ l.i = omega arith in
    let next = raise_next l.s a.from a.by k (omega arith) (omega arith) in
    (sym (rw e at next) ∙ l.invariant.0, simp length-set l.invariant.1)

pub returns : goal.returns
returns c =
    let l = c.loop-i in
    let a = c.args in
    sym (raise_done l.s a.from a.by l.i (omega arith)) ∙ l.invariant.0
