use Prim.Native.Nat.{◌^◌}
use mathlib.Core.Path.{refl}
use native.Mathlib.Omega.{arith}
use Rattle.reader.proofs.Laws.{next_fits, next_is, given_at, stays_at}
use Rattle.reader.proofs.behind.Goals as goal

pub overflow_add-result : goal.overflow_add-result
overflow_add-result c =
    let a = c.args in
    let h = next_fits a.t.now a.place (2 ^ 64) (omega arith) (omega arith) in
    let e = given_at a.t.now a.place c.size.ensures c.in-Some.is in
    omega (arith, h, e)

pub returns-in-Some : goal.returns-in-Some
returns-in-Some c = let a = c.args in next_is a.t.now a.place (given_at a.t.now a.place c.size.ensures c.in-Some.is) refl

pub returns-in-None : goal.returns-in-None
returns-in-None c = let a = c.args in next_is a.t.now a.place (stays_at a.t.now a.place c.size.ensures c.in-None.is) (omega arith)
