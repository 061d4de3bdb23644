-- What is read so far is the number from `at + i` on: `le_next` at each turn. It fits, since its bytes do: `le_within`.
use Prim.Native.Nat.{◌+◌, ◌-◌}
use mathlib.Core.Path.{◌≡◌}
use native.Mathlib.Omega.{arith}
use native.Mathlib.Nat.{add-zero, sub_self, sub-zero}
use Rattle.mps.specs.Numbers.{le}
use Rattle.numbers.proofs.Laws.{le_below, le_next, le_within}
use Rattle.numbers.proofs.le_rest.Goals as goal
use Rattle.numbers.proofs.le_rest.Goals.{In-loop-i}

pub loop-i-init : goal.loop-i-init
unfolding le
loop-i-init c = rw sub_self

pub overflow_mul-r : goal.overflow_mul-r
overflow_mul-r c =
    let a = c.args in
    let i = c.loop-i.i in
    omega (arith, le_within (a.n - i) 7 a.s.now (a.at + i) (omega arith) (λ k. omega (arith, c.type_inv.s k)))

pub overflow_add-r : goal.overflow_add-r
overflow_add-r c = omega (arith, overflow_mul-r (goal.at.overflow_add-r c).In-loop-i)

pub loop-i-preserved : goal.loop-i-preserved
loop-i-preserved c =
    let a = c.args in
    let i = c.loop-i.i in
    omega (arith, le_next a.n i a.s.now a.at (omega arith) (omega arith))

pub returns : goal.returns
returns c =
    let a = c.args in
    let l = c.loop-i in
    let z : l.i ≡ 0 = omega arith in
    let e : l.r ≡ le a.n a.s.now a.at = rw (z, sub-zero, add-zero) at l.invariant in
    (e, omega (arith, le_below a.n a.s.now a.at (λ k. omega (arith, c.type_inv.s k))))
