-- One, two or three digits, stored one behind the other: `stored_1` to `stored_3`.
use native.Mathlib.Omega.{arith}
use lib.ListN.{length-set}
use Rattle.lines.proofs.Digits.{stored_1, stored_2, stored_3}
use Rattle.lines.proofs.numerals.short_decimal.Goals as goal

pub bounds-out-at-then-x-lt10 : goal.bounds-out-at-then-x-lt10
bounds-out-at-then-x-lt10 c = simp length-set (omega arith)

pub returns-then-x-lt10 : goal.returns-then-x-lt10
returns-then-x-lt10 c =
    let a = c.args in
    let both = stored_1 a.x a.last a.out.now a.at (omega arith) in
    record { value = both.0; out_after = both.1 }

pub bounds-out-at-then-x-lt100-2 : goal.bounds-out-at-then-x-lt100-2
bounds-out-at-then-x-lt100-2 c = simp length-set (omega arith)

pub bounds-out-at-then-x-lt100-3 : goal.bounds-out-at-then-x-lt100-3
bounds-out-at-then-x-lt100-3 c = simp length-set (omega arith)

pub returns-then-x-lt100 : goal.returns-then-x-lt100
returns-then-x-lt100 c =
    let a = c.args in
    let both = stored_2 a.x a.last a.out.now a.at (omega arith) (omega arith) in
    record { value = both.0; out_after = both.1 }

pub bounds-out-at-3 : goal.bounds-out-at-3
bounds-out-at-3 c = simp length-set (omega arith)

pub bounds-out-at-4 : goal.bounds-out-at-4
bounds-out-at-4 c = simp length-set (omega arith)

pub bounds-out-at-5 : goal.bounds-out-at-5
bounds-out-at-5 c = simp length-set (omega arith)

pub returns : goal.returns
returns c =
    let a = c.args in
    let both = stored_3 a.x a.last a.out.now a.at (omega arith) (omega arith) in
    record { value = both.0; out_after = both.1 }
