-- `behind`, from what the call ensures and how short the word is.
use native.Mathlib.Omega.{arith}
use Rattle.lines.proofs.Laws.{behind, decimal_short}
use Rattle.lines.proofs.decimal.Goals as goal

pub overflow_add-result : goal.overflow_add-result
overflow_add-result c =
    let args = c.args in
    omega (arith, decimal_short args.x args.last)

pub returns-then-x-lt1000 : goal.returns-then-x-lt1000
returns-then-x-lt1000 c =
    let args = c.args in
    let both = behind args.at 6 c.short_decimal.ensures.value c.short_decimal.ensures.out_after (decimal_short args.x args.last) in
    record { wrote = both.0; upper_bound = both.1 }

pub overflow_add-result-2 : goal.overflow_add-result-2
overflow_add-result-2 c =
    let args = c.args in
    omega (arith, decimal_short args.x args.last)

pub returns : goal.returns
returns c =
    let args = c.args in
    let both = behind args.at 6 c.long_decimal.ensures.value c.long_decimal.ensures.out_after (decimal_short args.x args.last) in
    record { wrote = both.0; upper_bound = both.1 }
