-- `behind`, from what the call ensures and how short the word is.
use native.Mathlib.Omega.{arith}
use Rattle.lines.proofs.Laws.{behind, hex_short}
use Rattle.lines.proofs.hex8.Goals as goal

pub overflow_add-result : goal.overflow_add-result
overflow_add-result c =
    let args = c.args in
    omega (arith, hex_short 8 c.from.result args.last)

pub returns : goal.returns
returns c =
    let args = c.args in
    let both = rw c.from.ensures at (behind args.at 9 c.hexadecimal.ensures.value c.hexadecimal.ensures.out_after (hex_short 8 c.from.result args.last)) in
    record { wrote = both.0; upper_bound = both.1 }
