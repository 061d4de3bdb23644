-- Where not all bytes are there, those that are: `le_rest_lem`.
use mathlib.Core.Path.{◌∙◌}
use native.Mathlib.Omega.{arith}
use Rattle.numbers.proofs.Laws.{le_rest_lem}
use Rattle.numbers.proofs.le64.Goals as goal

pub returns-then-n-lt8 : goal.returns-then-n-lt8
returns-then-n-lt8 c =
    let a = c.args in
    c.le_rest.ensures.0 ∙ le_rest_lem c.left-n.result 8 a.s.now a.at c.left-n.ensures (omega arith)
