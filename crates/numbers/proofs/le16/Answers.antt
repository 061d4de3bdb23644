-- Where not all bytes are there, those that are: `le_rest_lem`.
use mathlib.Core.Path.{◌∙◌}
use native.Mathlib.Omega.{arith}
use Rattle.numbers.proofs.Laws.{le_rest_lem, fits_within}
use Rattle.numbers.proofs.le16.Goals as goal

pub overflow_cast-result : goal.overflow_cast-result
overflow_cast-result c =
    omega (arith, fits_within c.left-n.result 2 c.le_rest.result (omega arith) c.le_rest.ensures.1)

pub returns-then-n-lt2 : goal.returns-then-n-lt2
returns-then-n-lt2 c =
    let a = c.args in
    c.le_rest.ensures.0 ∙ le_rest_lem c.left-n.result 2 a.s.now a.at c.left-n.ensures (omega arith)
