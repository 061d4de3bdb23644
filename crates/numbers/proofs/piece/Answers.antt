-- All of the bytes are there.
use Rattle.std.proofs.Common.{◌≡◌, ◌+◌, ◌-◌, ◌∙◌, drop, arith}
use Rattle.std.proofs.lemmas.List.{take-take}
use Rattle.numbers.proofs.Laws.{le_whole}
use Rattle.numbers.proofs.piece.Goals as goal

pub returns-in-Some : goal.returns-in-Some
returns-in-Some g c =
    let a = c.args in
    let n = g.row.N in
    let e : a.at + n - a.at ≡ n = omega arith in
    le_whole n _ a.s.now a.at (c.in-Some.ensures.cases.same ∙ rw e (take-take n n (drop a.at a.s.now) (omega arith)))
