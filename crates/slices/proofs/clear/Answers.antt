-- The zeros that have room are stored.
use Rattle.std.proofs.Common.{◌≡◌, take, length, arith}
use Rattle.std.proofs.lemmas.List.{length-take-le}
use Rattle.slices.proofs.Laws.{fill_stored}
use Rattle.slices.proofs.clear.Goals as goal

pub returns : goal.returns
returns c =
    let a = c.args in
    let m = c.min-n.result in
    let l : length (take m a.out.now) ≡ m = length-take-le m a.out.now (omega arith) in
    fill_stored a.out.now a.n m c.fill.new.self (omega arith) (rw l at (c.fill.ensures.after (λ y e. e)))
