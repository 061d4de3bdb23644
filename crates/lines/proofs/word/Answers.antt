-- `behind`, from what the call ensures.
use borrow.Author.Rules.{rules}
use native.Mathlib.Omega.{arith}
use mathlib.Core.Path.{refl}
use Rattle.lines.proofs.Laws.{behind}
use Rattle.lines.proofs.word.Goals as goal

pub returns : goal.returns
returns c =
    let both = behind _ 8 refl (search rules) (omega arith) in
    record { wrote = both.0; upper_bound = both.1 }
