-- The copy, then the byte.
use Rattle.std.proofs.Common.{ℕ, List, set, ap}
use Rattle.editor.proofs.put.Goals as goal

pub returns : goal.returns
returns c = ap (λ (l : List ℕ). set l 7 c.args.sum) c.copy.ensures
