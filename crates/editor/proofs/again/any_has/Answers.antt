use Rattle.std.proofs.Common.{arith, rules}
use Rattle.laws.proofs.Rows.{any_of_pieces}
use Rattle.editor.proofs.again.any_has.Goals as goal

pub returns : goal.returns
returns c = let k = c.chunks_exact.ensures in any_of_pieces _ (omega arith) (λ x b q l w. search rules) c.any.ensures.ran k.size k.rest
