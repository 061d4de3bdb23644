use Rattle.std.proofs.Common.{◌∙◌, arith, rules}
use Rattle.std.proofs.lemmas.List.{take_all}
use Rattle.laws.proofs.Rows.{any_of_pieces}
use Rattle.interrupts.proofs.wrong.Goals as goal

pub returns : goal.returns
returns c = let k = c.chunks_exact.ensures in any_of_pieces _ (omega arith) (λ x b q l w. search rules) c.any.ensures.ran k.size (k.rest ∙ search (rules, take_all))
