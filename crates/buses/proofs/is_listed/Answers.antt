use mathlib.Core.Path.{◌∙◌}
use Rattle.std.proofs.Common.{arith, rules}
use Rattle.laws.proofs.Rows.{any_of_pieces}
use Rattle.buses.proofs.Laws.{has_id, ids_among}
use Rattle.buses.proofs.is_listed.Goals as goal

pub returns : goal.returns
returns c =
    let k = c.chunks_exact.ensures in
    any_of_pieces (has_id c.args.bus) (omega arith) (λ x b q l w. search rules) c.any.ensures.ran k.size k.rest
    ∙ ids_among _ _
