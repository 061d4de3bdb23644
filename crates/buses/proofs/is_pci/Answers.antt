use mathlib.Core.Path.{◌∙◌}
use Rattle.std.proofs.Common.{arith, rules}
use Rattle.laws.proofs.Rows.{any_of_pieces}
use Rattle.buses.proofs.Laws.{pci_with_id, pci_among}
use Rattle.buses.proofs.is_pci.Goals as goal

pub returns : goal.returns
returns c =
    let k = c.chunks_exact.ensures in
    any_of_pieces (pci_with_id c.args.bus) (omega arith) (λ x b q l w. search rules) c.any.ensures.ran k.size k.rest
    ∙ pci_among _ _
