-- `names_pci` meets its contract: the number is that of the name (`pci_named`).
use mathlib.Core.Path.{◌∙◌}
use native.Mathlib.Omega.{arith}
use Rattle.buses.proofs.Laws.{pci_named}
use Rattle.buses.proofs.names_pci.Goals as goal

pub returns : goal.returns
returns c =
    c.is_pci.ensures ∙ rw c.le64.ensures (pci_named _ (omega arith) (λ i. omega (arith, c.type_inv.e i)))
