-- `tables::names::is_pci` meets its contract: the constant is the number of the name, which antt computes.
use mathlib.Core.Path.{refl}
use Rattle.mps.specs.Words.{text}
use Rattle.mps.specs.Numbers.{le}
use Rattle.tables.specs.Quick.{pci_name}
use Rattle.tables.proofs.names.is_pci.Goals as goal

pub returns : goal.returns
unfolding pci_name text le
returns c = refl
