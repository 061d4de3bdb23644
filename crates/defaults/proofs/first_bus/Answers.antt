-- By the cases of the configuration.
use Rattle.mps.specs.Words.{text}
use Rattle.mps.specs.Defaults.{ISA, EISA, MCA}
use Rattle.defaults.proofs.Pieces.{bus_isa, bus_mca, bus_eisa}
use Rattle.defaults.proofs.first_bus.Goals as goal

pub returns-in-1 : goal.returns-in-1
unfolding text ISA EISA MCA
returns-in-1 c = bus_isa _ c.in-1.is

pub returns-in-4 : goal.returns-in-4
unfolding text ISA EISA MCA
returns-in-4 c = bus_mca _ c.in-4.is

pub returns-in_default : goal.returns-in_default
unfolding text ISA EISA MCA
returns-in_default c = bus_eisa _ c.in_default.in_default-own.rest.0.1 c.in_default.in_default-own.rest.1
