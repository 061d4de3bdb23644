-- `tables::names::quick` meets its contract: the constants are the numbers of the quick names, which antt computes.
use mathlib.Core.Bool.{or-false}
use Rattle.mps.specs.Words.{text, any}
use Rattle.mps.specs.Numbers.{le}
use Rattle.tables.specs.Quick.{quick_names, quick_name}
use Rattle.tables.proofs.names.quick.Goals as goal

pub returns : goal.returns
unfolding quick_name quick_names any text le
returns c = rw or-false
