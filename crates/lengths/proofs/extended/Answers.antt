-- The definition is opened here only.
use Rattle.std.proofs.Common.{rules}
use Rattle.mps.specs.Layout.{extended_length}
use Rattle.lengths.proofs.extended.Goals as goal

pub returns : goal.returns
unfolding extended_length
returns c = search rules
