-- Twenty bytes, of which four are no zeros.
use borrow.Author.Rules.{rules}
use Rattle.mps.specs.Defaults.{processor_entry}
use Rattle.defaults.proofs.processor.Goals as goal

pub returns : goal.returns
unfolding processor_entry
returns c = rw c.flags.ensures

pub flags-requires : goal.flags-requires
unfolding processor_entry
flags-requires c = search rules
