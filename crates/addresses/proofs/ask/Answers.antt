-- `ask` meets its contract, from what `gather` and `climb` ensure: where no link was climbed, a yes is a yes.
use mathlib.Core.Path.{◌∙◌}
use Rattle.addresses.proofs.Climbs.{instead_yes}
use Rattle.addresses.proofs.ask.Goals as goal

pub returns : goal.returns
returns c =
    let gathered = c.gather.ensures in
    c.climb.ensures ∙ rw (gathered.marks_after, gathered.parents_after, gathered.below_after) (instead_yes _)
