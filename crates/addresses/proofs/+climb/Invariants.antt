-- The buses that are left fall.
use Rattle.addresses.proofs.+climb.Given as goal

abbrev pub decreases-climb : goal.decreases-climb
decreases-climb l = l.left
