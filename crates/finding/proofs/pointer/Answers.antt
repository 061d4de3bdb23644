-- A sound dump has what was spotted, or no pointer.
use Rattle.std.proofs.Common.{rules}
use Rattle.finding.proofs.Spots.{spotted_at, spotted_none}
use Rattle.finding.proofs.Told.{address_none, address_spotted}
use Rattle.finding.proofs.pointer.Goals as goal

pub returns-in-Some : goal.returns-in-Some
returns-in-Some c = address_spotted _ (search rules) (spotted_at _ _ c.spot.ensures c.in-Some.is)

pub returns-in-None : goal.returns-in-None
returns-in-None c = address_none _ (search rules) (spotted_none _ _ c.spot.ensures c.in-None.is)
