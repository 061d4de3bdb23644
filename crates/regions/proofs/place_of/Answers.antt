-- What `position` answers is the place: `place_position`.
use Rattle.std.proofs.Common.{rules, tests, ◌∙◌}
use Rattle.std.proofs.lemmas.Iterator.{YieldsList-from_slice}
use Rattle.std.proofs.lemmas.Iterator.Search.{position_from_yields_List}
use Rattle.regions.proofs.Search.{passes, place_position}
use Rattle.regions.proofs.place_of.Goals as goal

pub returns : goal.returns
returns c =
    let a = c.args in
    let found = position_from_yields_List (passes a.address) _ _ c.position.result c.position.ensures.ran (YieldsList-from_slice a.rs.now cc) (λ x b q k. search (rules, tests)) in
    c.unwrap_or.ensures ∙ rw found (place_position a.address a.rs.now)
