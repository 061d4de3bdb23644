-- The closure makes the test of the definition, of the regions that a sound dump lists.
use Rattle.std.proofs.Common.{rules, tests, sym, ◌∙◌}
use Rattle.std.proofs.lemmas.Iterator.Consumers.{YieldsList-from_first}
use Rattle.std.proofs.lemmas.Iterator.Search.{find_from_yields_List}
use Rattle.mps.specs.Dump.{of_kind}
use Rattle.regions.specs.Walk.{listed}
use Rattle.contents.proofs.Laws.{sound_listed}
use Rattle.finding.proofs.Spots.{map_same}
use Rattle.finding.proofs.of_kind.Goals as goal

pub returns : goal.returns
returns c =
    let a = c.args in
    let chain = YieldsList-from_first (λ x. x) (λ s. s) (listed a.d.now) c.of_dump.ensures in
    let found = find_from_yields_List (of_kind a.kind) _ _ c.find.result c.find.ensures.ran chain (λ x b q k. search (rules, tests)) in
    rw (← sound_listed a.d.now c.requires) (sym (map_same c.find.result) ∙ found)
