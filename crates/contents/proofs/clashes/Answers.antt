-- The closure makes the test of the definition: `any_is`.
use Rattle.std.proofs.Common.{rules, tests, ◌∙◌}
use Rattle.std.proofs.lemmas.Iterator.Consumers.{YieldsList-from_first}
use Rattle.std.proofs.lemmas.Iterator.Search.{any_from_yields_List}
use Rattle.contents.specs.Steps.{clashing}
use Rattle.contents.proofs.Listed.{any_is}
use Rattle.contents.proofs.clashes.Goals as goal

pub returns : goal.returns
returns c =
    let p = clashing c.args.r in
    let left = c.args.behind.now in
    any_from_yields_List p _ _ c.any.result c.any.ensures.ran (YieldsList-from_first (λ x. x) (λ s. s) left c.again.ensures) (λ x b q k. search (rules, tests)) ∙ any_is p left
