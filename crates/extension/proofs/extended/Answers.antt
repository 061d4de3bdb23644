-- `extended` meets its contract, by a law for each of its two answers, from what the three runs and `others` ensure.
use Rattle.extension.proofs.ExtendedEntries.{extended_faulty, extended_sound}
use Rattle.extension.proofs.extended.Goals as goal

pub returns-then-others : goal.returns-then-others
returns-then-others c =
    extended_faulty _ _ _ _
    c.run_of-links.ensures c.run_of-modifiers.ensures c.run_of-end.ensures
    _ c.others.ensures c.if-others.true

pub returns : goal.returns
returns c =
    extended_sound _ _ _ _
    c.run_of-links.ensures c.run_of-modifiers.ensures c.run_of-end.ensures
    _ c.others.ensures c.if-others.false
