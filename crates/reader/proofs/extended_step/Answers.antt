use mathlib.Core.Path.{ap, ◌∙◌}
use Rattle.mps.specs.Answers.{found_of}
use Rattle.reader.proofs.Laws.{extended_none, extended_told}
use Rattle.reader.proofs.extended_step.Goals as goal

pub returns-then-t-place-lt-MAPPING_TYPE : goal.returns-then-t-place-lt-MAPPING_TYPE
returns-then-t-place-lt-MAPPING_TYPE c = let a = c.args in ap found_of (extended_none a.t.now a.place c.if-t-place-lt-MAPPING_TYPE.true)

pub returns : goal.returns
returns c =
    let a = c.args in
    c.then_some.ensures
    ∙ extended_told a.t.now a.place c.if-t-place-lt-MAPPING_TYPE.false (c.from-n.ensures ∙ c.byte.ensures)
