use mathlib.Core.Path.{◌∙◌}
use Rattle.reader.proofs.Laws.{whole_told}
use Rattle.reader.proofs.whole.Goals as goal

pub returns : goal.returns
returns c = let a = c.args in c.then_some.ensures ∙ whole_told a.place a.size a.end c.requires.0 c.requires.1
