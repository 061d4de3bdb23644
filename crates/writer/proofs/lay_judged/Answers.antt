-- `writer::lay_judged` meets its contract: what is judged is the image.
use mathlib.Core.Path.{ap, ◌∙◌}
use Rattle.mps.specs.Judge.{judged}
use Rattle.writer.proofs.lay_judged.Goals as goal

pub returns : goal.returns
unfolding judged
returns c =
    let e = c.lay.ensures in record { value = c.judge.ensures ∙ ap judged e; out_after = e }
