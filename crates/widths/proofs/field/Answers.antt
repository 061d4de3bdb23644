-- `field_is`: the width of the byte that was read.
use mathlib.Core.Path.{◌∙◌}
use Rattle.widths.proofs.Laws.{field_is}
use Rattle.widths.proofs.field.Goals as goal

pub returns : goal.returns
returns c = (field_is _ (c.from.ensures ∙ c.byte.ensures) c.width.ensures.0, c.width.ensures.1)
