-- The number that is written is the byte that was read.
use Rattle.lines.proofs.field.Goals as goal

pub returns : goal.returns
returns c = rw (c.from.ensures, c.byte.ensures) at c.decimal.ensures
