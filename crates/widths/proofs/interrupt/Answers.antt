-- `interrupt_is`, from what each word's call ensures.
use native.Mathlib.Omega.{arith}
use Rattle.widths.proofs.Laws.{interrupt_is}
use Rattle.widths.proofs.interrupt.Goals as goal

pub returns : goal.returns
returns c = (
  interrupt_is c.args.e.now c.byte.ensures c.interrupt_name-name.ensures.0
      c.field.ensures.0 c.field-2.ensures.0
      c.field-3.ensures.0 c.field-4.ensures.0,
  omega arith,
)
