-- `bus_is`, from what each word's call ensures and where the name ends.
use native.Mathlib.Omega.{arith}
use Rattle.widths.proofs.Laws.{bus_is, name_most}
use Rattle.widths.proofs.bus.Goals as goal

pub overflow_add-result-2 : goal.overflow_add-result-2
overflow_add-result-2 c =
    omega (arith, name_most c.args.e.now c.inside-from.ensures c.inside-to.ensures c.kept.ensures)

pub returns : goal.returns
returns c =
    bus_is c.args.e.now c.inside-from.ensures c.inside-to.ensures c.field.ensures.0
    c.kept.ensures
