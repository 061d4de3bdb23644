-- 24 by its two tests; else the answer of the side.
use Rattle.routes.proofs.Ways.{wrong_type, wrong_bus, right_line}
use Rattle.routes.proofs.behind_table.Goals as goal

pub returns-then-itype-gt-INTERRUPT_TYPE_MOST : goal.returns-then-itype-gt-INTERRUPT_TYPE_MOST
returns-then-itype-gt-INTERRUPT_TYPE_MOST c =
    let a = c.args in let both = wrong_type a.t.now a.p c.requires.0 c.requires.1 a.side a.itype a.bus a.irq a.out.now c.if-itype-gt-INTERRUPT_TYPE_MOST.true in record { value = both.0; out_after = both.1 }

pub returns-then-not-is_listed : goal.returns-then-not-is_listed
returns-then-not-is_listed c =
    let a = c.args in let both = wrong_bus a.t.now a.p c.requires.0 c.requires.1 a.side a.itype a.bus a.irq a.out.now
    c.is_listed.ensures c.if-not-is_listed.true in record { value = both.0; out_after = both.1 }

pub of_side-requires : goal.of_side-requires
of_side-requires c = c.requires

pub returns : goal.returns
returns c =
    let a = c.args in let both = right_line a.t.now a.p c.requires.0 c.requires.1 a.side a.itype a.bus a.irq a.out.now
    c.is_listed.ensures c.if-not-is_listed.false c.if-itype-gt-INTERRUPT_TYPE_MOST.false (c.of_side.ensures.value, c.of_side.ensures.out_after) in record { value = both.0; out_after = both.1 }
