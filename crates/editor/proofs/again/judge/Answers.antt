-- By the type that stands there: `of_processor` to `of_local_interrupt`.
use Rattle.std.proofs.Common.{refl, arith}
use Rattle.editor.proofs.Numbers.{amended_inside, amended_aligned, interrupt_inside, of_processor, of_bus, of_io_apic, of_io_interrupt, of_local_interrupt}
use Rattle.editor.proofs.again.judge.Goals as goal

pub bounds-t-at : goal.bounds-t-at
bounds-t-at c = amended_inside c.requires

pub processor-requires : goal.processor-requires
processor-requires c = amended_aligned c.requires

pub returns-in-0 : goal.returns-in-0
returns-in-0 c = of_processor c.requires refl c.in-0.is c.processor.ensures

pub returns-in-1 : goal.returns-in-1
returns-in-1 c = of_bus c.requires refl c.in-1.is c.bus.ensures

pub returns-in-2 : goal.returns-in-2
returns-in-2 c = of_io_apic c.requires refl c.in-2.is c.io_apic.ensures

pub io_interrupt-requires : goal.io_interrupt-requires
io_interrupt-requires c = interrupt_inside c.requires refl (λ e. omega (arith, e, c.in-3.is))

pub returns-in-3 : goal.returns-in-3
returns-in-3 c = of_io_interrupt c.requires refl (λ e. omega (arith, e, c.in-3.is)) c.in-3.is c.io_interrupt.ensures

pub local_interrupt-requires : goal.local_interrupt-requires
local_interrupt-requires c = interrupt_inside c.requires refl (λ e. omega (arith, e))

pub returns-in_default : goal.returns-in_default
returns-in_default c =
    of_local_interrupt c.requires refl (λ e. omega (arith, e)) (λ e. omega (arith, e)) (λ e. omega (arith, e)) (λ e. omega (arith, e)) c.local_interrupt.ensures
