-- The type's law at each return: which line it is.
use native.Mathlib.Omega.{arith}
use Rattle.widths.proofs.Laws.{cpu_type, bus_type_lem, io_apic_type_lem, int_type, lint_type}
use Rattle.widths.proofs.base.Goals as goal

pub returns-in-0 : goal.returns-in-0
returns-in-0 c = cpu_type c.args.e.now c.byte.ensures c.in-0.is c.cpu.ensures

pub returns-in-1 : goal.returns-in-1
returns-in-1 c = bus_type_lem c.args.e.now c.byte.ensures c.in-1.is c.bus.ensures

pub returns-in-2 : goal.returns-in-2
returns-in-2 c = io_apic_type_lem c.args.e.now c.byte.ensures c.in-2.is c.io_apic.ensures

pub returns-in-3 : goal.returns-in-3
returns-in-3 c = int_type c.args.e.now c.byte.ensures c.in-3.is c.interrupt.ensures.0

pub returns-in_default : goal.returns-in_default
returns-in_default c =
    lint_type c.args.e.now c.byte.ensures (λ h. omega arith) (λ h. omega arith) (λ h. omega arith) (λ h. omega arith) c.interrupt-in_default.ensures.0
