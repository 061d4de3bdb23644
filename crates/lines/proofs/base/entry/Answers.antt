-- The type's law at each return: which line it is.
use native.Mathlib.Omega.{arith}
use Rattle.lines.proofs.BaseLines.{cpu_first, bus_first, io_apic_first, interrupt_line_lem, int_first, lint_first}
use Rattle.mps.specs.Numbers.{bytes}
use Rattle.mps.specs.Words.{text}
use Rattle.lines.proofs.base.entry.Goals as goal

pub returns-in-0-clause-wrote : goal.returns-in-0-clause-wrote
returns-in-0-clause-wrote c = cpu_first (bytes 8 c.args.e) _ c.byte.ensures (omega arith) c.cpu.ensures.wrote

pub returns-in-1-clause-wrote : goal.returns-in-1-clause-wrote
returns-in-1-clause-wrote c = bus_first (bytes 8 c.args.e) _ c.byte.ensures (omega arith) c.bus.ensures.wrote

pub returns-in-2-clause-wrote : goal.returns-in-2-clause-wrote
returns-in-2-clause-wrote c = io_apic_first (bytes 8 c.args.e) _ c.byte.ensures (omega arith) c.io_apic.ensures.wrote

pub returns-in-3-clause-wrote : goal.returns-in-3-clause-wrote
unfolding text
returns-in-3-clause-wrote c =
    int_first (bytes 8 c.args.e) _ c.byte.ensures (omega arith)
    (interrupt_line_lem (bytes 8 c.args.e) (text "int") c.word-a.ensures.wrote c.interrupt.ensures.fact)

pub returns-in_default-clause-wrote : goal.returns-in_default-clause-wrote
unfolding text
returns-in_default-clause-wrote c =
    lint_first (bytes 8 c.args.e) _ c.byte.ensures (omega arith)
    (interrupt_line_lem (bytes 8 c.args.e) (text "lint") c.word-a-in_default.ensures.wrote c.interrupt-in_default.ensures.fact)
