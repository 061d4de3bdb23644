-- `io_apic_is`, from what each word's call ensures.
use Rattle.widths.proofs.Laws.{io_apic_is}
use Rattle.widths.proofs.io_apic.Goals as goal

pub returns : goal.returns
returns c =
    io_apic_is c.args.e.now c.byte-flags.ensures c.field.ensures.0
    c.field-2.ensures.0 c.on_off.ensures.0
