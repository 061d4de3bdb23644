-- `cpu_is`, from what each word's call ensures.
use Rattle.widths.proofs.Laws.{cpu_is}
use Rattle.widths.proofs.cpu.Goals as goal

pub returns : goal.returns
returns c =
    cpu_is c.args.e.now c.byte-flags.ensures c.field.ensures.0
    c.field-2.ensures.0 c.on_off.ensures.0 c.boot_ap.ensures.0
