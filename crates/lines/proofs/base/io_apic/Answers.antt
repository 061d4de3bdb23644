-- `io_apic_is`, from what each word's call ensures.
use native.Mathlib.Omega.{arith}
use Rattle.lines.proofs.BaseLines.{io_apic_is}
use Rattle.mps.specs.Numbers.{bytes}
use Rattle.mps.specs.Words.{text}
use Rattle.text.specs.Text.{ended}
use Rattle.lines.proofs.base.io_apic.Goals as goal

pub returns : goal.returns
unfolding ended text
returns c =
    let args = c.args in record {
      wrote = io_apic_is (bytes 8 args.e) c.byte-flags.ensures c.high.ensures c.word-a.ensures.wrote
          c.field-b.ensures.wrote c.field-c.ensures.wrote c.on_off-d.ensures.wrote c.hex8.ensures.wrote;
      upper_bound = omega arith;
    }
