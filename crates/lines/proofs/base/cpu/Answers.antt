-- `cpu_is`, from what each word's call ensures.
use native.Mathlib.Omega.{arith}
use Rattle.lines.proofs.BaseLines.{cpu_is}
use Rattle.mps.specs.Numbers.{bytes}
use Rattle.mps.specs.Words.{text}
use Rattle.text.specs.Text.{ended}
use Rattle.lines.proofs.base.cpu.Goals as goal

pub returns : goal.returns
unfolding ended text
returns c =
    let args = c.args in record {
      wrote = cpu_is (bytes 8 args.e) c.byte-flags.ensures c.word-a.ensures.wrote c.field-b.ensures.wrote
          c.field-c.ensures.wrote c.on_off-d.ensures.wrote c.boot_ap.ensures.wrote;
      upper_bound = omega arith;
    }
