-- `interrupt_is`, from what each word's call ensures.
use native.Mathlib.Omega.{arith}
use Rattle.lines.proofs.BaseLines.{interrupt_is}
use Rattle.mps.specs.Numbers.{bytes}
use Rattle.lines.proofs.base.interrupt.Goals as goal

pub returns : goal.returns
returns c =
    let args = c.args in record {
      fact = interrupt_is (bytes 8 args.e) c.byte.ensures c.interrupt_name-a.ensures.wrote c.field-b.ensures.wrote
          c.field-c.ensures.wrote c.signal.ensures.fact;
      upper_bound = omega arith;
    }
