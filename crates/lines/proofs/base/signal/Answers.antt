-- `signal_is`, from what each word's call ensures.
use native.Mathlib.Omega.{arith}
use Rattle.lines.proofs.BaseLines.{signal_is}
use Rattle.mps.specs.Numbers.{bytes}
use Rattle.lines.proofs.base.signal.Goals as goal

pub returns : goal.returns
returns c =
    let args = c.args in record {
      fact = signal_is (bytes 8 args.e) c.byte-flags.ensures (rw c.from.ensures at c.decimal-a.ensures.wrote) (rw c.from-2.ensures at c.decimal-b.ensures.wrote)
          c.field-c.ensures.wrote c.field.ensures.wrote;
      upper_bound = omega arith;
    }
