-- `mod_is`, from what each word's call ensures.
use native.Mathlib.Omega.{arith}
use Rattle.lines.proofs.ExtendedLines.{mod_is}
use Rattle.mps.specs.Numbers.{bytes}
use Rattle.mps.specs.Words.{text}
use Rattle.text.specs.Text.{ended}
use Rattle.lines.proofs.extended.modifier.Goals as goal

pub returns : goal.returns
unfolding ended text
returns c =
    let args = c.args in record {
      wrote = mod_is (bytes 8 args.e) c.byte-link.ensures c.high.ensures c.word-a.ensures.wrote c.field-b.ensures.wrote
          (rw c.from.ensures at c.decimal-c.ensures.wrote) c.decimal.ensures.wrote;
      upper_bound = omega arith;
    }
