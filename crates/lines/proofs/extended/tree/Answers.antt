-- `tree_is`, from what each word's call ensures.
use native.Mathlib.Omega.{arith}
use Rattle.lines.proofs.ExtendedLines.{tree_is}
use Rattle.mps.specs.Numbers.{bytes}
use Rattle.mps.specs.Words.{text}
use Rattle.text.specs.Text.{ended}
use Rattle.lines.proofs.extended.tree.Goals as goal

pub returns : goal.returns
unfolding ended text
returns c =
    let args = c.args in record {
      wrote = tree_is (bytes 8 args.e) c.byte-link.ensures c.word-a.ensures.wrote c.field-b.ensures.wrote
          c.field-c.ensures.wrote (rw c.from.ensures at c.decimal.ensures.wrote);
      upper_bound = omega arith;
    }
