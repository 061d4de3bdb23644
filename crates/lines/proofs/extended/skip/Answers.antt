-- `skip_is`, from what each word's call ensures.
use native.Mathlib.Omega.{arith}
use Rattle.lines.proofs.ExtendedLines.{skip_is}
use Rattle.mps.specs.Numbers.{bytes}
use Rattle.mps.specs.Words.{text}
use Rattle.text.specs.Text.{ended}
use Rattle.lines.proofs.extended.skip.Goals as goal

pub returns : goal.returns
unfolding ended text
returns c =
    let args = c.args in
    record { wrote = skip_is (bytes 8 args.e) c.word-a.ensures.wrote c.field-b.ensures.wrote c.field.ensures.wrote; upper_bound = omega arith }
