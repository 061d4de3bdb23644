-- `name_is`, from what each byte's call ensures.
use native.Mathlib.Omega.{arith}
use Rattle.lines.proofs.BaseLines.{name_is}
use Rattle.lines.proofs.base.name.Goals as goal

pub returns : goal.returns
returns c =
    let args = c.args in record {
      wrote = name_is args.e c.letter-a.ensures.wrote c.letter-b.ensures.wrote c.letter-c.ensures.wrote
          c.letter-d.ensures.wrote c.letter-f.ensures.wrote c.letter.ensures.wrote;
      upper_bound = omega arith;
    }
