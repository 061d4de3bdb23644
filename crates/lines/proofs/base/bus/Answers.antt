-- `bus_is`, from what each word's call ensures.
use native.Mathlib.Omega.{arith}
use lib.ListN.{length-set}
use Rattle.lines.proofs.BaseLines.{bus_is}
use Rattle.mps.specs.Numbers.{bytes}
use Rattle.mps.specs.Words.{text}
use Rattle.text.specs.Text.{ended}
use Rattle.lines.proofs.base.bus.Goals as goal

pub shape_of-out : goal.shape_of-out
shape_of-out c = simp length-set (omega arith)

pub returns : goal.returns
unfolding ended text
returns c =
    let args = c.args in
    record { wrote = bus_is (bytes 8 args.e) c.word-a.ensures.wrote c.field-b.ensures.wrote c.name-c.ensures.wrote; upper_bound = omega arith }
