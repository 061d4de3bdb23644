-- Each field begins where the one before it ends (`front_is`); the arrays of a `Fields` have the lengths of their types.
use native.Mathlib.Omega.{arith}
use lib.ListN.{length-set}
use Rattle.mps.specs.Words.{text}
use Rattle.writer.specs.Laid.{front}
use Rattle.writer.proofs.Laying.{front_is, stays}
use Rattle.writer.proofs.put_front.Goals as goal

pub bounds-out-7 : goal.bounds-out-7
bounds-out-7 c = omega (arith, length-set c.put16.new.out 6 4)

pub returns : goal.returns
unfolding text
returns c =
    let a = c.args in
    front_is a.fields a.size a.out.now (omega arith) (omega arith) c.copy.ensures c.put16.ensures c.copy-2.ensures c.copy-3.ensures

pub shape_of-out : goal.shape_of-out
shape_of-out c = let a = c.args in stays a.out.now 0 (front a.fields a.size) (returns c)
