-- Each field begins where the one before it ends (`rest_is`).
use native.Mathlib.Omega.{arith}
use lib.ListN.{length-set}
use Rattle.writer.specs.Laid.{rest}
use Rattle.writer.proofs.Laying.{rest_is, stays}
use Rattle.writer.proofs.put_rest.Goals as goal

pub bounds-out-43 : goal.bounds-out-43
bounds-out-43 c = omega (arith, length-set c.put16-3.new.out 42 c.args.sum)

pub returns : goal.returns
returns c =
    let a = c.args in
    rest_is a.fields a.count a.size a.sum a.out.now
    c.put32.ensures c.put16.ensures c.put16-2.ensures c.put32-2.ensures c.put16-3.ensures

pub shape_of-out : goal.shape_of-out
shape_of-out c =
    let a = c.args in
    stays a.out.now 28 (rest a.fields a.count a.size a.sum) (returns c)
