use mathlib.Core.Path.{sym}
use lib.Seq.{length-take-le}
use Rattle.writer.proofs.Laws.{sum_whole, sum_base}
use Rattle.writer.proofs.base_sum.Goals as goal

pub returns-then-t-end : goal.returns-then-t-end
returns-then-t-end c = sum_whole c.args.t.now c.base-end.ensures c.if-t-end.true c.sum.ensures

pub slice_bounds-sum-end : goal.slice_bounds-sum-end
slice_bounds-sum-end c = sym (length-take-le c.base-end.result c.args.t.now c.if-t-end.false)

pub returns : goal.returns
returns c = sum_base c.args.t.now c.base-end.ensures c.sum-2.ensures
