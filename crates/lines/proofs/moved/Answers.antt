-- The first bytes of the buffer, and the copy.
use lib.Seq.{length-take-le}
use mathlib.Core.Path.{sym}
use native.Mathlib.Omega.{arith}
use Rattle.lines.proofs.moved.Goals as goal

pub slice_bounds-copy-end : goal.slice_bounds-copy-end
slice_bounds-copy-end c =
    let args = c.args in
    sym (length-take-le args.n args.buffer.now (omega arith))
