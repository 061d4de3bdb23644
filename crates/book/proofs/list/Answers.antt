use native.Mathlib.Omega.{arith}
use Rattle.book.proofs.Laws.{lists_next}
use Rattle.book.proofs.list.Goals as goal

pub loop-k-preserved : goal.loop-k-preserved
loop-k-preserved c = lists_next _ _ _ _ _ c.loop-k.invariant (omega arith) c.read.ensures c.put_row.ensures
