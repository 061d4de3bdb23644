-- The loop keeps `Counts`.
use Prim.Native.Nat.{◌+◌}
use native.Mathlib.Omega.{arith}
use lib.Count.{ones, ones-le}
use lib.ListN.{get_or}
use Rattle.sets.proofs.Words.{Counts, counts_first, counts_done, counts_next}
use Rattle.sets.proofs.Laws.{members_few}
use Rattle.slots.proofs.count.Goals as goal
use Rattle.slots.proofs.count.Goals.{In-loop-word}

pub loop-word-init : goal.loop-word-init
loop-word-init c = counts_first _

next :
    (c : In-loop-word) → let l = c.loop-word in let s = c.args.set.now in
    Counts s (l.n + ones (get_or s l.word-index 0)) (l.word-index + 1)
next c =
    let l = c.loop-word in
    counts_next _ _ _ l.invariant c.loop-word-test.true (omega (arith, c.type_inv.set l.word-index))

pub overflow_add-n : goal.overflow_add-n
overflow_add-n c =
    omega (
      arith,
      ones-le 64 (get_or c.args.set.now c.loop-word.word-index 0) (omega (arith, c.type_inv.set c.loop-word.word-index)),
      next (goal.at.overflow_add-n c).In-loop-word,
      members_few c.args.set.now,
    )

pub loop-word-preserved : goal.loop-word-preserved
loop-word-preserved c = next (goal.at.loop-word-preserved c).In-loop-word

pub returns : goal.returns
returns c = counts_done _ _ _ c.loop-word.invariant c.loop-word-test.false
