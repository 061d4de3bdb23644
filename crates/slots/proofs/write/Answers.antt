-- The loop keeps `Fills`.
use native.Mathlib.Omega.{arith}
use Rattle.slots.proofs.Writing.{fills_first, fills_done, fills_room, fills_next}
use Rattle.slots.proofs.write.Goals as goal

pub loop-k-init : goal.loop-k-init
loop-k-init c = fills_first _ _

pub put_word-place-requires : goal.put_word-place-requires
put_word-place-requires c =
    let room = fills_room _ _ _ _ _ c.loop-k.invariant c.loop-k-test.true in
    (omega (arith, c.requires.0), omega (arith, room, c.requires.1, c.loop-k.invariant.room))

pub loop-k-preserved : goal.loop-k-preserved
loop-k-preserved c =
    let put = c.put_word-place.ensures in
    fills_next _ _ _ _ _ c.loop-k.invariant c.loop-k-test.true put.value put.out_after

pub returns : goal.returns
returns c =
    let both = fills_done _ _ _ _ _ c.loop-k.invariant (omega arith) in record { value = both.0; out_after = both.1 }
