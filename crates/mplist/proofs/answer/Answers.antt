-- The room is long enough, so that nothing is refused.
use native.Mathlib.Omega.{arith}
use Rattle.mplist.proofs.Laws.{never_refused, all_written}
use Rattle.mplist.proofs.answer.Goals as goal

pub unwrap-requires : goal.unwrap-requires
unwrap-requires c =
    let a = c.args in
    rw (never_refused a.d.now a.room.now (omega arith) c.print.ensures.value)

pub returns : goal.returns
returns c =
    let a = c.args in
    all_written a.d.now a.room.now (omega arith) c.print.ensures.value c.print.new.out c.print.ensures.out_after c.unwrap.ensures
