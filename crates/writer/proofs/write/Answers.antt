-- `writer::write` meets its contract: each way out is a law of Calls.
use mathlib.Core.Path.{sym}
use lib.Seq.{length-take-le}
use Rattle.mps.specs.Writing.{image_size}
use Rattle.writer.specs.Laid.{parts_given}
use Rattle.writer.proofs.Calls.{write_base, write_extended, write_room, write_done, write_refused}
use Rattle.writer.proofs.write.Goals as goal
use Rattle.writer.proofs.write.Goals.{After-lay_judged-arg-1}

pub returns-then-base_size-gt-PART_MOST : goal.returns-then-base_size-gt-PART_MOST
returns-then-base_size-gt-PART_MOST c =
    let a = c.args in let both = write_base (parts_given a.fields a.base.now a.extended.now) a.room.now c.if-base_size-gt-PART_MOST.true in record { value = both.0; room_after = both.1 }

pub returns-then-extended-gt-PART_MOST : goal.returns-then-extended-gt-PART_MOST
returns-then-extended-gt-PART_MOST c =
    let a = c.args in let both = write_extended (parts_given a.fields a.base.now a.extended.now) a.room.now c.if-base_size-gt-PART_MOST.false c.if-extended-gt-PART_MOST.true in record { value = both.0; room_after = both.1 }

pub returns-then-room-size : goal.returns-then-room-size
returns-then-room-size c =
    let a = c.args in let both = write_room (parts_given a.fields a.base.now a.extended.now) a.room.now c.if-base_size-gt-PART_MOST.false c.if-extended-gt-PART_MOST.false c.if-room-size.true in record { value = both.0; room_after = both.1 }

pub slice_bounds-lay_judged-end-2 : goal.slice_bounds-lay_judged-end-2
slice_bounds-lay_judged-end-2 c =
    let a = c.args in
    sym (length-take-le (image_size (parts_given a.fields a.base.now a.extended.now)) a.room.now c.if-room-size.false)

pub lay_judged-requires : goal.lay_judged-requires
lay_judged-requires c =
    record { exact = sym (slice_bounds-lay_judged-end-2 (goal.at.lay_judged-requires c).After-lay_judged-arg-1); base = c.if-base_size-gt-PART_MOST.false; extended = c.if-extended-gt-PART_MOST.false }

pub returns-in-Ok : goal.returns-in-Ok
returns-in-Ok c =
    let a = c.args in let both = write_done (parts_given a.fields a.base.now a.extended.now) a.room.now c.if-base_size-gt-PART_MOST.false c.if-extended-gt-PART_MOST.false c.if-room-size.false
    c.lay_judged.ensures.value c.lay_judged.ensures.out_after c.in-Ok.is in record { value = both.0; room_after = both.1 }

pub returns-in-Err : goal.returns-in-Err
returns-in-Err c =
    let a = c.args in let both = write_refused (parts_given a.fields a.base.now a.extended.now) a.room.now c.if-base_size-gt-PART_MOST.false c.if-extended-gt-PART_MOST.false c.if-room-size.false
    c.lay_judged.ensures.value c.lay_judged.ensures.out_after c.in-Err.is c.clear.ensures in record { value = both.0; room_after = both.1 }
