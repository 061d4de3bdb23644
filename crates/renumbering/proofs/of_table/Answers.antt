-- The two sets and the counts, and what is answered of them.
use native.Mathlib.Omega.{arith}
use Rattle.renumbering.proofs.Answering.{few, room_short, all_used, give_room, all_given}
use Rattle.renumbering.proofs.of_table.Goals as goal

pub returns-then-out-count : goal.returns-then-out-count
returns-then-out-count c =
    let a = c.args in let both = room_short a.t.now a.p c.requires.0 c.requires.1 a.out.now c.hold.ensures.set_after c.hold-count.ensures.set_after
    c.count-held.ensures c.hold-count.ensures.value c.if-out-count.true in record { value = both.0; out_after = both.1 }

pub overflow_add-held : goal.overflow_add-held
overflow_add-held c =
    let a = c.args in
    let most = few a.t.now a.p c.requires.0 c.requires.1 a.out.now c.hold.ensures.set_after c.hold-count.ensures.set_after
    c.count-held.ensures c.hold-count.ensures.value in
    omega (arith, most)

pub returns-then-held-count-gt-NUMBERS : goal.returns-then-held-count-gt-NUMBERS
returns-then-held-count-gt-NUMBERS c =
    let a = c.args in let both = all_used a.t.now a.p c.requires.0 c.requires.1 a.out.now c.hold.ensures.set_after c.hold-count.ensures.set_after
    c.count-held.ensures c.hold-count.ensures.value c.if-out-count.false c.if-held-count-gt-NUMBERS.true in record { value = both.0; out_after = both.1 }

pub give-requires : goal.give-requires
give-requires c =
    let a = c.args in let both = give_room a.t.now a.p c.requires.0 c.requires.1 a.out.now c.hold.ensures.set_after c.hold-count.ensures.set_after
    c.count-held.ensures c.hold-count.ensures.value c.if-out-count.false c.if-held-count-gt-NUMBERS.false in record { s_in_bounds = both.0; below = both.1 }

pub returns : goal.returns
returns c =
    let a = c.args in let both = all_given a.t.now a.p c.requires.0 c.requires.1 a.out.now c.hold.ensures.set_after c.hold-count.ensures.set_after
    c.count-held.ensures c.hold-count.ensures.value c.if-out-count.false c.if-held-count-gt-NUMBERS.false
    c.give.ensures in record { value = both.0; out_after = both.1 }
