-- The listing's answer, but for a refusal of the dump: that becomes a line.
use native.Mathlib.Omega.{arith}
use Rattle.listing.proofs.Laws.{print_count, print_room, print_refusal}
use Rattle.listing.proofs.print.Goals as goal

pub returns-in-Ok : goal.returns-in-Ok
returns-in-Ok c =
    let both = print_count c.args.d.now c.args.out.now c.in-Ok.ensures.value c.list.ensures.out_after in
    record { value = both.0; out_after = both.1 }

pub returns-in-Err-RoomTooSmall : goal.returns-in-Err-RoomTooSmall
returns-in-Err-RoomTooSmall c =
    let both = print_room c.args.d.now c.args.out.now (rw c.in-Err-RoomTooSmall.field-0-is at c.in-Err-RoomTooSmall.ensures.value) c.list.ensures.out_after in
    record { value = both.0; out_after = both.1 }

pub returns-in-Err : goal.returns-in-Err
returns-in-Err c =
    let p = c.print_refused.ensures in
    let both = print_refusal c.args.d.now c.args.out.now c.in-Err.ensures.value (λ q. grind arith) c.list.ensures.out_after (rw (← c.number.ensures) (p.value, p.out_after)) in
    record { value = both.0; out_after = both.1 }
