-- What stands once the entry and the checksum are stored is the edited table, and put back it is the table as it was.
use Rattle.std.proofs.Common.{arith}
use Rattle.editor.specs.Tested.{edit_of}
use Rattle.editor.proofs.Exchanges.{inside, left_long, amended, kept_length, exchange_done, exchange_refused}
use Rattle.editor.proofs.exchange.Goals as goal

pub offset-at-requires : goal.offset-at-requires
offset-at-requires c = let r = c.requires in (r.table, r.shaped.place)

pub bounds-t-7 : goal.bounds-t-7
bounds-t-7 c = let i = inside _ _ _ c.requires in omega (arith, i.3)

pub put-requires : goal.put-requires
put-requires c = (inside _ _ _ c.requires).3

pub judge-requires : goal.judge-requires
judge-requires c =
    let bytes = c.slice_known-1.given in
    let wanted = c.type_inv.wanted in
    amended c.args.t.now c.args.p (edit_of c.args.place c.args.stated.now c.args.wanted.now) c.requires
    c.offset-at.ensures c.checksum-new.ensures c.put.ensures (λ i. omega (arith, bytes i)) (λ i. omega (arith, wanted i)) c.byte.ensures

pub returns : goal.returns
returns c =
    let both = exchange_done c.args.t.now c.args.p (edit_of c.args.place c.args.stated.now c.args.wanted.now) c.requires
    c.offset-at.ensures c.checksum-new.ensures c.put.ensures c.judge.ensures c.in_default.is in record { value = both.0; t_after = both.1 }

pub put-requires-in-Err : goal.put-requires-in-Err
put-requires-in-Err c =
    left_long c.args.t.now c.args.p (edit_of c.args.place c.args.stated.now c.args.wanted.now) c.requires
    c.offset-at.ensures c.checksum-new.ensures c.put.ensures

pub shape_of-t : goal.shape_of-t
shape_of-t c =
    kept_length c.args.t.now c.args.p (edit_of c.args.place c.args.stated.now c.args.wanted.now) c.requires
    c.offset-at.ensures c.checksum-new.ensures c.put.ensures

pub returns-in-Err : goal.returns-in-Err
returns-in-Err c =
    let both = exchange_refused c.args.t.now c.args.p (edit_of c.args.place c.args.stated.now c.args.wanted.now) c.requires
    c.offset-at.ensures c.checksum-new.ensures c.put.ensures c.judge.ensures c.in-Err.is c.put-in-Err.ensures in record { value = both.0; t_after = both.1 }
