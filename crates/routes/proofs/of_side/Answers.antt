-- The parts of the side that is asked about, between the places of the table.
use Rattle.routes.specs.Pairs.{asked_by}
use Rattle.routes.proofs.Answering.{io_ready, local_ready, io_gives, local_gives}
use Rattle.routes.proofs.of_side.Goals as goal

pub answer-requires : goal.answer-requires
answer-requires c = io_ready c.args.t.now c.args.p c.requires.0 c.requires.1

pub returns-in-Io : goal.returns-in-Io
returns-in-Io c =
    let a = c.args in
    let both = io_gives a.t.now a.p c.requires.0 c.requires.1 a.side (asked_by a.wire.now) a.out.now
    c.in-Io.is (c.answer.ensures.value, c.answer.ensures.out_after) in
    record { value = both.0; out_after = both.1 }

pub answer-requires-in-Local : goal.answer-requires-in-Local
answer-requires-in-Local c = local_ready c.args.t.now c.args.p c.requires.0 c.requires.1

pub returns-in-Local : goal.returns-in-Local
returns-in-Local c =
    let a = c.args in
    let both = local_gives a.t.now a.p c.requires.0 c.requires.1 a.side (asked_by a.wire.now) a.out.now
    c.in-Local.is (c.answer-in-Local.ensures.value, c.answer-in-Local.ensures.out_after) in
    record { value = both.0; out_after = both.1 }
