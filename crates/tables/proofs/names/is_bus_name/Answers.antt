-- The names left answer as all of them do. That the constants are `bus_names`, antt computes.
use Rattle.std.proofs.Common.{[], sym, ◌∙◌, arith}
use Rattle.mps.specs.Words.{text, same}
use Rattle.mps.specs.Buses.{bus_names}
use Rattle.laws.proofs.Lists.{any_next, any_stop}
use Rattle.tables.proofs.names.is_bus_name.Goals as goal

pub returns-then-same : goal.returns-then-same
unfolding bus_names text
returns-then-same c =
    let l = c.loop-row in
    let hit = sym c.same.ensures ∙ c.if-same.true in
    sym (any_stop (same c.args.name.now) bus_names [] l.row-index (omega arith) hit) ∙ l.invariant

pub loop-row-preserved : goal.loop-row-preserved
unfolding bus_names text
loop-row-preserved c =
    let l = c.loop-row in
    let miss = sym c.same.ensures ∙ c.if-same.false in
    sym (any_next (same c.args.name.now) bus_names [] l.row-index (omega arith) miss) ∙ l.invariant
