-- The bus there is none that is wrong: `bus_fine`, and `bus_next`.
use mathlib.Core.Path.{◌≡◌, sym, ◌∙◌}
use Rattle.std.proofs.Common.{◌++◌, take-append-drop}
use Rattle.buses.proofs.Laws.{bus_fine, bus_next}
use Rattle.buses.proofs.behind_quick.Goals as goal

pub loop-e-preserved : goal.loop-e-preserved
loop-e-preserved c =
    let l = c.loop-e in
    let k = c.in-Some.ensures.cases in
    let e = c.in-Some.e.now in
    let behind = c.in-Some.behind.now in
    let cut : l.rest.now ≡ e ++ behind = rw (k.1, k.2) (sym (take-append-drop 8 l.rest.now)) in
    let fine = bus_fine l.roll e c.has.ensures c.if-has.false (c.is_quick.ensures c.if-not-is_quick.false) in
    sym (bus_next l.roll l.rest.now e behind c.put.new.roll k.3 cut fine c.put.ensures) ∙ l.invariant
