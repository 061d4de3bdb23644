-- `behind_table` meets its contract: its own tests are those of 24, and behind them the climb answers.
use mathlib.Core.Path.{sym, ap, ◌∙◌}
use Rattle.std.specs.Prelude.{Ok}
use native.Mathlib.Omega.{arith}
use Rattle.judge.proofs.Laws.{placed_listed}
use Rattle.addresses.proofs.Laws.{buses_some, seen_climb, seen_bare, seen_kind, seen_unlisted, seen_answered}
use Rattle.addresses.proofs.behind_table.Goals as goal

pub returns-then-kind-gt-SPACE_KIND_MOST : goal.returns-then-kind-gt-SPACE_KIND_MOST
returns-then-kind-gt-SPACE_KIND_MOST c =
    let a = c.args in
    seen_kind a.t.now a.bus a.kind a.address c.requires.0 c.if-kind-gt-SPACE_KIND_MOST.true

pub returns-then-not-is_listed : goal.returns-then-not-is_listed
returns-then-not-is_listed c =
    let a = c.args in
    let listed = placed_listed a.t.now a.p c.requires.1 a.bus ∙ sym c.is_listed.ensures in
    seen_unlisted a.t.now a.bus a.kind a.address c.requires.0 (listed ∙ c.if-not-is_listed.true)

pub overflow_sub-left-2 : goal.overflow_sub-left-2
overflow_sub-left-2 c =
    let a = c.args in
    let listed = placed_listed a.t.now a.p c.requires.1 a.bus ∙ sym c.is_listed.ensures in
    buses_some a.t.now a.p c.requires.1 c.requires.0 a.bus (listed ∙ c.if-not-is_listed.false)

pub returns-then-p : goal.returns-then-p
returns-then-p c =
    let a = c.args in
    let listed = placed_listed a.t.now a.p c.requires.1 a.bus ∙ sym c.is_listed.ensures in
    ap Ok (seen_bare a.t.now a.p c.requires.1 c.requires.0 a.bus a.kind a.address (omega arith) c.if-p.true)
    ∙ seen_answered a.t.now a.bus a.kind a.address c.requires.0 (listed ∙ c.if-not-is_listed.false) c.if-kind-gt-SPACE_KIND_MOST.false

pub returns : goal.returns
returns c =
    let a = c.args in
    let listed = placed_listed a.t.now a.p c.requires.1 a.bus ∙ sym c.is_listed.ensures in
    ap Ok (c.ask.ensures ∙ seen_climb a.t.now a.p c.requires.1 c.requires.0 a.bus a.kind a.address (omega arith))
    ∙ seen_answered a.t.now a.bus a.kind a.address c.requires.0 (listed ∙ c.if-not-is_listed.false) c.if-kind-gt-SPACE_KIND_MOST.false
