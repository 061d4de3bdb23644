-- A mapping has its own way; any other line is that of 8 bytes: `entry_line_is`.
use mathlib.Core.Path.{sym, ◌∙◌}
use native.Mathlib.Omega.{arith}
use Rattle.lines.proofs.Numbers.{entry_line_is, map_line_is}
use Rattle.lines.proofs.entry.line.Goals as goal

pub returns-then-kind : goal.returns-then-kind
returns-then-kind c =
    rw (← map_line_is c.args.e.now c.le64-x.result c.le64-x.ensures
    (λ k. omega (arith, c.type_inv.e k)) (sym c.byte-kind.ensures ∙ c.if-kind.true)
    c.le64-start.ensures c.le64-size.ensures) c.store.ensures

pub returns : goal.returns
returns c =
    rw (← entry_line_is c.args.e.now c.le64-x.result c.le64-x.ensures
    (λ k. omega (arith, c.type_inv.e k)) (λ q. c.if-kind.false (c.byte-kind.ensures ∙ q))) c.store-2.ensures
