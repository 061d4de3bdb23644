-- What a destination names is all of the IDs, one of them, or none: `named_all`, `named_one`, `named_none`.
use mathlib.Core.Path.{sym, ◌∙◌}
use native.Mathlib.Omega.{arith}
use Rattle.mps.specs.Layout.{destination}
use Rattle.routes.proofs.Counting.{named_all, named_one, named_none, row_to}
use Rattle.routes.proofs.Targets.named.Goals as goal

pub returns-then-to : goal.returns-then-to
returns-then-to c = sym (named_all c.args.self.now.ids.now (destination c.args.e.now) c.if-to.true)

pub returns-then-has : goal.returns-then-has
returns-then-has c =
    row_to c.args.e.now c.requires
    ∙ sym (named_one c.args.self.now.ids.now (destination c.args.e.now) c.if-to.false (omega (arith, c.type_inv.e 6))
    c.args.self.now.roll.now c.args.self.now.on_roll c.has.ensures c.if-has.true)

pub returns : goal.returns
returns c =
    sym (named_none c.args.self.now.ids.now (destination c.args.e.now) c.if-to.false (omega (arith, c.type_inv.e 6))
    c.args.self.now.roll.now c.args.self.now.on_roll c.has.ensures c.if-has.false)
