-- The entry names all, one or none: `for_all`, `for_one` and `for_none`.
use mathlib.Core.Path.{refl}
use native.Mathlib.Omega.{arith}
use Rattle.routes.proofs.Writing.{for_all, for_one, for_none}
use Rattle.routes.proofs.Targets.put.Goals as goal

pub put_all-requires : goal.put_all-requires
put_all-requires c =
    let all = for_all c.args.self.now.ids.now c.args.entry.now c.if-to.true in
    (omega arith, rw all at c.requires.1)

pub returns-then-to : goal.returns-then-to
returns-then-to c = let all = for_all c.args.self.now.ids.now c.args.entry.now c.if-to.true in rw all c.put_all.ensures

pub put_pair-requires : goal.put_pair-requires
put_pair-requires c =
    let one = for_one c.args.self.now.ids.now c.args.entry.now c.if-to.false (omega (arith, c.type_inv.entry 6))
    c.args.self.now.roll.now c.args.self.now.on_roll c.has.ensures c.if-has.true in
    (omega arith, omega (arith, one.1))

pub overflow_add-result : goal.overflow_add-result
overflow_add-result c =
    let one = for_one c.args.self.now.ids.now c.args.entry.now c.if-to.false (omega (arith, c.type_inv.entry 6))
    c.args.self.now.roll.now c.args.self.now.on_roll c.has.ensures c.if-has.true in
    omega (arith, one.1)

pub returns-then-has : goal.returns-then-has
returns-then-has c =
    let one = for_one c.args.self.now.ids.now c.args.entry.now c.if-to.false (omega (arith, c.type_inv.entry 6))
    c.args.self.now.roll.now c.args.self.now.on_roll c.has.ensures c.if-has.true in record { value = omega (arith, one.1); out_after = rw one.0 c.put_pair.ensures }

pub returns : goal.returns
returns c =
    let none = for_none c.args.self.now.ids.now c.args.entry.now c.if-to.false (omega (arith, c.type_inv.entry 6))
    c.args.self.now.roll.now c.args.self.now.on_roll c.has.ensures c.if-has.false in rw none (record { value = omega arith; out_after = refl })
