-- What the reader would answer where an entry stands: `step_cpu`, `step_entry`, `step_extended`.
use Prim.Native.Nat.{◌+◌}
use native.Mathlib.Omega.{arith}
use Rattle.accepted.proofs.Sound.{sound}
use Rattle.listing.proofs.Steps.{step_inside, step_cpu, step_entry, step_extended, step_length}
use Rattle.listing.proofs.after.Goals as goal

pub returns-then-t-place-eq-PROCESSOR_TYPE : goal.returns-then-t-place-eq-PROCESSOR_TYPE
returns-then-t-place-eq-PROCESSOR_TYPE c =
    let p = c.requires in
    step_cpu c.args.t.now c.args.place p.t_value.0 p.t_value.1 p.t_value.2 p.place_bound.0 p.place_bound.1 c.if-place-base.true c.if-t-place-eq-PROCESSOR_TYPE.true

pub returns-then-place-base : goal.returns-then-place-base
returns-then-place-base c =
    let p = c.requires in
    step_entry c.args.t.now c.args.place p.t_value.0 p.t_value.1 p.t_value.2 p.place_bound.0 p.place_bound.1 c.if-place-base.true c.if-t-place-eq-PROCESSOR_TYPE.false

pub returns : goal.returns
returns c =
    let p = c.requires in
    step_extended c.args.t.now c.args.place p.t_value.0 p.t_value.1 p.t_value.2 p.place_bound.0 p.place_bound.1 c.if-place-base.false

-- What is read stands in the table, and no sum is past its end.

pub bounds-t-place : goal.bounds-t-place
bounds-t-place c =
    omega (arith, (sound c.args.t.now c.requires.t_value.0).inside, c.requires.place_bound.1, c.if-place-base.true)

pub bounds-t-place-2 : goal.bounds-t-place-2
bounds-t-place-2 c =
    let p = c.requires in
    step_length c.args.t.now c.args.place p.t_value.0 p.t_value.1 p.t_value.2 p.place_bound.0 p.place_bound.1 c.if-place-base.false

pub overflow_add-result : goal.overflow_add-result
overflow_add-result c =
    let p = c.requires in
    omega (arith, returns-then-t-place-eq-PROCESSOR_TYPE c, step_inside c.args.t.now c.args.place p.t_value.0 p.t_value.1 p.t_value.2 p.place_bound.0)

pub overflow_add-result-then-place-base : goal.overflow_add-result-then-place-base
overflow_add-result-then-place-base c =
    let p = c.requires in
    omega (arith, returns-then-place-base c, step_inside c.args.t.now c.args.place p.t_value.0 p.t_value.1 p.t_value.2 p.place_bound.0)

pub overflow_add-result-2 : goal.overflow_add-result-2
overflow_add-result-2 c =
    let facts = sound c.args.t.now c.requires.t_value.0 in
    omega (arith, facts.most, facts.extended_most, c.requires.t_value.2)

pub overflow_cast-result : goal.overflow_cast-result
overflow_cast-result c = omega (arith, c.type_inv.t (c.args.place + 1))

pub overflow_add-result-3 : goal.overflow_add-result-3
overflow_add-result-3 c =
    let p = c.requires in
    omega (arith, returns c, step_inside c.args.t.now c.args.place p.t_value.0 p.t_value.1 p.t_value.2 p.place_bound.0)
