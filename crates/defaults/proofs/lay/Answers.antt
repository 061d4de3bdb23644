-- The front, the inputs and the local interrupts, one behind the other.
use mathlib.Core.Path.{refl}
use native.Mathlib.Omega.{arith}
use Rattle.mps.specs.Defaults.{interrupt_entry}
use Rattle.defaults.specs.Laid.{locals_laid, front_laid}
use Rattle.defaults.proofs.Pieces.{put_as, inputs_bound, all_laid}
use Rattle.defaults.proofs.lay.Goals as goal

pub put-requires : goal.put-requires
put-requires c =
    (omega (arith, c.put_inputs-end.ensures.value, c.put_front-front.ensures.value, inputs_bound c.args.number), omega arith)

pub returns : goal.returns
unfolding locals_laid interrupt_entry
returns c =
    let p = c.put_front-front.ensures in
    let q = c.put_inputs-end.ensures in
    let r = c.put.ensures in
    let front = front_laid c.args.number c.args.boot in
    let both = all_laid c.args.number c.args.boot (put_as {v = front} front refl (omega (arith, p.value.0)) p.out_after) (put_as _ refl q.value q.out_after)
    (put_as locals_laid refl r.value r.out_after) in
    record { value = omega (arith, both.place); out_after = both.text }
