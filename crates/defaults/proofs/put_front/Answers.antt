-- The processors, the buses and the I/O APIC, one behind the other.
use mathlib.Core.Path.{refl}
use native.Mathlib.Omega.{arith}
use Rattle.defaults.proofs.Pieces.{put_as, buses_bound, front_laid_lem}
use Rattle.defaults.proofs.put_front.Goals as goal

pub put-requires : goal.put-requires
put-requires c =
    (omega (arith, c.put-first.ensures.value, c.put-second.ensures.value, c.put_buses-end.ensures.value, buses_bound c.args.number), omega arith)

pub returns : goal.returns
returns c =
    let p = c.put-first.ensures in
    let q = c.put-second.ensures in
    let r = c.put_buses-end.ensures in
    let s = c.put.ensures in
    let both = front_laid_lem c.args.number c.args.boot c.version-apic.ensures (put_as _ c.processor.ensures p.value p.out_after)
    (put_as _ c.processor-2.ensures q.value q.out_after) (put_as _ refl r.value r.out_after) (put_as _ c.io_apic.ensures s.value s.out_after) in
    record { value = (omega (arith, both.0.place), both.1); out_after = both.0.text }
