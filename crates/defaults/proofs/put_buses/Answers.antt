-- By whether there is a second bus.
use mathlib.Core.Path.{refl}
use Rattle.mps.specs.Words.{text}
use Rattle.mps.specs.Defaults.{PCI}
use Rattle.defaults.specs.Laid.{first_bus}
use Rattle.defaults.proofs.Pieces.{put_as, one_bus, two_buses}
use Rattle.defaults.proofs.put_buses.Goals as goal

pub returns-then-number-lt5 : goal.returns-then-number-lt5
returns-then-number-lt5 c =
    let p = c.put-end.ensures in
    let n = c.args.number in
    let both = one_bus n (put_as (first_bus n) c.first_bus.ensures p.value p.out_after) c.if-number-lt5.true in
    record { value = both.place; out_after = both.text }

pub returns-else-number-lt5 : goal.returns-else-number-lt5
unfolding text PCI
returns-else-number-lt5 c =
    let p = c.put-end.ensures in
    let q = c.put.ensures in
    let n = c.args.number in
    let both = two_buses n (put_as (first_bus n) c.first_bus.ensures p.value p.out_after) c.if-number-lt5.false (put_as _ refl q.value q.out_after) in
    record { value = both.place; out_after = both.text }
