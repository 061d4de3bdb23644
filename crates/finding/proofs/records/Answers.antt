-- As many turns as there are regions, so that their count fits.
use mathlib.Core.Logic.{inl}
use native.Mathlib.Omega.{arith}
use Rattle.finding.proofs.Spots.{listed_few}
use Rattle.finding.proofs.records.Goals as goal

pub loop-i-init-derived : goal.loop-i-init-derived
loop-i-init-derived c =
    let few = listed_few c.args.d.now c.requires in
    let a = c.enumerate-i-items.ensures in
    rw (c.into_iter-i-iterator.ensures.into_iter_gives, a.source, a.count, c.of_dump.ensures)
    ((tt, tt, inl (omega arith)), tt)
