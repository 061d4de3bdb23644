-- What is noted in an empty set is what there is to list.
use Prim.Native.Nat.{◌≤◌}
use native.Mathlib.Omega.{arith}
use lib.ListN.{length}
use Rattle.mps.specs.Sections.{rows}
use Rattle.laws.proofs.Rows.{rows_count}
use Rattle.slots.specs.Sets.{set_words}
use Rattle.slots.proofs.Answering.{set_few, set_short, set_fits, set_put}
use Rattle.slots.proofs.of_set.Goals as goal
use Rattle.slots.proofs.of_set.Goals.{After-note}

-- The set has the words that it had.
size : (c : After-note) → length c.note.new.set ≤ set_words
size c = omega (arith, c.requires.1, c.note.auto)

pub fits-requires : goal.fits-requires
fits-requires c =
    (size (goal.at.fits-requires c).After-note, omega (arith, set_few c.args.pci.now (rows 8 c.args.s.now) _ _ (size (goal.at.fits-requires c).After-note) c.requires.2 c.note.ensures, rows_count c.args.s.now))

pub returns-then-not-fits : goal.returns-then-not-fits
returns-then-not-fits c =
    let both = set_short c.args.pci.now (rows 8 c.args.s.now) _ _ (size (goal.at.returns-then-not-fits c).After-note) c.requires.2 c.note.ensures c.args.out.now c.fits.ensures c.if-not-fits.true in record { value = both.0; out_after = both.1 }

pub write-requires : goal.write-requires
write-requires c = (
  size (goal.at.write-requires c).After-note,
  set_fits c.args.pci.now (rows 8 c.args.s.now) _ _ (size (goal.at.write-requires c).After-note) c.requires.2 c.note.ensures c.args.out.now c.fits.ensures c.if-not-fits.false,
)

pub returns : goal.returns
returns c =
    let both = set_put c.args.pci.now (rows 8 c.args.s.now) _ _ (size (goal.at.returns c).After-note) c.requires.2 c.note.ensures c.args.out.now c.fits.ensures c.if-not-fits.false
    c.write.ensures.value c.write.ensures.out_after in record { value = both.0; out_after = both.1 }
