-- What is at most a number that fits, fits.
use mathlib.Core.Path.{sym}
use native.Mathlib.Omega.{arith}
use lib.ListN.{length}
use borrow.Author.Tests.{le-leb}
use Rattle.sets.specs.Sets.{members}
use Rattle.slots.proofs.fits.Goals as goal

pub returns-then-most-room : goal.returns-then-most-room
returns-then-most-room c =
    sym (le-leb (length (members c.args.set.now)) c.args.room (omega (arith, c.requires.1, c.if-most-room.true)))

pub returns : goal.returns
returns c = rw c.count.ensures
