-- The bytes from a place on, as one comparison.
use native.Mathlib.Omega.{arith}
use lib.ListN.{length}
use Rattle.lines.proofs.Laws.{has_room, has_none}
use Rattle.lines.proofs.has.Goals as goal

pub returns-then-out-n : goal.returns-then-out-n
returns-then-out-n c = let a = c.args in has_none a.at a.n (length a.out.now) (omega arith)

pub returns : goal.returns
returns c = let a = c.args in has_room a.at a.n (length a.out.now) (omega arith)
