use Prim.Native.Nat.{◌-◌}
use mathlib.Core.Path.{◌≡◌}
use lib.ListN.{length}
use Rattle.mps.specs.Layout.{base_length, extended_end}
use Rattle.lines.specs.Wrote.{Wrote}
use Rattle.lines.specs.Entry.{shown}
use Rattle.listing.proofs.Walk.{Walking}
use Rattle.listing.proofs.put_entries.Given as goal

abbrev pub invariant-loop-place : goal.invariant-loop-place
invariant-loop-place l = (l.base ≡ base_length l.t) × (l.end ≡ extended_end l.t) × Walking shown l.t l.place (λ lines. Wrote l.initial.out l.at lines l.out l.put)

abbrev pub decreases-loop-place : goal.decreases-loop-place
decreases-loop-place l = length l.t - l.place
