use Prim.Native.Nat.{◌-◌}
use mathlib.Core.Path.{◌≡◌}
use lib.ListN.{length}
use Rattle.mps.specs.Layout.{base_length, extended_end}
use Rattle.lines.specs.Entry.{entry_line}
use Rattle.listing.proofs.Walk.{Walking}
use Rattle.listing.proofs.entries_width.Given as goal

abbrev pub invariant-loop-place : goal.invariant-loop-place
invariant-loop-place l = (l.base ≡ base_length l.t) × (l.end ≡ extended_end l.t) × Walking entry_line l.t l.place (λ lines. l.sum ≡ length lines)

abbrev pub decreases-loop-place : goal.decreases-loop-place
decreases-loop-place l = length l.t - l.place
