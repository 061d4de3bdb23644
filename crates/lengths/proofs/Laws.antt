-- What may be used of the extended length, whatever the header's words for it are. Assumes nothing.
use Prim.Native.Nat.{ℕ, ◌<◌, ◌^◌}
use mathlib.Core.List.{List}
use Rattle.mps.specs.Layout.{extended_length}
use Rattle.laws.proofs.Small.{Bytes}
use Rattle.numbers.proofs.Laws.{le_below}

pub extended_below : (t : List ℕ) → Bytes t → extended_length t < 256 ^ 2
unfolding extended_length
extended_below t b = le_below 2 t 40 b
