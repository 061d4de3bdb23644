-- `tables::ranges::ranges` meets its contract: the constants are the 1,024 values of `ranges_at`, which antt computes.
use Prim.Native.Nat.{◌%◌}
use mathlib.Core.Path.{◌∙◌}
use native.Mathlib.Omega.{arith}
use Rattle.mps.specs.Ranges.{isa, vga, ranges_at}
use Rattle.tables.proofs.Laws.{values, values_at, ranges_low}
use Rattle.tables.proofs.ranges.ranges.Goals as goal

pub returns : goal.returns
unfolding values ranges_at isa vga
returns c =
    let a = c.args.address in
    values_at ranges_at 1024 (a % 1024) 0 (omega arith) ∙ ranges_low a
