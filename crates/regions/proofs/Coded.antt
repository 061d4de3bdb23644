-- What the code reads and searches is what the definitions say. Assumes nothing.
use Prim.Native.Nat.{ℕ}
use mathlib.Core.Path.{◌≡◌, refl}
use mathlib.Core.Bool.{true, false}
use mathlib.Core.List.{List, [], ◌∷◌}
use native.Mathlib.Omega.{arith}
use lib.ListN.{take}
use lib.Seq.{get_or-take}
use lib.Dec.{leb, ltb}
use borrow.Author.Tests.{ltb-true}
use Rattle.mps.specs.Words.{keep}
use Rattle.mps.specs.Layout.{row_length}
use Rattle.mps.specs.Dump.{of_kind, holds, no_region}
use Rattle.mps.specs.declared.Region.{Region}
use Rattle.laws.proofs.Tests.{and_parts}
use Rattle.laws.proofs.Lists.{keep_in, keep_out}
use Rattle.numbers.proofs.Laws.{le_take}
use Rattle.regions.specs.Regions.{blank, row_of, first_of_kind}

-- ---- A row

-- It has nine bytes: what stands behind them is not read.
pub row_nine : (offset : ℕ) (s : List ℕ) → row_of offset (take row_length s) ≡ row_of offset s
unfolding row_of
row_nine offset s = rw (get_or-take 9 s 0 0 (omega arith), le_take 4 9 s 1 (omega arith), le_take 4 9 s 5 (omega arith))

-- ---- A blank record

-- It holds no address.
pub holding_blank : (address : ℕ) → holds address blank ≡ true → blank ≡ no_region address
unfolding holds
holding_blank address t = absurd (omega (arith, ltb-true address 0 (and_parts (leb 0 address) (ltb address 0) t).1))

-- ---- The first region of a kind

pub kind_none : (k : ℕ) → first_of_kind k [] ≡ blank
unfolding first_of_kind keep
kind_none k = refl

module _ (k : ℕ) (r : Region) (rs : List Region) where
  pub kind_here : of_kind k r ≡ true → first_of_kind k (r ∷ rs) ≡ r
  unfolding first_of_kind
  kind_here t = rw (keep_in (of_kind k) r rs t)

  pub kind_behind : of_kind k r ≡ false → first_of_kind k (r ∷ rs) ≡ first_of_kind k rs
  unfolding first_of_kind
  kind_behind t = rw (keep_out (of_kind k) r rs t)
