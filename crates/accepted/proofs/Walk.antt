-- The walk has one fault. Assumes nothing.
use Prim.Native.Nat.{ℕ}
use mathlib.Core.Path.{◌≡◌, refl}
use mathlib.Core.Bool.{Bool, true, false, cond, true≢false}
use mathlib.Core.List.{List, [], ◌∷◌}
use lib.ListN.{length}
use lib.Dec.{eqb, ltb}
use Rattle.mps.specs.Words.{first}
use Rattle.mps.specs.Layout.{Entry, base_entry_length}
use Rattle.mps.specs.Table.{entry_fault, walk_from}

-- A fault of the walk is none, 10, 11 or 12.
pub data Fault : ℕ → Type 0 where
  none : Fault 0
  type : Fault 10
  cut : Fault 11
  order : Fault 12

fault_choose : (a b c : Bool) → Fault (cond a 10 (cond b 11 (cond c 12 0)))
fault_choose true b c = type
fault_choose false true c = cut
fault_choose false false true = order
fault_choose false false false = none

fault_first : {a b : ℕ} → Fault a → Fault b → Fault (first a b)
fault_first none g = g
fault_first type g = type
fault_first cut g = cut
fault_first order g = order

pub walk_fault_lem : (before : ℕ) (es : List Entry) → Fault (walk_from before es)
unfolding walk_from entry_fault
walk_fault_lem before [] = none
walk_fault_lem before (e ∷ es) =
    fault_first
    (fault_choose (ltb 4 (Rattle.mps.specs.Layout.type e)) (ltb (length e) (base_entry_length e)) (ltb (Rattle.mps.specs.Layout.type e) before))
    (walk_fault_lem (Rattle.mps.specs.Layout.type e) es)

-- Where no row has it, there is none.
pub fault_none : {w : ℕ} → Fault w → eqb w 10 ≡ false → eqb w 11 ≡ false → eqb w 12 ≡ false → w ≡ 0
fault_none none x y z = refl
fault_none type x y z = absurd (true≢false x)
fault_none cut x y z = absurd (true≢false y)
fault_none order x y z = absurd (true≢false z)
