-- Laws of the search for the region that holds an address: the place of the first that does. Assumes nothing.
use Prim.Native.Nat.{ℕ, ◌+◌, ◌≤◌}
use mathlib.Core.Path.{◌≡◌, refl}
use mathlib.Core.Bool.{Bool, ◌&&◌}
use mathlib.Core.List.{List, [], ◌∷◌}
use native.Mathlib.Omega.{arith}
use lib.ListN.{length, get_or, take}
use lib.Seq.{take_all}
use lib.Dec.{leb, ltb}
use borrow.Author.Tests.{ltb-false}
use Rattle.std.specs.List.{position, position_or_len}
use Rattle.std.specs.Option.{unwrap_or}
use Rattle.mps.specs.Words.{keep}
use Rattle.mps.specs.Dump.{holds, no_region, holding}
use Rattle.mps.specs.declared.Region.{Region}
use Rattle.laws.proofs.Tests.{whether}
use Rattle.regions.specs.Regions.{place_holding}

-- ---- The library's search

module _ (address : ℕ) where
  abbrev pub passes : Region → Bool
  passes r = leb r.base address && ltb address (r.base + r.size)

  place_most : (rs : List Region) → place_holding address rs ≤ length rs
  unfolding place_holding
  place_most [] = omega arith
  place_most (r ∷ rs) = whether (holds address r) (λ t. rw t (omega arith)) (λ t. rw t (omega (arith, place_most rs)))

  prefix_place : (rs : List Region) → position_or_len passes rs ≡ place_holding address rs
  unfolding place_holding holds
  prefix_place [] = refl
  prefix_place (r ∷ rs) = whether (passes r) (λ t. rw t) (λ t. rw t (omega (arith, prefix_place rs)))

  -- The place that `position` answers, or how many there are.
  pub place_position : (rs : List Region) → unwrap_or (position passes rs) (length rs) ≡ place_holding address rs
  place_position rs =
      let e = prefix_place rs in
      whether (ltb (position_or_len passes rs) (length rs))
      (λ t. rw t e)
      (λ t. rw t (omega (arith, e, place_most rs, ltb-false _ _ t)))

-- ---- The region at the place

-- It is the one that holds the address; where the search went past the last, none does.
pub holding_place :
    (address : ℕ) (rs : List Region) → get_or rs (place_holding address rs) (no_region address) ≡ holding address rs
unfolding place_holding holding keep
holding_place address [] = refl
holding_place address (r ∷ rs) = whether (holds address r) (λ t. rw t) (λ t. rw t (holding_place address rs))

-- The same for eight regions.
pub holding_at :
    (address : ℕ) (rs : List Region) → length rs ≡ 8
    → get_or rs (place_holding address rs) (no_region address) ≡ holding address (take 8 rs)
holding_at address rs all = rw (take_all 8 rs (omega arith)) (holding_place address rs)
