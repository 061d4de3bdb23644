-- Laws for a loop over the regions of a dump. Assumes nothing.
use Prim.Native.Nat.{ℕ, ◌+◌, ◌≤◌}
use mathlib.Core.Path.{◌≡◌, refl}
use mathlib.Core.Bool.{Bool, true, false}
use mathlib.Core.List.{List, [], ◌∷◌}
use native.Mathlib.Omega.{arith}
use lib.ListN.{length}
use lib.Dec.{leb}
use Rattle.std.specs.List.{list_any}
use Rattle.std.specs.Prelude.{None, Some}
use Rattle.mps.specs.Words.{any}
use Rattle.mps.specs.Layout.{region_count}
use Rattle.mps.specs.Dump.{contents_end, sound_region}
use Rattle.mps.specs.declared.Region.{Region}
use Rattle.laws.proofs.Tests.{whether}
use Rattle.regions.specs.Walk.{listed}
use Rattle.contents.specs.Steps.{clashing, fitted}
use Rattle.contents.proofs.Bodies.{regions_length}

-- What the library's `any` answers.
pub any_is : {A : Type 0} (p : A → Bool) (xs : List A) → list_any p xs ≡ any p xs
unfolding any
any_is p [] = refl
any_is p (x ∷ xs) = rw (any_is p xs)

pub listed_most : (d : List ℕ) → length (listed d) ≤ region_count d
unfolding listed
listed_most d =
    whether (leb (contents_end d) (length d)) (λ t. rw t (omega (arith, regions_length d))) (λ f. rw f (omega arith))

-- ---- Where the last body ends, of one region and those behind it

pub fit_end : (end : ℕ) → fitted end [] ≡ Some end
unfolding fitted
fit_end end = refl

module _ (end : ℕ) (r : Region) (rs : List Region) where
  pub fit_unsound : sound_region r ≡ false → fitted end (r ∷ rs) ≡ None
  unfolding fitted
  fit_unsound s = rw s

  module _ (s : sound_region r ≡ true) where
    pub fit_clash : any (clashing r) rs ≡ true → fitted end (r ∷ rs) ≡ None
    unfolding fitted
    fit_clash c = rw (s, c)

    pub fit_next : any (clashing r) rs ≡ false → fitted end (r ∷ rs) ≡ fitted (end + r.size) rs
    unfolding fitted
    fit_next c = rw (s, c)

pub ruleset fits = (fit_end, fit_unsound, fit_clash, fit_next)
