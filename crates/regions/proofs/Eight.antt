-- Laws of `eight`: eight records, the regions first and blank ones behind them. Assumes nothing.
use Prim.Native.Nat.{ℕ, zero, suc, ◌+◌, ◌-◌, ◌≤◌}
use mathlib.Core.Path.{◌≡◌, refl, ap, ◌∙◌}
use mathlib.Core.Bool.{Bool, true}
use mathlib.Core.List.{List, ◌∷◌, ◌++◌}
use native.Mathlib.Omega.{arith}
use lib.ListN.{length, take, drop, replicate, length-append, length-replicate}
use lib.Seq.{take-append-add, take_all, sets, sets-eq}
use Rattle.mps.specs.Words.{keep, head}
use Rattle.mps.specs.Layout.{regions_most}
use Rattle.mps.specs.declared.Region.{Region}
use Rattle.regions.specs.Regions.{blank, eight}
use Rattle.regions.proofs.Firsts.{first_before, first_replicate}

pub take_replicate : {A : Type 0} (k n : ℕ) (x : A) → k ≤ n → take k (replicate n x) ≡ replicate k x
take_replicate zero n x h = refl
take_replicate (suc k) zero x h = absurd (omega arith)
take_replicate (suc k) (suc n) x h = ap (λ l. x ∷ l) (take_replicate k n x (omega arith))

pub drop_replicate : {A : Type 0} (k n : ℕ) (x : A) → drop k (replicate n x) ≡ replicate (n - k) x
drop_replicate zero n x = let e : n - 0 ≡ n = omega arith in rw e
drop_replicate (suc k) zero x = let e : 0 - suc k ≡ 0 = omega arith in rw e
drop_replicate (suc k) (suc n) x = let e : suc n - suc k ≡ n - k = omega arith in rw e (drop_replicate k n x)

module _ (rs : List Region) (h : length rs ≤ regions_most) where
  pub eight_is : eight rs ≡ rs ++ replicate (regions_most - length rs) blank
  unfolding eight
  eight_is =
      let k = regions_most - length rs in
      let e : regions_most ≡ length rs + k = omega arith in
      ap (λ (n : ℕ). take n (rs ++ replicate regions_most blank)) e
      ∙ take-append-add rs (replicate regions_most blank) k
      ∙ ap (λ (l : List Region). rs ++ l) (take_replicate k regions_most blank (omega arith))

  pub length_eight : length (eight rs) ≡ regions_most
  length_eight =
      let k = regions_most - length rs in
      rw (eight_is, length-append rs (replicate k blank), length-replicate k blank) (omega arith)

  -- So they are stored one behind the other in blank records.
  pub eight_sets : sets (replicate 8 blank) 0 rs ≡ eight rs
  eight_sets =
      let e : 0 + length rs ≡ length rs = omega arith in
      rw eight_is (rw (e, drop_replicate (length rs) 8 blank) at (sets-eq rs (replicate 8 blank) 0 (omega arith)))

  -- All eight of them.
  pub take_eight : take 8 (eight rs) ≡ eight rs
  take_eight = take_all 8 (eight rs) (omega (arith, length_eight))

  -- A search over the eight records answers as one over the regions, where it does not find a blank one.
  pub first_eight :
      (p : Region → Bool) (d : Region) → (p blank ≡ true → blank ≡ d)
      → head d (keep p (take 8 (eight rs))) ≡ head d (keep p rs)
  first_eight p d f =
      let k = regions_most - length rs in
      rw (take_eight, eight_is) (first_before p d (replicate k blank) (first_replicate p d k blank f) rs)
