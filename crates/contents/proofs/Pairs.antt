-- Laws of clashes: the two rules of the regions together, as one test of two regions. Assumes nothing.
use Prim.Native.Nat.{ℕ, ◌+◌}
use mathlib.Core.Path.{◌≡◌, refl}
use mathlib.Core.Bool.{Bool, true, false, not, cond, ◌||◌, ◌&&◌}
use mathlib.Core.List.{List, [], ◌∷◌}
use Rattle.std.specs.Prelude.{None, Some}
use native.Mathlib.Omega.{arith}
use Rattle.mps.specs.Words.{any, every, each}
use Rattle.mps.specs.Sums.{total}
use Rattle.mps.specs.Dump.{size_of, sound_region, of_kind, once_only, share, overlap, kind_twice}
use Rattle.mps.specs.declared.Region.{Region}
use Rattle.laws.proofs.Tests.{whether, or_four}
use Rattle.contents.specs.Steps.{clashing, fitted}
use Rattle.contents.proofs.Once.{twice_none, twice_first}

-- Either of two tests, the second only where o is so.
any_either : {A : Type 0} (p q : A → Bool) (o : Bool) (xs : List A) → any (λ (x : A). p x || o && q x) xs ≡ (any p xs || o && any q xs)
unfolding any
any_either p q o [] = whether o (λ t. rw t) (λ t. rw t)
any_either p q true (x ∷ xs) = rw (any_either p q true xs) (or_four (p x) (q x) (any p xs) (any q xs))
any_either p q false (x ∷ xs) = rw (any_either p q false xs) (or_four (p x) false (any p xs) false)

-- The rules of a list of regions.
abbrev pub rules : List Region → Bool
rules rs = every sound_region rs && not (overlap rs || kind_twice rs)

-- .. of a list of one more: s is whether the first is sound, a whether it clashes with one behind it.
rules_more : (s a e o : Bool) → (s && not a && (e && not o)) ≡ (s && e && not (a || o))
rules_more false a e o = refl
rules_more true false e o = refl
rules_more true true false o = refl
rules_more true true true o = refl

rules_next : (r : Region) (rs : List Region) → (sound_region r && not (any (clashing r) rs) && rules rs) ≡ rules (r ∷ rs)
unfolding clashing overlap every
rules_next r rs =
    let k = once_only r && any (of_kind r.kind) rs in
    let both = or_four (any (share r) rs) k (overlap rs) (kind_twice rs) in
    rw (any_either (share r) (of_kind r.kind) (once_only r) rs, twice_first r rs, ← both)
    (rules_more (sound_region r) (any (share r) rs || k) (every sound_region rs) (overlap rs || kind_twice rs))

cond_and : {A : Type 0} (a b : Bool) (x y : A) → cond a (cond b x y) y ≡ cond (a && b) x y
cond_and true b x y = refl
cond_and false b x y = refl

-- The last body's end is told just where the rules are kept.
pub fitted_is : (end : ℕ) (rs : List Region) → fitted end rs ≡ cond (rules rs) (Some (end + total (each size_of rs))) None
unfolding fitted every overlap each total
fitted_is end [] = let e : end + total [] ≡ end = omega arith in rw (twice_none, e)
fitted_is end (r ∷ rs) =
    let first = sound_region r && not (any (clashing r) rs) in
    let last = end + r.size + total (each size_of rs) in
    let e : last ≡ end + (r.size + total (each size_of rs)) = omega arith in
    rw (fitted, fitted_is (end + r.size) rs, cond_and first (rules rs) (Some last) None, rules_next r rs, e)
