-- The climb of the address query: in an accepted table the number that falls never runs out. Assumes nothing.
use Prim.Native.Nat.{ℕ, zero, suc, ◌+◌, ◌-◌}
use mathlib.Core.Path.{◌≡◌, refl, sym, ◌∙◌}
use mathlib.Core.Bool.{true, false, true≢false}
use mathlib.Core.List.{List, [], ◌∷◌}
use native.Mathlib.Nat.{suc-add}
use native.Mathlib.Numerals.{sub-one}
use lib.ListN.{length}
use Rattle.mps.specs.Words.{any, none, head}
use Rattle.mps.specs.Layout.{Entry, bus_type}
use Rattle.mps.specs.Rules.{links, parents_of, is_listed, ids_of, wrong_hierarchy, circle}
use Rattle.mps.specs.Addresses.{says, climb}
use Rattle.laws.proofs.Circle.{climbs, climbs_listed}
use Rattle.addresses.proofs.Climbs.{parent_linked, answer_above}

-- Where not n + 1 links can be climbed from a bus, it has none, or not n can be climbed from its parent.
climbs_cases : {C : Type 0} (n : ℕ) (ls : List Entry) (bus : ℕ) → climbs (suc n) ls bus ≡ false
    → (none (parents_of ls bus) ≡ true → C) → (climbs n ls (head bus (parents_of ls bus)) ≡ false → C) → C
unfolding climbs
climbs_cases {C} n ls bus = cases (parents_of ls bus)
  where
    cases : (ps : List ℕ) → elim ps [ [] ↦ false | p ∷ others ↦ climbs n ls p ] ≡ false
        → (none ps ≡ true → C) → (climbs n ls (head bus ps) ≡ false → C) → C
    cases [] c f g = f refl
    cases (p ∷ ps) c f g = g c

module _ (xs : List Entry) (kind address : ℕ) where
  -- A bus without a link answers by itself, whatever number is left to fall.
  climb_unlinked : (left bus k : ℕ) → none (parents_of (links xs) bus) ≡ true → climb left xs bus kind address k ≡ climb 0 xs bus kind address k
  unfolding climb
  climb_unlinked zero bus k h = refl
  climb_unlinked (suc left) bus k h = answer_above (says xs bus kind address) k (λ e. absurd (parent_linked xs bus kind address e h))

  -- Where at most `left` links can be climbed from a bus, more change nothing.
  pub climb_enough : (left m bus k : ℕ) → climbs (suc left) (links xs) bus ≡ false
      → climb (left + m) xs bus kind address k ≡ climb left xs bus kind address k
  unfolding climb climbs
  climb_enough zero m bus k c = climbs_cases 0 (links xs) bus c (climb_unlinked (zero + m) bus k) (λ d. absurd (true≢false d))
  climb_enough (suc left) m bus k c =
      climbs_cases (suc left) (links xs) bus c
      (λ h. climb_unlinked (suc left + m) bus k h ∙ sym (climb_unlinked (suc left) bus k h))
      (λ d. rw (suc-add left m, climb_enough left m (head bus (parents_of (links xs) bus)) (k + 1) d))

-- In an accepted table the listed buses are enough: the climb that asks on would answer the same.
pub seen_enough : (es xs : List Entry) → any (wrong_hierarchy es) (links xs) ≡ false → circle (links xs) ≡ false
    → (bus : ℕ) → is_listed es bus ≡ true
    → (kind address m : ℕ)
    → let left = length (ids_of bus_type es) - 1 in climb (left + m) xs bus kind address 0 ≡ climb left xs bus kind address 0
unfolding climbs
seen_enough es xs w c bus b kind address m = cases (length (ids_of bus_type es)) (climbs_listed es (links xs) w c bus b)
  where
    cases : (n : ℕ) → climbs n (links xs) bus ≡ false → climb (n - 1 + m) xs bus kind address 0 ≡ climb (n - 1) xs bus kind address 0
    cases zero d = absurd (true≢false d)
    cases (suc n) d = rw (sub-one (suc n)) (climb_enough xs kind address n m bus 0 d)
