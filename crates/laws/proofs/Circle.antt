-- Climbs by parents, and the circle among them (refusal 18): a circle of any length is found, and where there is none
-- every climb ends. Assumes nothing.
use Prim.Native.Nat.{ℕ, zero, suc, ◌≤◌}
use mathlib.Core.Path.{◌≡◌, refl, sym, ap, ◌∙◌, subst}
use mathlib.Core.Bool.{Bool, true, false, not, ◌||◌, ◌&&◌, true≢false, false≢true, or-true}
use mathlib.Core.List.{List, [], ◌∷◌}
use native.Mathlib.Omega.{arith}
use lib.ListN.{length}
use lib.Dec.{eqb}
use borrow.Author.Tests.{eqb-true, eq-eqb}
use Rattle.mps.specs.Words.{among, twice, keep, any, each, none, head}
use Rattle.mps.specs.Layout.{Entry, bus_type, extended_bus, parent_bus}
use Rattle.mps.specs.Rules.{ids_of, is_listed, wrong_hierarchy, on_bus, parents_of, climbs_to, on_circle, circle}
use Rattle.laws.proofs.Tests.{whether, either, and_parts, contrary, same_test}
use Rattle.laws.proofs.Lists.{among_none, among_first, among_rest, among_cases, Within, any_one, any_among, length_each}
use Rattle.laws.proofs.Pigeons.{pigeonhole}

-- Whether so many links can be climbed from a bus.
unfoldable pub climbs : ℕ → List Entry → ℕ → Bool
climbs zero ls bus = true
climbs (suc n) ls bus = elim (parents_of ls bus) [ [] ↦ false | parent ∷ others ↦ climbs n ls parent ]

-- Whether more links can be climbed from a bus than there are.
unfoldable pub endless : List Entry → ℕ → Bool
endless ls bus = climbs (suc (length ls)) ls bus

-- ---- The links

pub parents_of_here : (bus : ℕ) (e : Entry) (ls : List Entry) → on_bus bus e ≡ true → parents_of (e ∷ ls) bus ≡ parent_bus e ∷ parents_of ls bus
unfolding parents_of keep each
parents_of_here bus e ls h = rw (keep, h)

pub parents_of_skip : (bus : ℕ) (e : Entry) (ls : List Entry) → on_bus bus e ≡ false → parents_of (e ∷ ls) bus ≡ parents_of ls bus
unfolding parents_of keep
parents_of_skip bus e ls h = rw (keep, h)

-- A bus that has a link is among the links' buses, and its parent among their parents.
pub link_among : (bus : ℕ) (ls : List Entry) → not (none (parents_of ls bus)) ≡ true
    → (among bus (each extended_bus ls) ≡ true) × (among (head bus (parents_of ls bus)) (each parent_bus ls) ≡ true)
unfolding parents_of keep each
link_among bus [] l = absurd (false≢true l)
link_among bus (e ∷ ls) l =
    whether (on_bus bus e)
    (λ h. (
      among_first _ _ (each extended_bus ls) (sym (eqb-true (extended_bus e) bus h)),
      rw (parents_of_here bus e ls h) (among_first _ _ (each parent_bus ls) refl),
    ))
    (λ h. let r = link_among bus ls (rw (parents_of_skip bus e ls h) at l) in
    (among_rest bus (extended_bus e) _ r.0, rw (parents_of_skip bus e ls h) (among_rest _ (parent_bus e) _ r.1)))

-- A test of the first parent, where there is one.
first_so : (f : ℕ → Bool) (d : ℕ) (ps : List ℕ) → elim ps [ [] ↦ false | p ∷ others ↦ f p ] ≡ (not (none ps) && f (head d ps))
first_so f d [] = refl
first_so f d (p ∷ ps) = refl

module _ (ls : List Entry) where
  -- Whether a bus has a link, and the bus that it leads to.
  linked : ℕ → Bool
  linked bus = not (none (parents_of ls bus))

  up : ℕ → ℕ
  up bus = head bus (parents_of ls bus)

  linked_among : (bus : ℕ) → linked bus ≡ true → (among bus (each extended_bus ls) ≡ true) × (among (up bus) (each parent_bus ls) ≡ true)
  unfolding linked up
  linked_among bus l = link_among bus ls l

  climbs_step : (n bus : ℕ) → climbs (suc n) ls bus ≡ (linked bus && climbs n ls (up bus))
  unfolding climbs linked up
  climbs_step n bus = first_so (climbs n ls) bus (parents_of ls bus)

  climbs_up : (n bus : ℕ) → climbs (suc n) ls bus ≡ true → (linked bus ≡ true) × (climbs n ls (up bus) ≡ true)
  climbs_up n bus c = and_parts (linked bus) (climbs n ls (up bus)) (sym (climbs_step n bus) ∙ c)

  climbs_to_step : (n goal bus : ℕ) → climbs_to (suc n) ls goal bus ≡ (linked bus && (eqb (up bus) goal || climbs_to n ls goal (up bus)))
  unfolding climbs_to linked up
  climbs_to_step n goal bus = first_so (λ p. eqb p goal || climbs_to n ls goal p) bus (parents_of ls bus)

  -- ---- Ways

  -- A way from a bus to a goal, of at least one link and at most so many: what `climbs_to` tests.
  data Way (goal : ℕ) : ℕ → ℕ → Type 0 where
    last : {n bus : ℕ} → linked bus ≡ true → up bus ≡ goal → Way goal (suc n) bus
    more : {n bus : ℕ} → linked bus ≡ true → Way goal n (up bus) → Way goal (suc n) bus

  to_way : (n goal bus : ℕ) → climbs_to n ls goal bus ≡ true → Way goal n bus
  unfolding climbs_to
  to_way zero goal bus e = absurd (false≢true e)
  to_way (suc n) goal bus e =
      let h = and_parts (linked bus) (eqb (up bus) goal || climbs_to n ls goal (up bus)) (sym (climbs_to_step n goal bus) ∙ e) in
      either (eqb (up bus) goal) (climbs_to n ls goal (up bus)) h.1
      (λ q. last h.0 (eqb-true (up bus) goal q))
      (λ c. more h.0 (to_way n goal (up bus) c))

  from_way : {goal n bus : ℕ} → Way goal n bus → climbs_to n ls goal bus ≡ true
  from_way {goal} (last {n} {bus} l e) = rw (climbs_to_step n goal bus, l, eq-eqb (up bus) goal e)
  from_way {goal} (more {n} {bus} l w) = rw (climbs_to_step n goal bus, l, from_way w) (or-true (eqb (up bus) goal))

  -- A way begins with a link and ends with one,
  way_linked : {n goal bus : ℕ} → Way goal n bus → linked bus ≡ true
  way_linked (last l e) = l
  way_linked (more l w) = l

  way_parent : {goal n bus : ℕ} → Way goal n bus → among goal (each parent_bus ls) ≡ true
  way_parent (last {bus} l e) = rw (← e) (linked_among bus l).1
  way_parent (more l w) = way_parent w

  -- may be allowed more links,
  way_longer : {goal n bus : ℕ} → Way goal n bus → Way goal (suc n) bus
  way_longer (last l e) = last l e
  way_longer (more l w) = more l (way_longer w)

  -- and goes on behind its goal.
  way_on : {goal n bus : ℕ} → linked goal ≡ true → Way goal n bus → Way (up goal) (suc n) bus
  way_on k (last {n} l e) = more {n = suc n} l (rw e (last k refl))
  way_on k (more l w) = more l (way_on k w)

  -- ---- Ways round: from a bus to itself

  -- The parent is on the same circle, in as many links,
  round_up : {n bus : ℕ} → Way bus n bus → Way (up bus) n (up bus)
  round_up (last l e) = rw e (last l e)
  round_up (more l w) = way_on l w

  -- and so is every bus that is climbed to.
  round_along : {goal m n bus : ℕ} → Way goal m bus → Way bus n bus → Way goal n goal
  round_along {n} (last l e) c = subst (λ (g : ℕ). Way g n g) e (round_up c)
  round_along (more l w) c = round_along w (round_up c)

  -- From a bus on the way back, the parent is on the way back too,
  round_back : {m n goal bus : ℕ} → Way goal m goal → Way goal n bus → (k : ℕ) × Way goal k (up bus)
  round_back {m} c (last l e) = (m, rw e c)
  round_back c (more {n} l w) = (n, w)

  -- so the climb does not end.
  round_climbs : {m n goal bus : ℕ} (k : ℕ) → Way goal m goal → Way goal n bus → climbs k ls bus ≡ true
  unfolding climbs
  round_climbs zero c w = refl
  round_climbs {n} {bus} (suc k) c w =
      let r = round_back c w in
      rw (climbs_step k bus, way_linked w) (round_climbs {n = r.0} k c r.1)

  -- ---- Trails

  -- The first buses of a climb.
  trail : ℕ → ℕ → List ℕ
  trail zero bus = []
  trail (suc n) bus = bus ∷ trail n (up bus)

  trail_length : (n bus : ℕ) → length (trail n bus) ≡ n
  unfolding trail
  trail_length zero bus = refl
  trail_length (suc n) bus = ap suc (trail_length n (up bus))

  -- There is a way to each bus of a trail behind the first,
  trail_way : (n bus x : ℕ) → climbs n ls bus ≡ true → among x (trail n (up bus)) ≡ true → Way x n bus
  unfolding trail
  trail_way zero bus x c a = absurd (among_none x a)
  trail_way (suc n) bus x c a =
      let h = climbs_up n bus c in
      among_cases _ _ _ a (λ q. last h.0 (sym q)) (λ b. more h.0 (trail_way n (up bus) x h.1 b))

  -- so a bus that stands twice in it is on a circle. P is any property that goes from a bus to its parent.
  trail_twice : (P : ℕ → Type 0) → ((bus : ℕ) → P bus → P (up bus))
      → (n bus : ℕ) → P bus → climbs n ls bus ≡ true → twice (trail (suc n) bus) ≡ true → (x : ℕ) × P x × Way x n x
  unfolding trail twice among
  trail_twice P f zero bus p c t = absurd (false≢true t)
  trail_twice P f (suc n) bus p c t =
      either (among bus (trail (suc n) (up bus))) (twice (trail (suc n) (up bus))) t
      (λ a. (bus, p, trail_way (suc n) bus bus c a))
      (λ u. let r = trail_twice P f n (up bus) (f bus p) (climbs_up n bus c).1 u in (r.0, r.1, way_longer r.2))

  -- A trail stays among numbers that hold its first bus and all parents,
  trail_within : (bs : List ℕ) → Within (each parent_bus ls) bs
      → (n bus : ℕ) → climbs n ls bus ≡ true → among bus bs ≡ true → Within (trail (suc n) bus) bs
  unfolding trail
  trail_within bs f zero bus c b z a = among_cases _ _ _ a (λ q. rw q b) (λ e. absurd (among_none z e))
  trail_within bs f (suc n) bus c b z a =
      let h = climbs_up n bus c in
      among_cases _ _ _ a (λ q. rw q b) (trail_within bs f n (up bus) h.1 (f (up bus) (linked_among bus h.0).1) z)

  -- so one of as many links as these are has a bus twice.
  trail_crowded : (bs : List ℕ) → Within (each parent_bus ls) bs
      → (n bus : ℕ) → climbs n ls bus ≡ true → among bus bs ≡ true → length bs ≤ n → twice (trail (suc n) bus) ≡ true
  trail_crowded bs f n bus c b h =
      pigeonhole (trail (suc n) bus) bs (trail_within bs f n bus c b) (omega (arith, trail_length (suc n) bus))

  -- ---- The circle

  -- A way round of any length is one of as many links as there are.
  round_circle : {m bus : ℕ} → Way bus m bus → on_circle ls bus ≡ true
  unfolding on_circle
  round_circle {m} {bus} w =
      let n = length ls in
      let c = round_climbs n w w in
      let t = trail_crowded (each parent_bus ls) (λ z a. a) n bus c (way_parent w) (omega (arith, length_each parent_bus ls)) in
      let r = trail_twice (λ x. (k : ℕ) × Way bus k x) (λ x b. round_back w b.1) n bus (m, w) c t in
      from_way (round_along r.1.1 r.2)

  -- A climb of as many links as there are buses that it may come to leads into a circle.
  climbs_circle : (bs : List ℕ) → Within (each parent_bus ls) bs
      → (bus : ℕ) → among bus bs ≡ true → climbs (length bs) ls bus ≡ true → circle ls ≡ true
  unfolding circle
  climbs_circle bs f bus b c =
      let t = trail_crowded bs f (length bs) bus c b (omega arith) in
      let r = trail_twice (λ x. Unit {0}) (λ x u. u) (length bs) bus tt c t in
      any_among (on_circle ls) r.0 (each extended_bus ls) (linked_among r.0 (way_linked r.2)).0 (round_circle r.2)

  -- So does a climb of more links than there are: it comes to parents alone.
  pub endless_circle : (bus : ℕ) → endless ls bus ≡ true → circle ls ≡ true
  unfolding endless
  endless_circle bus c =
      let ps = each parent_bus ls in
      climbs_circle (bus ∷ ps) (λ z. among_rest z bus ps) bus (among_first bus bus ps refl) (rw (length_each parent_bus ls) c)

  -- A bus whose climb ends, however late, is on no circle.
  pub ends_free : (k bus : ℕ) → climbs k ls bus ≡ false → on_circle ls bus ≡ false
  unfolding on_circle
  ends_free k bus e =
      contrary (on_circle ls bus) (climbs k ls bus) (λ c. let w = to_way (length ls) bus bus c in round_climbs k w w) e

  -- There is a circle exactly where the climb from some link's bus is endless.
  pub circle_endless : circle ls ≡ any (endless ls) (each extended_bus ls)
  unfolding circle on_circle endless
  circle_endless =
      let bs = each extended_bus ls in
      same_test (circle ls) (any (endless ls) bs)
      (λ c. let r = any_one (on_circle ls) bs c in
      let w = to_way (length ls) r.0 r.0 r.1 in
      any_among (endless ls) r.0 bs (linked_among r.0 (way_linked w)).0 (round_climbs (suc (length ls)) w w))
      (λ c. let r = any_one (endless ls) bs c in endless_circle r.0 r.1)

  -- Where there is no circle, no climb takes more links than there are,
  pub free_climbs : circle ls ≡ false → (bus : ℕ) → climbs (suc (length ls)) ls bus ≡ false
  unfolding endless
  free_climbs h bus = contrary (endless ls bus) (circle ls) (endless_circle bus) h

  -- nor as many as there are buses, where these hold its first bus and all parents.
  pub climbs_bound : (bs : List ℕ) → circle ls ≡ false → Within (each parent_bus ls) bs
      → (bus : ℕ) → among bus bs ≡ true → climbs (length bs) ls bus ≡ false
  climbs_bound bs h f bus b = contrary (climbs (length bs) ls bus) (circle ls) (climbs_circle bs f bus b) h

-- A circle of any length is found within as many links as there are.
pub circle_enough : (m : ℕ) (ls : List Entry) (bus : ℕ) → climbs_to m ls bus bus ≡ true → on_circle ls bus ≡ true
circle_enough m ls bus e = round_circle ls (to_way ls m bus bus e)

-- ---- The buses that a table lists

-- A link to a bus that is not listed is refused,
unlisted_parent : (es ls : List Entry) (z : ℕ) → is_listed es z ≡ false → among z (each parent_bus ls) ≡ true → any (wrong_hierarchy es) ls ≡ true
unfolding any each wrong_hierarchy
unlisted_parent es [] z h a = absurd (among_none z a)
unlisted_parent es (e ∷ ls) z h a =
    among_cases z (parent_bus e) (each parent_bus ls) a
    (λ q. rw (any, wrong_hierarchy, ← q, h, or-true))
    (λ b. rw (unlisted_parent es ls z h b) (or-true (wrong_hierarchy es e)))

-- so a climb takes fewer links than there are listed buses.
pub climbs_listed : (es ls : List Entry) → any (wrong_hierarchy es) ls ≡ false → circle ls ≡ false
    → (bus : ℕ) → is_listed es bus ≡ true → climbs (length (ids_of bus_type es)) ls bus ≡ false
unfolding is_listed
climbs_listed es ls h c =
    climbs_bound ls (ids_of bus_type es) c
    (λ z a. whether (is_listed es z) (λ y. y) (λ n. absurd (true≢false (sym (unlisted_parent es ls z n a) ∙ h))))
