-- What the array tells of the links that were stored in it: where two have one bus, and which climbs end. Assumes nothing.
use Prim.Native.Nat.{ℕ, zero, suc, ◌/◌, ◌<◌}
use mathlib.Core.Path.{◌≡◌, refl, ap, sym, ◌∙◌}
use mathlib.Core.Bool.{Bool, true, false, ◌||◌, or_assoc, true≢false}
use mathlib.Core.List.{List, [], ◌∷◌}
use native.Mathlib.Omega.{arith}
use lib.ListN.{length, get_or, set, length-set}
use lib.Seq.{get_or-set_same, get_or-set_other}
use lib.Dec.{eqb}
use borrow.Author.Tests.{eqb-true, eqb-false}
use Rattle.mps.specs.Words.{among, twice, keep, any, each}
use Rattle.mps.specs.Layout.{Entry, extended_bus, parent_bus}
use Rattle.mps.specs.Sections.{rows}
use Rattle.mps.specs.Rules.{on_bus, parents_of, on_circle, circle}
use Rattle.std.specs.Prelude.{Option, Some, None}
use Rattle.laws.proofs.Tests.{whether, or_parts, or_swap, or_four}
use Rattle.laws.proofs.Rows.{rows_short, rows_count}
use Rattle.laws.proofs.Small.{Bytes, Small, small_none, small_more, small_rows}
use Rattle.laws.proofs.Circle.{climbs, endless, parents_of_here, parents_of_skip, endless_circle, ends_free}
use Rattle.parents.specs.Parents.{wrong_hierarchy_in, wrong_parents, wrong_links, Array, store, filled, clash, stopped, goes_on, cleared, endless_in}
use Rattle.parents.proofs.Laws.{set_at, without_at, blank, blank_length, blank_at, goes_stop, goes_next, cleared_keeps}

-- ---- Two links of one bus

-- Whether the bus of a link has one in the array.
taken : Array → Entry → Bool
taken up e = elim (get_or up (extended_bus e) None) [ None ↦ false | Some p ↦ true ]

taken_none : (n : ℕ) (ls : List Entry) → any (taken (blank n)) ls ≡ false
unfolding any taken
taken_none n [] = refl
taken_none n (e ∷ ls) = rw (taken, blank_at n (extended_bus e)) (taken_none n ls)

taken_set :
    (up : Array) (b p : ℕ) (e : Entry) → b < length up
    → taken (set up b (Some p)) e ≡ (eqb b (extended_bus e) || taken up e)
unfolding taken
taken_set up b p e h = cases (eqb b (extended_bus e)) refl
  where
    cases : (t : Bool) → eqb b (extended_bus e) ≡ t → taken (set up b (Some p)) e ≡ (t || taken up e)
    cases true q = rw (taken, set_at up b (Some p) (extended_bus e) true h q)
    cases false q = rw (taken, set_at up b (Some p) (extended_bus e) false h q)

any_taken_set :
    (up : Array) (b p : ℕ) (ls : List Entry) → b < length up
    → any (taken (set up b (Some p))) ls ≡ (among b (each extended_bus ls) || any (taken up) ls)
unfolding any each among
any_taken_set up b p [] h = refl
any_taken_set up b p (e ∷ ls) h =
    rw (taken_set up b p e h, any_taken_set up b p ls h)
    (or_four (eqb b (extended_bus e)) (taken up e) (among b (each extended_bus ls)) (any (taken up) ls))

-- Links clash exactly where one's bus has a link in the array, or two of them are of one bus.
clash_in :
    (up : Array) (ls : List Entry) → length up ≡ 256 → Small ls
    → clash up ls ≡ (any (taken up) ls || twice (each extended_bus ls))
unfolding clash any each twice taken
clash_in up [] h small_none = refl
clash_in up (e ∷ ls) h (small_more l r) =
    cases (get_or up (extended_bus e) None) refl (any (taken up) ls) (among (extended_bus e) (each extended_bus ls)) (twice (each extended_bus ls))
    (clash_in (store up e) ls (rw length-set h) r ∙ rw (any_taken_set up (extended_bus e) (parent_bus e) ls (omega (arith, h, l 2))))
  where
    cases :
        (v : Option ℕ) → get_or up (extended_bus e) None ≡ v → (a b c : Bool) → clash (store up e) ls ≡ ((b || a) || c)
        → clash up (e ∷ ls) ≡ ((taken up e || a) || (b || c))
    cases None q a b c ih = rw (clash, taken, q) (ih ∙ or_assoc b a c ∙ or_swap b a c)
    cases (Some p) q a b c ih = rw (clash, taken, q)

clash_twice : (ls : List Entry) → Small ls → clash (blank 256) ls ≡ twice (each extended_bus ls)
clash_twice ls l = clash_in (blank 256) ls (blank_length 256) l ∙ rw (taken_none 256 ls)

-- ---- The filled array

-- A bus without a link among those stored is left as it is,
filled_other :
    (up : Array) (ls : List Entry) (bus : ℕ) → among bus (each extended_bus ls) ≡ false
    → get_or (filled up ls) bus None ≡ get_or up bus None
unfolding filled each among
filled_other up [] bus a = refl
filled_other up (e ∷ ls) bus a =
    let h = or_parts (eqb bus (extended_bus e)) (among bus (each extended_bus ls)) a in
    filled_other (store up e) ls bus h.1
    ∙ get_or-set_other up (extended_bus e) bus (Some (parent_bus e)) None (eqb-false bus (extended_bus e) h.0)

-- and one that has a link gets it, where no bus has two.
link_of : List ℕ → Option ℕ → Option ℕ
link_of [] d = d
link_of (p ∷ others) d = Some p

filled_link :
    (up : Array) (ls : List Entry) (bus : ℕ) → length up ≡ 256 → Small ls → twice (each extended_bus ls) ≡ false
    → get_or (filled up ls) bus None ≡ link_of (parents_of ls bus) (get_or up bus None)
unfolding filled each twice link_of parents_of keep
filled_link up [] bus h l t = refl
filled_link up (e ∷ ls) bus h (small_more l r) t =
    let b = extended_bus e in
    let link = Some (parent_bus e) in
    let n = or_parts (among b (each extended_bus ls)) (twice (each extended_bus ls)) t in
    whether (on_bus bus e)
    (λ q. rw (parents_of_here bus e ls q, ← eqb-true b bus q)
    (filled_other (store up e) ls b n.0 ∙ get_or-set_same up b link None (omega (arith, h, l 2))))
    (λ q. rw (parents_of_skip bus e ls q)
    (filled_link (store up e) ls bus (rw length-set h) r n.1 ∙ rw (set_at up b link bus false (omega (arith, h, l 2)) q)))

-- ---- What an array tells of links: where it has none the climb ends, and where it has one the climb goes on at the parent

-- The climb from a bus ends, after however many links.
abbrev Ends : List Entry → ℕ → Type 0
Ends ls bus = (k : ℕ) × (climbs k ls bus ≡ false)

-- The climb from a bus is that from another behind one link.
abbrev Leads : List Entry → ℕ → ℕ → Type 0
Leads ls bus p = (k : ℕ) → climbs (suc k) ls bus ≡ climbs k ls p

record Told (ls : List Entry) (up : Array) : Type 0 where
  ended : (bus : ℕ) → get_or up bus None ≡ None → Ends ls bus
  leads : (bus p : ℕ) → get_or up bus None ≡ Some p → Leads ls bus p

module _ (ls : List Entry) where
  link_ends : (bus : ℕ) (ps : List ℕ) → parents_of ls bus ≡ ps → link_of ps None ≡ None → Ends ls bus
  unfolding climbs link_of
  link_ends bus [] e q = (1, rw (climbs, e))
  link_ends bus (p ∷ ps) e q = cc

  link_leads : (bus p : ℕ) (ps : List ℕ) → parents_of ls bus ≡ ps → link_of ps None ≡ Some p → Leads ls bus p
  unfolding climbs link_of
  link_leads bus p [] e q k = cc
  link_leads bus p (x ∷ ps) e q k = rw (climbs, e) (ap (climbs k ls) cc)

  -- The filled array tells the links,
  told_filled : Small ls → twice (each extended_bus ls) ≡ false → Told ls (filled (blank 256) ls)
  told_filled l t = record {
    ended = λ bus q. link_ends bus (parents_of ls bus) refl (sym (is bus) ∙ q);
    leads = λ bus p q. link_leads bus p (parents_of ls bus) refl (sym (is bus) ∙ q);
  }
    where
      is : (bus : ℕ) → get_or (filled (blank 256) ls) bus None ≡ link_of (parents_of ls bus) None
      is bus = filled_link (blank 256) ls bus (blank_length 256) l t ∙ rw (blank_at 256 bus)

  -- and so it does without the link of a bus whose climb ends.
  told_set : (up : Array) (bus : ℕ) → Told ls up → Ends ls bus → Told ls (set up bus None)
  told_set up bus t e = record {
    ended = λ j. ended_at j (eqb bus j) refl;
    leads = λ j. leads_at j (eqb bus j) refl;
  }
    where
      ended_at : (j : ℕ) (b : Bool) → eqb bus j ≡ b → get_or (set up bus None) j None ≡ None → Ends ls j
      ended_at j true w q = rw (← eqb-true bus j w) e
      ended_at j false w q = t.ended j (sym (without_at up bus j false w) ∙ q)

      leads_at : (j : ℕ) (b : Bool) → eqb bus j ≡ b → (p : ℕ) → get_or (set up bus None) j None ≡ Some p → Leads ls j p
      leads_at j true w p q = let g = without_at up bus j true w in cc
      leads_at j false w p q = t.leads j p (sym (without_at up bus j false w) ∙ q)

  -- A climb that goes on in the array goes on in the links,
  goes_climbs : (up : Array) → Told ls up → (n bus : ℕ) → goes_on n up bus ≡ true → climbs n ls bus ≡ true
  unfolding climbs
  goes_climbs up t zero bus g = refl
  goes_climbs up t (suc n) bus g = cases (get_or up bus None) refl (goes_climbs up t n)
    where
      cases :
          (v : Option ℕ) → get_or up bus None ≡ v → ((p : ℕ) → goes_on n up p ≡ true → climbs n ls p ≡ true)
          → climbs (suc n) ls bus ≡ true
      cases None q ih = absurd (true≢false (sym g ∙ goes_stop up bus (suc n) (omega arith) q))
      cases (Some p) q ih = t.leads bus p q n ∙ ih p (sym (goes_next up bus (suc n) n refl p q) ∙ g)

  -- and one that ends in it ends in them.
  goes_ends : (up : Array) → Told ls up → (n bus : ℕ) → goes_on n up bus ≡ false → Ends ls bus
  unfolding goes_on
  goes_ends up t zero bus g = absurd (true≢false g)
  goes_ends up t (suc n) bus g = cases (get_or up bus None) refl (goes_ends up t n)
    where
      cases : (v : Option ℕ) → get_or up bus None ≡ v → ((p : ℕ) → goes_on n up p ≡ false → Ends ls p) → Ends ls bus
      cases None q ih = t.ended bus q
      cases (Some p) q ih =
          let r = ih p (sym (goes_next up bus (suc n) n refl p q) ∙ g) in
          (suc r.0, t.leads bus p q r.0 ∙ r.1)

  -- Where the climb from a bus ends, so does that from its parent,
  ends_up : (bus p : ℕ) → Leads ls bus p → Ends ls bus → Ends ls p
  unfolding climbs
  ends_up bus p l (zero, e) = absurd (true≢false e)
  ends_up bus p l (suc k, e) = (k, sym (l k) ∙ e)

  -- so all links of that climb can be taken away.
  told_cleared : (n : ℕ) (up : Array) (bus : ℕ) → Told ls up → Ends ls bus → Told ls (cleared n up bus)
  told_cleared n up bus t e =
      (cleared_keeps (λ u b. Told ls u × Ends ls b)
      (λ u b p q k. (told_set u b k.0 k.1, ends_up b p (k.0.leads b p q) k.1))
      n up bus (t, e)).1.0

  -- ---- All climbs

  -- What the last loop finds: a circle, or that the buses of es are on none.
  Found : List Entry → Bool → Type 0
  Found es true = circle ls ≡ true
  Found es false = any (on_circle ls) (each extended_bus es) ≡ false

  found_next : (e : Entry) (es : List Entry) (x : Bool) → Ends ls (extended_bus e) → Found es x → Found (e ∷ es) x
  unfolding Found any each
  found_next e es true w f = f
  found_next e es false w f = rw (ends_free ls w.0 (extended_bus e) w.1) f

  found_in : (es : List Entry) (up : Array) → Told ls up → Found es (endless_in (suc (length ls)) up es)
  unfolding endless_in Found any each endless
  found_in [] up t = refl
  found_in (e ∷ es) up t =
      cases (goes_on n up b) refl (λ k. found_in es (cleared n up b) (told_cleared n up b t k))
    where
      n : ℕ
      n = suc (length ls)

      b : ℕ
      b = extended_bus e

      cases :
          (x : Bool) → goes_on n up b ≡ x → (Ends ls b → Found es (endless_in n (cleared n up b) es))
          → Found (e ∷ es) (endless_in n up (e ∷ es))
      cases true q ih = rw (endless_in, q) (endless_circle ls b (goes_climbs up t n b q))
      cases false q ih =
          let w = goes_ends up t n b q in
          rw (endless_in, q) (found_next e es (endless_in n (cleared n up b) es) w (ih w))

  endless_is : (up : Array) → Told ls up → endless_in (suc (length ls)) up ls ≡ circle ls
  unfolding Found circle
  endless_is up t = cases (endless_in (suc (length ls)) up ls) (found_in ls up t)
    where
      cases : (x : Bool) → Found ls x → x ≡ circle ls
      cases true f = sym f
      cases false f = sym f

-- ---- The answers of `wrong`

module _ (roll s : List ℕ) (bytes : Bytes s) where
  -- What ends the filling: a link that is wrong by the roll, or a second one of a bus.
  stopped_is :
      stopped roll (blank 256) (rows 8 s) ≡ (any (wrong_hierarchy_in roll) (rows 8 s) || twice (each extended_bus (rows 8 s)))
  unfolding stopped
  stopped_is = rw (clash_twice (rows 8 s) (small_rows 8 s bytes))

  module _ (r : Bool) (e : r ≡ stopped roll (blank 256) (rows 8 s)) where
    pub wrong_stopped : r ≡ true → true ≡ wrong_links roll (rows 8 s)
    unfolding wrong_links wrong_parents
    wrong_stopped t =
        let w = any (wrong_hierarchy_in roll) (rows 8 s) in
        let d = twice (each extended_bus (rows 8 s)) in
        sym (ap (λ (x : Bool). x || circle (rows 8 s)) (sym stopped_is ∙ sym e ∙ t)) ∙ or_assoc w d (circle (rows 8 s))

    pub wrong_circle :
        (up : Array) (n : ℕ) → r ≡ false → up ≡ filled (blank 256) (rows 8 s) → n ≡ suc (length s / 8)
        → endless_in n up (rows 8 s) ≡ wrong_links roll (rows 8 s)
    unfolding wrong_links wrong_parents
    wrong_circle up n f u h =
        let ls = rows 8 s in
        let no = or_parts (any (wrong_hierarchy_in roll) ls) (twice (each extended_bus ls)) (sym stopped_is ∙ sym e ∙ f) in
        rw (no.0, no.1, h, ← rows_count s) (endless_is ls up (rw u (told_filled ls (small_rows 8 s bytes) no.1)))

-- Where there is no link nothing is wrong.
pub wrong_none : (roll s : List ℕ) → length s < 8 → false ≡ wrong_links roll (rows 8 s)
unfolding wrong_links wrong_parents twice each circle any
wrong_none roll s h = rw (rows_short 8 s h)
