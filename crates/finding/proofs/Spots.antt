-- Laws of the search: the regions in its order, and the first good candidate of each and of all. Assumes nothing.
use Prim.Native.Nat.{ℕ, ◌+◌, ◌%◌, ◌≤◌, ◌<◌}
use mathlib.Core.Path.{◌≡◌, refl, ap, sym, ◌∙◌}
use mathlib.Core.Bool.{Bool, true, false, ◌&&◌, true≢false}
use mathlib.Core.List.{List, [], ◌∷◌, ◌++◌, append-nil}
use native.Mathlib.Omega.{arith}
use lib.ListN.{length, replicate}
use lib.Seq.{sets}
use lib.Dec.{leb, eqb}
use borrow.Author.Tests.{leb-true, eq-eqb, eqb-true}
use Rattle.mps.specs.Words.{cut, only, keep, any, none, joined}
use Rattle.mps.specs.Layout.{pointer_size, region_step, memory_end}
use Rattle.mps.specs.Dump.{end_of, body, of_kind, regions, kind_rule, sound_region, sound_dump}
use Rattle.mps.specs.Pointer.{Candidate, candidates, addressed, good_one, searched, pointers, no_pointer}
use Rattle.mps.specs.declared.Region.{Region}
use Rattle.laws.proofs.Tests.{whether, and_parts}
use Rattle.laws.proofs.Lists.{keep_append}
use Rattle.laws.proofs.Joined.{joined_append}
use Rattle.laws.proofs.Parts.{length_part, part_part}
use Rattle.regions.specs.Regions.{blank, eight, first_of_kind}
use Rattle.regions.proofs.Firsts.{first_all}
use Rattle.contents.proofs.Rules.{sound_parts}
use Rattle.contents.proofs.Laws.{sound_count, sound_listed, sound_kind, kind_listed, kind_inside}
use Rattle.regions.specs.Walk.{listed}
use Rattle.regions.proofs.Eight.{eight_sets}
use Rattle.std.specs.Prelude.{Option, None, Some, find}
use Rattle.std.specs.Option.{option_map}
use Rattle.std.proofs.lemmas.Option.{none-some, same_Some}
use Rattle.pointers.specs.Search.{search_of}
use Rattle.pointers.proofs.Laws.{none_found, found_first}
use Rattle.finding.specs.Spotted.{or_blank, searched_first, Fits, SpotsAt, Spots}
use Rattle.finding.specs.declared.Spotted.{Spotted}

-- ---- The regions that are searched

blank_candidates : (d : List ℕ) → candidates d blank ≡ []
unfolding candidates addressed cut
blank_candidates d = refl

pub spots_blank : (d : List ℕ) {o : Option Region} → o ≡ None → keep good_one (candidates d (or_blank o)) ≡ []
unfolding keep
spots_blank d e = rw (e, blank_candidates d)

blank_is : (k : ℕ) (rs : List Region) → keep (of_kind k) rs ≡ [] → first_of_kind k rs ≡ blank
unfolding first_of_kind
blank_is k rs e = rw e

module _ (d : List ℕ) (sound : sound_dump d ≡ true) where
  -- The regions of a kind: one if it is listed, and none if not.
  listed_is :
      (k : ℕ) {b : Bool} → 1 ≤ k → k ≤ 3 → any (of_kind k) (regions d) ≡ b
      → keep (of_kind k) (regions d) ≡ only b (first_of_kind k (regions d) ∷ [])
  listed_is k l h e = rw e at (sound_kind d k sound l h)

  -- A kind that is not listed has no candidates, and neither has a blank region.
  kind_candidates :
      (k : ℕ) → 1 ≤ k → k ≤ 3 → joined (candidates d) (keep (of_kind k) (regions d)) ≡ candidates d (first_of_kind k (regions d))
  unfolding joined
  kind_candidates k l h =
      whether (any (of_kind k) (regions d))
      (λ t. rw (listed_is k l h t) (append-nil _))
      (λ f. let e = listed_is k l h f in rw (e, blank_is k (regions d) e) (sym (blank_candidates d)))

  -- All candidates in the order of the search.
  searched_candidates :
      joined (candidates d) (searched (regions d))
      ≡ candidates d (searched_first (regions d)) ++ candidates d (first_of_kind 3 (regions d))
  unfolding searched searched_first
  searched_candidates =
      let rs = regions d in
      let first = kind_listed 1 rs (omega arith) in
      let rom = kind_candidates 3 (omega arith) (omega arith) in
      whether (any (of_kind 1) rs)
      (λ t.
      rw (t, sym first ∙ t)
      (joined_append (candidates d) (keep (of_kind 1) rs) (keep (of_kind 3) rs)
      ∙ rw (kind_candidates 1 (omega arith) (omega arith), rom)))
      (λ f.
      rw (f, sym first ∙ f, listed_is 1 (omega arith) (omega arith) f)
      (joined_append (candidates d) (keep (of_kind 2) rs) (keep (of_kind 3) rs)
      ∙ rw (kind_candidates 2 (omega arith) (omega arith), rom)))

  pointers_are :
      pointers d
      ≡ keep good_one (candidates d (searched_first (regions d))) ++ keep good_one (candidates d (first_of_kind 3 (regions d)))
  unfolding pointers
  pointers_are =
      ap (keep good_one) searched_candidates
      ∙ keep_append good_one (candidates d (searched_first (regions d))) (candidates d (first_of_kind 3 (regions d)))

pub map_same : {A : Type 0} (o : Option A) → option_map (λ x. x) o ≡ o
map_same None = refl
map_same (Some x) = refl

-- The first of a kind, as it is looked up.
pub find_kind : (k : ℕ) (rs : List Region) → or_blank (find (of_kind k) rs) ≡ first_of_kind k rs
unfolding first_of_kind keep
find_kind k [] = refl
find_kind k (r ∷ rs) = whether (of_kind k r) (λ t. rw t) (λ f. rw f (find_kind k rs))

pub found_kind : (k : ℕ) (rs : List Region) {r : Region} → find (of_kind k) rs ≡ Some r → r.kind ≡ k
found_kind k [] e = absurd (none-some _ e)
found_kind k (q ∷ rs) {r} e =
    whether (of_kind k q)
    (λ t. rw (← same_Some q r (rw t at e)) (eqb-true q.kind k t))
    (λ f. found_kind k rs (rw f at e))

-- The one of the first two kinds.
module _ (rs : List Region) {o : Option Region} (e : o ≡ find (of_kind 1) rs) where
  pub first_ebda : {r : Region} → o ≡ Some r → or_blank (Some r) ≡ searched_first rs
  unfolding searched_first
  first_ebda {r} q =
      let is : first_of_kind 1 rs ≡ r = sym (find_kind 1 rs) ∙ rw (← e, q) in
      rw (is, eq-eqb r.kind 1 (found_kind 1 rs (sym e ∙ q)))

  pub first_base : {p : Option Region} → o ≡ None → p ≡ find (of_kind 2) rs → or_blank p ≡ searched_first rs
  unfolding searched_first
  first_base q f =
      let is : first_of_kind 1 rs ≡ blank = sym (find_kind 1 rs) ∙ rw (← e, q) in
      rw (is, f) (find_kind 2 rs)

-- ---- All of them, as records

pub listed_few : (d : List ℕ) → sound_dump d ≡ true → length (listed d) ≤ 8
listed_few d sound = rw (sound_listed d sound) (sound_count d sound)

pub records_start : (d : List ℕ) → sound_dump d ≡ true → sets (replicate 8 blank) 0 (listed d) ≡ eight (regions d)
records_start d sound = rw (sound_listed d sound) (eight_sets (regions d) (sound_count d sound))

-- ---- They fit

module _ (d : List ℕ) (sound : sound_dump d ≡ true) where
  kind_end : (k : ℕ) → end_of (first_of_kind k (regions d)) ≤ memory_end
  unfolding first_of_kind sound_region
  kind_end k =
      first_all (of_kind k) blank sound_region (λ r. end_of r ≤ memory_end) (omega arith)
      (λ r t s. leb-true (end_of r) memory_end (and_parts (kind_rule r && eqb (r.base % region_step) 0) (leb (end_of r) memory_end) s).1)
      (regions d) (sound_parts d sound).each_sound

  kind_fits : (k : ℕ) → Fits d (first_of_kind k (regions d))
  kind_fits k = (kind_inside d k sound, kind_end k)

  first_fits : Fits d (searched_first (regions d))
  unfolding searched_first
  first_fits =
      whether (of_kind 1 (first_of_kind 1 (regions d))) (λ t. rw t (kind_fits 1)) (λ f. rw f (kind_fits 2))

-- ---- The first good candidate of a region

-- x is what the search of its body answers.
module _ (d : List ℕ) (r : Region) (fits : Fits d r) {x : Option ℕ} (e : x ≡ search_of (body d r)) where
  body_length : length (body d r) ≡ r.size
  body_length = length_part r.offset (r.offset + r.size) d fits.0 ∙ omega arith

  pub found_inside : (at : ℕ) → x ≡ Some at → at + pointer_size ≤ r.size
  found_inside at q = omega (arith, body_length, (found_first r.base (body d r) at (sym e ∙ q)).inside)

  pub spots_at_lem : (at : ℕ) → x ≡ Some at → Spots d (keep good_one (candidates d r)) (Some (record { address = r.base + at; place = r.offset + at }))
  unfolding candidates
  spots_at_lem at q =
      let f = found_first r.base (body d r) at (sym e ∙ q) in
      let p = part_part r.offset (r.offset + r.size) at (at + pointer_size) d (omega (arith, found_inside at q)) in
      let s : r.offset + (at + pointer_size) ≡ r.offset + at + pointer_size = omega arith in
      record {
        some = rw f.first;
        first = rw (f.first, p, s);
        inside = omega (arith, fits.0, found_inside at q);
      }

  pub spots_nothing : x ≡ None → Spots d (keep good_one (candidates d r)) None
  unfolding candidates
  spots_nothing q = none_found r.base (body d r) (sym e ∙ q)

-- ---- .. of all that are searched

spots_before : (d : List ℕ) (cs es : List Candidate) {at : Spotted} → SpotsAt d cs at → SpotsAt d (cs ++ es) at
spots_before d [] es s = absurd (true≢false s.some)
spots_before d (c ∷ cs) es s = record { some = refl; first = s.first; inside = s.inside }

module _ (d : List ℕ) (sound : sound_dump d ≡ true) {r : Region} (f : r ≡ searched_first (regions d)) where
  pub first_region_fits : Fits d r
  first_region_fits = rw f (first_fits d sound)

  module _ {x : Option Spotted} (s : Spots d (keep good_one (candidates d r)) x) where
    pub spots_first : {at : Spotted} → x ≡ Some at → Spots d (pointers d) (Some at)
    spots_first q =
        rw (pointers_are d sound)
        (spots_before d (keep good_one (candidates d (searched_first (regions d)))) _ (rw (q, f) at s))

    module _ (q : x ≡ None) {m : Region} (g : m ≡ first_of_kind 3 (regions d)) where
      pub rom_region_fits : Fits d m
      rom_region_fits = rw g (kind_fits d sound 3)

      pub spots_rom : (y : Option Spotted) → Spots d (keep good_one (candidates d m)) y → Spots d (pointers d) y
      spots_rom y w = rw (pointers_are d sound, rw (q, f) at s) (rw g at w)

-- ---- What was spotted, in each of its cases

module _ (d : List ℕ) (cs : List Candidate) {x : Option Spotted} (s : Spots d cs x) where
  pub spotted_at : {at : Spotted} → x ≡ Some at → SpotsAt d cs at
  spotted_at q = rw q at s

  pub spotted_none : x ≡ None → cs ≡ []
  spotted_none q = rw q at s

-- ---- Where a pointer is, one is spotted, and its address has four bytes

pub record Spot (d : List ℕ) : Type 0 where
  pub at : Spotted
  pub there : SpotsAt d (pointers d) at
  pub low : at.address < memory_end

spot_in :
    {C : Type 0} (d : List ℕ) (r : Region) → Fits d r → (keep good_one (candidates d r) ≡ [] → C)
    → ((at : Spotted) → SpotsAt d (keep good_one (candidates d r)) at → at.address < memory_end → C) → C
spot_in {C} d r fits none some = cases (search_of (body d r)) refl
  where
    cases : (x : Option ℕ) → search_of (body d r) ≡ x → C
    cases (Some at) q =
        some _ (spots_at_lem d r fits refl at q)
        (omega (arith, found_inside d r fits refl at q, fits.1))
    cases None q = none (spots_nothing d r fits refl q)

pub spot : (d : List ℕ) → sound_dump d ≡ true → no_pointer d ≡ false → Spot d
unfolding no_pointer
spot d sound n =
    let first = searched_first (regions d) in
    let rom = first_of_kind 3 (regions d) in
    let all = pointers_are d sound in
    spot_in d first (first_fits d sound)
    (λ e.
    spot_in d rom (kind_fits d sound 3)
    (λ f. absurd (true≢false (sym (ap none (rw (e, f) at all)) ∙ n)))
    (λ at w l. record { at = at; there = rw (all, e) w; low = l }))
    (λ at w l. record {
      at = at;
      there = rw all (spots_before d (keep good_one (candidates d first)) (keep good_one (candidates d rom)) w);
      low = l;
    })
