-- Laws of what Renumber defines, over any entries and any numbers that are used: nothing is said of a table. Assumes nothing.
use Prim.Native.Nat.{ℕ, zero, suc, ◌+◌, ◌≤◌, ◌<◌}
use mathlib.Core.Path.{◌≡◌, refl, sym, ap, ◌∙◌}
use mathlib.Core.Bool.{Bool, true, false, not, ◌||◌, ◌&&◌, or-true}
use mathlib.Core.List.{List, [], ◌∷◌, ◌++◌}
use native.Mathlib.Omega.{arith}
use lib.ListN.{length, get_or, take}
use lib.Dec.{eqb, ltb, leb-suc-suc}
use borrow.Author.Tests.{not-true, not-false, lt-ltb, le-ltb}
use Rattle.mps.specs.Words.{byte, among, twice, none, keep, any, each}
use Rattle.mps.specs.Layout.{Entry, id_of, everyone}
use Rattle.mps.specs.Renumber.{free, lowest_free, numbers_from, finds_none}
use Rattle.laws.proofs.Tests.{whether, contrary, or_parts}
use Rattle.laws.proofs.Lists.{among_none, among_first, among_rest, among_cases, keep_in, keep_out, Within}
use Rattle.laws.proofs.Rising.{keep_rising}
use Rattle.laws.proofs.Sieve.{sieve_first}
use Rattle.laws.proofs.Counting.{Below, among_append, among_again, among_between, twice_between, apart_others, keep_behind}

-- ---- free

-- Two lists of used numbers that have the same numbers.
abbrev pub Same : List ℕ → List ℕ → Type 0
Same us vs = (n : ℕ) → among n us ≡ among n vs

free_same : (us vs : List ℕ) → Same us vs → free us ≡ free vs
unfolding free
free_same us vs h = keep_rising (λ (n : ℕ). not (among n us)) (λ (n : ℕ). not (among n vs)) everyone 0 (λ n a b. ap not (h n))

-- Where the used ones are apart and below 255, the free ones are the others.
pub free_count : (used : List ℕ) → twice used ≡ false → Below everyone used → length (free used) + length used ≡ everyone
unfolding free
free_count used d b = apart_others everyone used d b

-- Once the lowest is used, the rest is free.
free_rest : (used : List ℕ) (x : ℕ) (xs : List ℕ) → free used ≡ x ∷ xs → free (x ∷ used) ≡ xs
unfolding free among
free_rest used x xs e =
    keep_behind (λ (n : ℕ). not (among n used)) (λ (n : ℕ). not (among n (x ∷ used))) x
    (λ y. not-or (eqb y x) (among y used)) xs everyone 0 e
  where
    not-or : (a b : Bool) → not (a || b) ≡ (not a && not b)
    not-or true b = refl
    not-or false b = refl

-- ---- lowest_free

lowest_same : (us vs : List ℕ) → Same us vs → lowest_free us ≡ lowest_free vs
unfolding lowest_free
lowest_same us vs h = rw (free_same us vs h)

lowest_first : (used : List ℕ) (x : ℕ) (xs : List ℕ) → free used ≡ x ∷ xs → lowest_free used ≡ x
unfolding lowest_free
lowest_first used x xs e = rw e

-- Where some number is free, the lowest is below 255 and not used; and every lower one is.
module _ (used : List ℕ) where
  first_free :
      (lowest_free used ≤ everyone)
      × (lowest_free used < everyone → not (among (lowest_free used) used) ≡ true)
      × ((m : ℕ) → 0 ≤ m → m < lowest_free used → not (among m used) ≡ false)
      × (none (free used) ≡ false → lowest_free used < everyone)
  unfolding lowest_free free
  first_free = sieve_first (λ (n : ℕ). not (among n used)) everyone 0

  pub lowest_below : none (free used) ≡ false → lowest_free used < everyone
  lowest_below some = first_free.3 some

  pub lowest_out_lem : none (free used) ≡ false → among (lowest_free used) used ≡ false
  lowest_out_lem some = not-true (among (lowest_free used) used) (first_free.1 (lowest_below some))

  pub lowest_under : (m : ℕ) → m < lowest_free used → among m used ≡ true
  lowest_under m h = not-false (among m used) (first_free.2 m (omega arith) h)

-- ---- numbers_from and finds_none

-- The IDs of those that keep theirs.
unfoldable pub kept_of : (Entry → Bool) → List Entry → List ℕ
kept_of shared apics = each id_of (keep (λ (apic : Entry). not (shared apic)) apics)

-- The first entry.
module _ (shared : Entry → Bool) (used : List ℕ) (apic : Entry) (apics : List Entry) where
  pub numbers_new : shared apic ≡ true
      → numbers_from shared used (apic ∷ apics) ≡ lowest_free used ∷ numbers_from shared (lowest_free used ∷ used) apics
  unfolding numbers_from
  numbers_new e = rw (e, numbers_from)

  pub numbers_own : shared apic ≡ false → numbers_from shared used (apic ∷ apics) ≡ id_of apic ∷ numbers_from shared used apics
  unfolding numbers_from
  numbers_own e = rw (e, numbers_from)

  pub finds_new : shared apic ≡ true
      → finds_none shared used (apic ∷ apics) ≡ (none (free used) || finds_none shared (lowest_free used ∷ used) apics)
  unfolding finds_none
  finds_new e = rw (e, finds_none)

  pub finds_own : shared apic ≡ false → finds_none shared used (apic ∷ apics) ≡ finds_none shared used apics
  unfolding finds_none
  finds_own e = rw (e, finds_none)

  kept_new : shared apic ≡ true → kept_of shared (apic ∷ apics) ≡ kept_of shared apics
  unfolding kept_of
  kept_new e = rw (keep_out (λ (x : Entry). not (shared x)) apic apics (rw e))

  kept_own : shared apic ≡ false → kept_of shared (apic ∷ apics) ≡ id_of apic ∷ kept_of shared apics
  unfolding kept_of each
  kept_own e = rw (keep_in (λ (x : Entry). not (shared x)) apic apics (rw e))

-- A number for each.
pub length_numbers : (shared : Entry → Bool) (used : List ℕ) (apics : List Entry)
    → length (numbers_from shared used apics) ≡ length apics
unfolding numbers_from
length_numbers shared used [] = refl
length_numbers shared used (apic ∷ apics) =
    whether (shared apic)
    (λ e. rw (numbers_new shared used apic apics e) (ap suc (length_numbers shared (lowest_free used ∷ used) apics)))
    (λ e. rw (numbers_own shared used apic apics e) (ap suc (length_numbers shared used apics)))

-- One finds none exactly when those that need a number are more than the free ones.
finds_step : (shared : Entry → Bool) (used : List ℕ) (apics : List Entry) (m : ℕ)
    → ((x : ℕ) → finds_none shared (x ∷ used) apics ≡ ltb (length (free (x ∷ used))) m)
    → (xs : List ℕ) → free used ≡ xs → (none xs || finds_none shared (lowest_free used ∷ used) apics) ≡ ltb (length xs) (suc m)
finds_step shared used apics m rest [] e = sym (lt-ltb 0 (suc m) (omega arith))
finds_step shared used apics m rest (x ∷ xs) e =
    rw (lowest_first used x xs e, rest x, free_rest used x xs e) (sym (leb-suc-suc (suc (length xs)) m))

pub finds_count : (shared : Entry → Bool) (used : List ℕ) (apics : List Entry)
    → finds_none shared used apics ≡ ltb (length (free used)) (length (keep shared apics))
unfolding finds_none keep
finds_count shared used [] = sym (le-ltb (length (free used)) 0 (omega arith))
finds_count shared used (apic ∷ apics) =
    whether (shared apic)
    (λ e.
    finds_new shared used apic apics e
    ∙ rw (keep_in shared apic apics e)
    (finds_step shared used apics _ (λ x. finds_count shared (x ∷ used) apics) (free used) refl))
    (λ e. finds_own shared used apic apics e ∙ rw (keep_out shared apic apics e) (finds_count shared used apics))

-- Where none shares, each has its own, and none looks for a number.
pub numbers_all_own : (shared : Entry → Bool) (used : List ℕ) (apics : List Entry) → any shared apics ≡ false
    → (numbers_from shared used apics ≡ each id_of apics) × (finds_none shared used apics ≡ false)
unfolding numbers_from finds_none any each
numbers_all_own shared used [] h = (refl, refl)
numbers_all_own shared used (apic ∷ apics) h =
    let p = or_parts (shared apic) (any shared apics) h in
    let r = numbers_all_own shared used apics p.1 in
    (rw (numbers_own shared used apic apics p.0, r.0), finds_own shared used apic apics p.0 ∙ r.1)

-- At the place of one that does not share stands its ID.
pub numbers_keep : (shared : Entry → Bool) (used : List ℕ) (apics : List Entry) (k : ℕ) → k < length apics
    → shared (get_or apics k []) ≡ false → byte (numbers_from shared used apics) k ≡ id_of (get_or apics k [])
numbers_keep shared used [] k h f = absurd (omega arith)
numbers_keep shared used (apic ∷ apics) zero h f = rw (numbers_own shared used apic apics f)
numbers_keep shared used (apic ∷ apics) (suc k) h f =
    whether (shared apic)
    (λ e. rw (numbers_new shared used apic apics e) (numbers_keep shared (lowest_free used ∷ used) apics k (omega arith) f))
    (λ e. rw (numbers_own shared used apic apics e) (numbers_keep shared used apics k (omega arith) f))

-- ---- Where each finds one

module _ (shared : Entry → Bool) where
  -- All are below 255, where those that are kept are.
  pub numbers_below : (used : List ℕ) (apics : List Entry) → finds_none shared used apics ≡ false
      → Below everyone (kept_of shared apics) → Below everyone (numbers_from shared used apics)
  unfolding numbers_from
  numbers_below used [] f b z a = absurd (among_none z a)
  numbers_below used (apic ∷ apics) f b z a =
      whether (shared apic)
      (λ e.
      let p = or_parts (none (free used)) _ (sym (finds_new shared used apic apics e) ∙ f) in
      let x = lowest_free used in
      among_cases z x (numbers_from shared (x ∷ used) apics) (rw (numbers_new shared used apic apics e) at a)
      (λ q. rw q (lowest_below used p.0))
      (numbers_below (x ∷ used) apics p.1 (rw (kept_new shared used apic apics e) at b) z))
      (λ e.
      let c = rw (kept_own shared used apic apics e) at b in
      among_cases z (id_of apic) (numbers_from shared used apics) (rw (numbers_own shared used apic apics e) at a)
      (λ q. c z (among_first z (id_of apic) (kept_of shared apics) q))
      (numbers_below used apics (sym (finds_own shared used apic apics e) ∙ f)
      (λ y d. c y (among_rest y (id_of apic) (kept_of shared apics) d)) z))

  -- They are apart from each other and from others, where those that are kept are and all these are used.
  pub numbers_apart : (others used : List ℕ) (apics : List Entry) → finds_none shared used apics ≡ false
      → Within (others ++ kept_of shared apics) used → twice (others ++ kept_of shared apics) ≡ false
      → twice (others ++ numbers_from shared used apics) ≡ false
  unfolding numbers_from kept_of keep each twice
  numbers_apart others used [] f w d = d
  numbers_apart others used (apic ∷ apics) f w d =
      let kept = kept_of shared apics in
      whether (shared apic)
      (λ e.
      let p = or_parts (none (free used)) _ (sym (finds_new shared used apic apics e) ∙ f) in
      let x = lowest_free used in
      let in-used = rw (kept_new shared used apic apics e) at w in
      let new : among x (others ++ kept) ≡ false = contrary _ _ (in-used x) (lowest_out_lem used p.0) in
      rw (numbers_new shared used apic apics e)
      (twice_between x others (numbers_from shared (x ∷ used) apics)
      ∙ numbers_apart (x ∷ others) (x ∷ used) apics p.1
      (λ z a. among_cases z x (others ++ kept) a (among_first z x used) (λ c. among_rest z x used (in-used z c)))
      (rw new (rw (kept_new shared used apic apics e) at d))))
      (λ e.
      let id = id_of apic in
      let in-used = rw (kept_own shared used apic apics e) at w in
      rw (numbers_own shared used apic apics e)
      (twice_between id others (numbers_from shared used apics)
      ∙ numbers_apart (id ∷ others) used apics (sym (finds_own shared used apic apics e) ∙ f)
      (λ z a. in-used z (among_between z id others kept ∙ a))
      (sym (twice_between id others kept) ∙ rw (kept_own shared used apic apics e) at d)))

  -- At the place of one that shares stands the lowest that was free, after the numbers before it and those that are used.
  pub numbers_lowest : (used : List ℕ) (apics : List Entry) → finds_none shared used apics ≡ false
      → Within (kept_of shared apics) used → (k : ℕ) → k < length apics → shared (get_or apics k []) ≡ true
      → (none (free (take k (numbers_from shared used apics) ++ used)) ≡ false)
      × (byte (numbers_from shared used apics) k ≡ lowest_free (take k (numbers_from shared used apics) ++ used))
  numbers_lowest used [] f w k h t = absurd (omega arith)
  numbers_lowest used (apic ∷ apics) f w zero h t =
      ((or_parts (none (free used)) _ (sym (finds_new shared used apic apics t) ∙ f)).0, rw (numbers_new shared used apic apics t))
  numbers_lowest used (apic ∷ apics) f w (suc k) h t =
      whether (shared apic)
      (λ e.
      let p = or_parts (none (free used)) _ (sym (finds_new shared used apic apics e) ∙ f) in
      let x = lowest_free used in
      let front = take k (numbers_from shared (x ∷ used) apics) in
      let r = numbers_lowest (x ∷ used) apics p.1
      (λ z a. among_rest z x used ((rw (kept_new shared used apic apics e) at w) z a)) k (omega arith) t in
      let us = front ++ (x ∷ used) in
      let vs = (x ∷ front) ++ used in
      let same : Same us vs = λ n. among_between n x front used in
      rw (numbers_new shared used apic apics e) (rw (← free_same us vs same, ← lowest_same us vs same) r))
      (λ e.
      let id = id_of apic in
      let front = take k (numbers_from shared used apics) in
      let in-used = rw (kept_own shared used apic apics e) at w in
      let r = numbers_lowest used apics (sym (finds_own shared used apic apics e) ∙ f)
      (λ z a. in-used z (among_rest z id (kept_of shared apics) a)) k (omega arith) t in
      let had = in-used id (among_first id id (kept_of shared apics) refl) in
      let there = among_append id front used ∙ rw had (or-true (among id front)) in
      let us = front ++ used in
      let vs = id ∷ us in
      let same : Same us vs = λ n. sym (among_again n id us there) in
      rw (numbers_own shared used apic apics e) (rw (← free_same us vs same, ← lowest_same us vs same) r))
