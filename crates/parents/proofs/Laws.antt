-- Laws of the links: that they are wrong by the rules of mps, the cells of the array, and the steps of the loops over it. Assumes
-- nothing.
use Prim.Native.Nat.{ℕ, zero, suc, ◌-◌, ◌≤◌, ◌<◌}
use mathlib.Core.Path.{◌≡◌, refl, sym, ◌∙◌}
use mathlib.Core.Bool.{Bool, true, false, cond, ◌||◌, or-true}
use mathlib.Core.List.{List, [], ◌∷◌, ◌++◌}
use native.Mathlib.Omega.{arith}
use lib.ListN.{length, get_or, set, replicate, length-replicate}
use lib.Seq.{get_or-set_same, get_or-set_other}
use lib.Dec.{eqb}
use borrow.Author.Tests.{eqb-true, eqb-false}
use Rattle.mps.specs.Words.{among, twice, any, each}
use Rattle.mps.specs.Layout.{Entry, bus_type, extended_bus, parent_bus}
use Rattle.mps.specs.Sections.{rows}
use Rattle.mps.specs.Rules.{ids_of, is_listed, wrong_hierarchy, circle}
use Rattle.laws.proofs.Rows.{rows_short, rows_more}
use Rattle.std.specs.Prelude.{Option, Some, None}
use Rattle.laws.proofs.Small.{Bytes, Small, any_same}
use Rattle.roll.specs.Roll.{bus_bit, Shows}
use Rattle.parents.specs.Parents.{wrong_hierarchy_in, wrong_parents, wrong_links, Array, filled, clash, stopped, goes_on, cleared, endless_in}

-- ---- The rules of mps, where the roll has the listed buses

module _ (es : List Entry) (roll : List ℕ) (bus : Shows bus_bit roll (λ (y : ℕ). among y (ids_of bus_type es))) where
  -- Of one link, whose bytes are bytes,
  pub wrong_hierarchy_in_lem : (e : Entry) → Bytes e → wrong_hierarchy_in roll e ≡ wrong_hierarchy es e
  unfolding wrong_hierarchy_in wrong_hierarchy is_listed
  wrong_hierarchy_in_lem e bytes = rw (bus (extended_bus e) (bytes 2), bus (parent_bus e) (bytes 4))

  -- and of all.
  pub wrong_links_in :
      {ls : List Entry} → Small ls
      → wrong_links roll ls ≡ (any (wrong_hierarchy es) ls || (twice (each extended_bus ls) || circle ls))
  unfolding wrong_links wrong_parents
  wrong_links_in small = rw (any_same (wrong_hierarchy_in roll) (wrong_hierarchy es) wrong_hierarchy_in_lem small)

-- ---- Cells

-- What stands at place j once v is stored at place i.
pub set_at :
    (up : Array) (i : ℕ) (v : Option ℕ) (j : ℕ) (b : Bool) → i < length up → eqb i j ≡ b
    → get_or (set up i v) j None ≡ cond b v (get_or up j None)
set_at up i v j true h e = rw (← eqb-true i j e) (get_or-set_same up i v None h)
set_at up i v j false h e = get_or-set_other up i j v None (λ p. eqb-false i j e (sym p))

-- A link that is taken away is gone, wherever it was,
gone : (up : Array) (i : ℕ) → get_or (set up i None) i None ≡ None
gone [] i = refl
gone (x ∷ up) zero = refl
gone (x ∷ up) (suc i) = gone up i

-- and every other stays.
pub without_at : (up : Array) (i j : ℕ) (b : Bool) → eqb i j ≡ b → get_or (set up i None) j None ≡ cond b None (get_or up j None)
without_at up i j true e = rw (← eqb-true i j e) (gone up i)
without_at up i j false e = get_or-set_other up i j None None (λ p. eqb-false i j e (sym p))

-- The array before any link is stored. Over any length, so that no goal shows 256 cells.
abbrev pub blank : ℕ → Array
blank n = replicate n None

pub blank_length : (n : ℕ) → length (blank n) ≡ n
blank_length n = length-replicate {A = Option ℕ} n None

pub blank_at : (n i : ℕ) → get_or (blank n) i None ≡ None
blank_at zero i = refl
blank_at (suc n) zero = refl
blank_at (suc n) (suc i) = blank_at n i

-- ---- Steps of a climb: as many links as wanted are climbed, the bus has none, or it has one

module _ (up : Array) (bus n : ℕ) where
  pub goes_done : n ≡ 0 → goes_on n up bus ≡ true
  unfolding goes_on
  goes_done h = rw h

  pub cleared_done : n ≡ 0 → cleared n up bus ≡ up
  unfolding cleared
  cleared_done h = rw h

  module _ (h : 0 < n) (e : get_or up bus None ≡ None) where
    pub goes_stop : goes_on n up bus ≡ false
    unfolding goes_on
    goes_stop = let more : n ≡ suc (n - 1) = omega arith in rw (more, goes_on, e)

    pub cleared_stop : cleared n up bus ≡ up
    unfolding cleared
    cleared_stop = let more : n ≡ suc (n - 1) = omega arith in rw (more, cleared, e)

  module _ (m : ℕ) (h : n ≡ suc m) (p : ℕ) (e : get_or up bus None ≡ Some p) where
    pub goes_next : goes_on n up bus ≡ goes_on m up p
    unfolding goes_on
    goes_next = rw (h, goes_on, e)

    pub cleared_next : cleared n up bus ≡ cleared m (set up bus None) p
    unfolding cleared
    cleared_next = rw (h, cleared, e)

pub ruleset goes_steps = (goes_done, goes_stop, goes_next)

pub ruleset cleared_steps = (cleared_done, cleared_stop, cleared_next)

-- ---- A climb that ends at once: the bus has no link, or its parent has none. As two links or more are wanted, it is the
-- whole climb

module _ (up : Array) (bus n : ℕ) (h : 2 ≤ n) where
  pub goes_none : get_or up bus None ≡ None → goes_on n up bus ≡ false
  goes_none e = goes_stop up bus n (omega arith) e

  pub cleared_none : get_or up bus None ≡ None → cleared n up bus ≡ up
  cleared_none e = cleared_stop up bus n (omega arith) e

  module _ (p : ℕ) (e : get_or up bus None ≡ Some p) (none : get_or up p None ≡ None) where
    pub goes_one : goes_on n up bus ≡ false
    goes_one = goes_next up bus n (n - 1) (omega arith) p e ∙ goes_stop up p (n - 1) (omega arith) none

    pub cleared_one : cleared n up bus ≡ set up bus None
    cleared_one =
        cleared_next up bus n (n - 1) (omega arith) p e
        ∙ cleared_stop (set up bus None) p (n - 1) (omega arith) (cases (eqb bus p) refl)
      where
        cases : (b : Bool) → eqb bus p ≡ b → get_or (set up bus None) p None ≡ None
        cases true q = without_at up bus p true q
        cases false q = without_at up bus p false q ∙ none

pub ruleset climb_steps = (goes_none, cleared_none, goes_one, cleared_one)

-- ---- The cleared array

-- What is so of an array and a bus, and stays so when the link of that bus is taken away and its parent climbed to, is so
-- of the cleared array and the bus where the climb came to.
module _ (P : Array → ℕ → Type 0)
    (f : (up : Array) (bus p : ℕ) → get_or up bus None ≡ Some p → P up bus → P (set up bus None) p) where
  abbrev Kept : Array → Type 0
  Kept u = (b : ℕ) × P u b

  pub cleared_keeps : (n : ℕ) (up : Array) (bus : ℕ) → P up bus → Kept (cleared n up bus)
  cleared_keeps zero up bus k = rw (cleared_done up bus 0 refl) (bus, k)
  cleared_keeps (suc n) up bus k = cases (get_or up bus None) refl (cleared_keeps n (set up bus None))
    where
      cases :
          (v : Option ℕ) → get_or up bus None ≡ v → ((p : ℕ) → P (set up bus None) p → Kept (cleared n (set up bus None) p))
          → Kept (cleared (suc n) up bus)
      cases None q ih = rw (cleared_stop up bus (suc n) (omega arith) q) (bus, k)
      cases (Some p) q ih = rw (cleared_next up bus (suc n) n refl p q) (ih p (f up bus p q k))

-- ---- Steps of the loops over pieces: nothing whole is left, the loop stops at the piece there, or it does not

module _ (up : Array) (rest : List ℕ) where
  module _ (f : length rest < 8) where
    pub stopped_done : (roll : List ℕ) → stopped roll up (rows 8 rest) ≡ false
    unfolding stopped any clash
    stopped_done roll = rw (rows_short 8 rest f)

    pub filled_done : filled up (rows 8 rest) ≡ up
    unfolding filled
    filled_done = rw (rows_short 8 rest f)

    pub endless_done : (n : ℕ) → endless_in n up (rows 8 rest) ≡ false
    unfolding endless_in
    endless_done n = rw (rows_short 8 rest f)

  module _ (e left : List ℕ) (h : length e ≡ 8) (c : rest ≡ e ++ left) where
    there : rows 8 rest ≡ e ∷ rows 8 left
    there = rows_more 8 rest e left (omega arith) h c

    module _ (roll : List ℕ) where
      pub stopped_wrong : wrong_hierarchy_in roll e ≡ true → stopped roll up (rows 8 rest) ≡ true
      unfolding stopped any
      stopped_wrong w = rw (there, w)

      pub stopped_clash : (p : ℕ) → get_or up (get_or e 2 0) None ≡ Some p → stopped roll up (rows 8 rest) ≡ true
      unfolding stopped clash
      stopped_clash p q = rw (there, clash, q) (or-true (any (wrong_hierarchy_in roll) (e ∷ rows 8 left)))

      pub stopped_next :
          wrong_hierarchy_in roll e ≡ false → get_or up (get_or e 2 0) None ≡ None
          → stopped roll up (rows 8 rest) ≡ stopped roll (set up (get_or e 2 0) (Some (get_or e 4 0))) (rows 8 left)
      unfolding stopped any clash
      stopped_next w q = rw (there, w, clash, q)

    pub filled_next : filled up (rows 8 rest) ≡ filled (set up (get_or e 2 0) (Some (get_or e 4 0))) (rows 8 left)
    unfolding filled
    filled_next = rw (there, filled)

    module _ (n : ℕ) where
      pub endless_stop : goes_on n up (get_or e 2 0) ≡ true → endless_in n up (rows 8 rest) ≡ true
      unfolding endless_in
      endless_stop q = rw (there, endless_in, q)

      pub endless_next :
          (next : Array) → goes_on n up (get_or e 2 0) ≡ false → next ≡ cleared n up (get_or e 2 0)
          → endless_in n up (rows 8 rest) ≡ endless_in n next (rows 8 left)
      unfolding endless_in
      endless_next next q r = rw (there, endless_in, q, r)

pub ruleset fill_steps = (stopped_done, filled_done, stopped_wrong, stopped_clash, stopped_next, filled_next)

pub ruleset endless_steps = (endless_done, endless_stop, endless_next)
