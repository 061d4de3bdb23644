-- Laws of what is written in the room: the pairs of an entry, and those of all of them one behind the other. Assumes nothing.
use Prim.Native.Nat.{ℕ, ◌+◌, ◌≤◌, ◌<◌}
use mathlib.Core.Path.{◌≡◌, refl, ap, sym, ◌∙◌}
use mathlib.Core.Bool.{Bool, true, false}
use mathlib.Core.List.{List, [], ◌++◌, append-nil}
use native.Mathlib.Omega.{arith}
use native.Mathlib.Numerals.{add-one}
use lib.ListN.{length, get_or, drop, drop_of_length-le, length-append}
use lib.Seq.{drop-cons, sets}
use Rattle.mps.specs.Words.{keep, joined}
use Rattle.mps.specs.Layout.{Entry, destination}
use Rattle.mps.specs.Sections.{rows}
use Rattle.mps.specs.Routes.{pair}
use Rattle.laws.proofs.Lists.{keep_in, keep_out}
use Rattle.laws.proofs.Rows.{rows_short, rows_cut}
use Rattle.laws.proofs.Writes.{Writes, writes_next}
use Rattle.roll.specs.Roll.{taken_bit, marked, OnRoll}
use Rattle.routes.specs.Pairs.{pairs_for, pairs_in}
use Rattle.routes.proofs.Counting.{named_all, named_one, named_none}

-- ---- A pair for each ID

-- From ID i on: none is left, or one and those behind it.
module _ (e : Entry) (ids : List ℕ) (i : ℕ) where
  pub ids_done : length ids ≤ i → joined (pair e) (drop i ids) ≡ []
  unfolding joined
  ids_done h = rw drop_of_length-le

  module _ (h : i < length ids) where
    abbrev one : List ℕ
    one = pair e (get_or ids i 0)

    abbrev others : List ℕ
    others = joined (pair e) (drop (i + 1) ids)

    ids_next : joined (pair e) (drop i ids) ≡ one ++ others
    unfolding joined
    ids_next = rw (add-one i, drop-cons ids i 0 h)

    pub ids_room : 2 ≤ length (joined (pair e) (drop i ids))
    unfolding pair
    ids_room = omega (arith, ap length ids_next)

    pub ids_put :
        {t w out u : List ℕ} {at place : ℕ} → Writes t at w out place (joined (pair e) (drop i ids)) → u ≡ sets out place one
        → Writes t at w u (place + 2) others
    unfolding pair
    ids_put inv f = writes_next inv one others ids_next refl f

-- ---- The pairs of one entry: of all the IDs, or, by the answer of the roll that they are on, of one or none

module _ (ids : List ℕ) (e : Entry) where
  pub for_all : destination e ≡ 255 → pairs_for ids e ≡ joined (pair e) ids
  unfolding pairs_for
  for_all h = rw (named_all ids (destination e) h)

  module _ (n : destination e ≡ 255 → ⊥) (h : destination e < 256) (roll : List ℕ) (on : OnRoll taken_bit roll ids) {r : Bool} (f : r ≡ marked 1 roll (destination e)) where
    for_its : r ≡ true → pairs_for ids e ≡ pair e (destination e)
    unfolding pairs_for joined
    for_its g = rw (named_one ids (destination e) n h roll on f g) (append-nil (pair e (destination e)))

    pub for_one : r ≡ true → (pairs_for ids e ≡ pair e (destination e)) × (length (pairs_for ids e) ≡ 2)
    unfolding pair
    for_one g = (for_its g, ap length (for_its g))

    pub for_none : r ≡ false → pairs_for ids e ≡ []
    unfolding pairs_for joined
    for_none g = rw (named_none ids (destination e) n h roll on f g)

-- ---- The pairs of the rows of a slice

-- Nothing whole is left, or one row and those behind it.
module _ (ids : List ℕ) (p : Entry → Bool) (rest : List ℕ) where
  abbrev pub pairs_left : List ℕ → List ℕ
  pairs_left s = pairs_in ids p (rows 8 s)

  pub pairs_done : length rest < 8 → pairs_left rest ≡ []
  unfolding pairs_in joined keep
  pairs_done f = rw (rows_short 8 rest f)

  -- The row passes, or it does not. r is what the test told, to the IDs that the row names.
  module _ (e left : List ℕ) (l : length e ≡ 8) (c : rest ≡ e ++ left) {r : Bool} (t : r ≡ p e) where
    pairs_other : r ≡ false → pairs_left rest ≡ pairs_left left
    unfolding pairs_in
    pairs_other g = rw (c, rows_cut 8 e left (omega arith) l, keep_out p e (rows 8 left) (sym t ∙ g))

    pub pairs_pass : r ≡ false → {t₀ w out : List ℕ} {from place : ℕ} → Writes t₀ from w out place (pairs_left rest) → Writes t₀ from w out place (pairs_left left)
    pairs_pass g inv = rw (← pairs_other g) inv

    module _ (g : r ≡ true) where
      pairs_passed : pairs_left rest ≡ pairs_for ids e ++ pairs_left left
      unfolding pairs_in joined
      pairs_passed = rw (c, rows_cut 8 e left (omega arith) l, keep_in p e (rows 8 left) (sym t ∙ g))

      pub pairs_room : length (pairs_for ids e) ≤ length (pairs_left rest)
      pairs_room = omega (arith, ap length pairs_passed, length-append (pairs_for ids e) (pairs_left left))

      pub pairs_put :
          {t₀ w out : List ℕ} {from place : ℕ} → Writes t₀ from w out place (pairs_left rest)
          → {u : List ℕ} {q : ℕ} → q ≡ place + length (pairs_for ids e) → u ≡ sets out place (pairs_for ids e) → Writes t₀ from w u q (pairs_left left)
      pairs_put inv = writes_next inv (pairs_for ids e) (pairs_left left) pairs_passed
