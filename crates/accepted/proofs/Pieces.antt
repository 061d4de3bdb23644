-- The pieces of a list of bytes, one by one: where each stands, the list that they make joined, one of them replaced.
-- Assumes nothing.
use Prim.Native.Nat.{ℕ, zero, suc, pred, ◌+◌, ◌*◌, ◌≤◌, ◌<◌}
use mathlib.Core.Path.{◌≡◌, refl, ap, sym, ◌∙◌}
use mathlib.Core.Bool.{Bool, true}
use mathlib.Core.List.{List, [], ◌∷◌, ◌++◌}
use native.Mathlib.Omega.{arith}
use lib.ListN.{length, get_or, take, drop, set, length-take, length-drop, length-append, take-append-drop, get_or-append}
use lib.Seq.{sets, drop-drop, get_or-take, length-take-le, length-sets, take_at, drop_at}
use lib.Dec.{leb, ltb, eqb}
use borrow.Author.Tests.{leb-true, le-leb, ltb-false}
use Rattle.mps.specs.Words.{byte, every, each, joined, cut}
use Rattle.mps.specs.Refusals.{Rule, ◌when◌, refusal, type_number, cut_number, order_number}
use Rattle.mps.specs.Sums.{total}
use Rattle.mps.specs.Layout.{Entry, type, entry_size, base_entry_length, last_base_type}
use Rattle.mps.specs.Table.{entry_fault, walk_from}
use Rattle.mps.specs.Edits.{before}
use Rattle.laws.proofs.Tests.{whether, and_parts}
use Rattle.laws.proofs.Cut.{cut_first}
use Rattle.laws.proofs.Stores.{sets_take, sets_at_start, drop_sets}
use Rattle.laws.proofs.Refusals.{first_none, refusal_pass}

-- Pieces as they are, joined.
abbrev pub as_one : List (List ℕ) → List ℕ
as_one es = joined (λ (e : List ℕ). e) es

-- No piece is cut short by the end.
unfoldable pub whole : (List ℕ → ℕ) → List (List ℕ) → Bool
whole len es = every (λ e. leb (len e) (length e)) es

-- A length that is told by the first byte, and is never 0.
pub record Told (len : List ℕ → ℕ) : Type 0 where
  pub some : (s : List ℕ) → 0 < len s
  pub by_first : (a b : List ℕ) → byte a 0 ≡ byte b 0 → len a ≡ len b

before_none : (es : List (List ℕ)) → before 0 es ≡ 0
unfolding before total each
before_none es = refl

whole_parts : (len : List ℕ → ℕ) (e : List ℕ) (es : List (List ℕ)) → whole len (e ∷ es) ≡ true → (len e ≤ length e) × (whole len es ≡ true)
unfolding whole every
whole_parts len e es w =
    let p = and_parts (leb (len e) (length e)) (whole len es) w in
    (leb-true (len e) (length e) p.0, p.1)

module _ (len : List ℕ → ℕ) (told : Told len) where
  -- Pieces that lie one behind the other in a list: a law of them is proved piece by piece, and `laid` brings it to `cut`.
  data Laid : List ℕ → List (List ℕ) → Type 0 where
    laid_none : Laid [] []
    laid_more : {s : List ℕ} {es : List (List ℕ)} → 0 < length s → Laid (drop (len s) s) es → Laid s (take (len s) s ∷ es)

  -- With k bytes still to be passed.
  laid_rest : (k : ℕ) (s : List ℕ) → Laid (drop k s) (cut len k s)
  unfolding cut
  laid_rest zero [] = laid_none
  laid_rest (suc k) [] = laid_none
  laid_rest (suc k) (x ∷ s) = laid_rest k s
  laid_rest zero (x ∷ s) =
      let n = len (x ∷ s) in
      let e : suc (pred n) ≡ n = omega (arith, told.some (x ∷ s)) in
      let l : Laid (drop (suc (pred n)) (x ∷ s)) (cut len (pred n) s) = laid_rest (pred n) s in
      laid_more {s = x ∷ s} (omega arith) (rw e at l)

  laid : (s : List ℕ) → Laid s (cut len 0 s)
  laid s = laid_rest 0 s

  laid_joined : {s : List ℕ} {es : List (List ℕ)} → Laid s es → as_one es ≡ s
  unfolding joined
  laid_joined laid_none = refl
  laid_joined (laid_more {s} p l) = rw (laid_joined l) (take-append-drop (len s) s)

  laid_cut : {s : List ℕ} {es : List (List ℕ)} → Laid s es → cut len 0 s ≡ es
  unfolding cut
  laid_cut laid_none = refl
  laid_cut (laid_more {s} p l) = rw (← laid_cut l) (cut_first len s (len s) p refl (told.some s))

  laid_before : {s : List ℕ} {es : List (List ℕ)} → Laid s es → (k : ℕ) → k < length es → before k es < length s
  unfolding before total each
  laid_before laid_none k h = absurd (omega arith)
  laid_before (laid_more p l) zero h = p
  laid_before (laid_more {s} {es} p l) (suc k) h =
      omega (arith, laid_before l k (omega arith), length-take (len s) s, length-drop (len s) s)

  -- A piece behind the first stands behind the whole of it.
  laid_next : (s : List ℕ) {es : List (List ℕ)} → Laid (drop (len s) s) es → (k : ℕ) → k < length es
      → before (suc k) (take (len s) s ∷ es) ≡ len s + before k es
  unfolding before total each
  laid_next s {es} l k h = omega (arith, laid_before l k h, length-take (len s) s, length-drop (len s) s)

  laid_is : {s : List ℕ} {es : List (List ℕ)} → Laid s es → (k : ℕ) → k < length es
      → let at = before k es in get_or es k [] ≡ take (len (drop at s)) (drop at s)
  laid_is laid_none k h = absurd (omega arith)
  laid_is (laid_more {s} {es} p l) zero h = rw (before_none (take (len s) s ∷ es))
  laid_is (laid_more {s} {es} p l) (suc k) h =
      rw (laid_next s l k (omega arith), ← drop-drop (before k es) (len s) s) (laid_is l k (omega arith))

  -- The first piece tells the same length as the list, so that it is whole where that lies in the list.
  first_whole : (s : List ℕ) → len (take (len s) s) ≤ length (take (len s) s) → len s ≤ length s
  first_whole s h =
      let e = told.by_first (take (len s) s) s (get_or-take (len s) s 0 0 (told.some s)) in
      omega (arith, length-take (len s) s)

  laid_whole : {s : List ℕ} {es : List (List ℕ)} → Laid s es → (k : ℕ) → whole len es ≡ true → k < length es
      → let at = before k es in at + len (drop at s) ≤ length s
  laid_whole laid_none k w h = absurd (omega arith)
  laid_whole (laid_more {s} {es} p l) zero w h =
      rw (before_none (take (len s) s ∷ es)) (omega (arith, first_whole s (whole_parts len (take (len s) s) es w).0))
  laid_whole (laid_more {s} {es} p l) (suc k) w h =
      rw (laid_next s l k (omega arith), ← drop-drop (before k es) (len s) s)
      (omega (arith, laid_whole l k (whole_parts len (take (len s) s) es w).1 (omega arith), laid_before l k (omega arith), length-drop (len s) s))

  -- A list with another's first byte has a first piece as long.
  cut_like : (s u : List ℕ) → 0 < length u → byte s 0 ≡ byte u 0 → cut len 0 u ≡ take (len s) u ∷ cut len 0 (drop (len s) u)
  cut_like s u p f = cut_first len u (len s) p (told.by_first s u f) (told.some s)

  -- The first piece replaced, and a later one.
  first_set : (s w : List ℕ) → len s ≤ length s → length w ≡ length (take (len s) s) → byte w 0 ≡ byte (take (len s) s) 0
      → cut len 0 (sets s 0 w) ≡ w ∷ cut len 0 (drop (len s) s)
  first_set s w q l f =
      let n = len s in
      let some = told.some s in
      let e : length w ≡ n = l ∙ length-take-le n s q in
      let u : List ℕ = w ++ drop n s in
      let is : sets s 0 w ≡ u = rw e at (sets_at_start s w (omega arith)) in
      let same : byte s 0 ≡ byte u 0 = sym (get_or-append w (drop n s) 0 0 (omega arith) ∙ f ∙ get_or-take n s 0 0 some) in
      rw (is, cut_like s u (omega (arith, length-append w (drop n s))) same, take_at w (drop n s) n e, drop_at w (drop n s) n e)

  rest_set : (s : List ℕ) (at : ℕ) (w : List ℕ) → 0 < length s
      → cut len 0 (sets s (len s + at) w) ≡ take (len s) s ∷ cut len 0 (sets (drop (len s) s) at w)
  rest_set s at w p =
      let n = len s in
      let some = told.some s in
      let u : List ℕ = sets s (n + at) w in
      let head : take n u ≡ take n s = sets_take s (n + at) w n (omega arith) in
      let same : byte s 0 ≡ byte u 0 = sym (get_or-take n s 0 0 some) ∙ ap (λ (l : List ℕ). byte l 0) (sym head) ∙ get_or-take n u 0 0 some in
      rw (cut_like s u (omega (arith, length-sets s (n + at) w)) same, head, drop_sets n s at w)

  laid_set : {s : List ℕ} {es : List (List ℕ)} → Laid s es → (k : ℕ) (w : List ℕ) → whole len es ≡ true → k < length es
      → length w ≡ length (get_or es k []) → byte w 0 ≡ byte (get_or es k []) 0
      → cut len 0 (sets s (before k es) w) ≡ set es k w
  laid_set laid_none k w a h l f = absurd (omega arith)
  laid_set (laid_more {s} {es} p l) zero w a h g f =
      rw (before_none (take (len s) s ∷ es), ← laid_cut l)
      (first_set s w (first_whole s (whole_parts len (take (len s) s) es a).0) g f)
  laid_set (laid_more {s} {es} p l) (suc k) w a h g f =
      rw (laid_next s l k (omega arith), ← laid_set l k w (whole_parts len (take (len s) s) es a).1 (omega arith) g f)
      (rest_set s (before k es) w p)

  pub joined_cut : (s : List ℕ) → as_one (cut len 0 s) ≡ s
  joined_cut s = laid_joined (laid s)

  -- Where piece k stands.
  pub piece_is : (s : List ℕ) (k : ℕ) → k < length (cut len 0 s)
      → let at = before k (cut len 0 s) in get_or (cut len 0 s) k [] ≡ take (len (drop at s)) (drop at s)
  piece_is s k h = laid_is (laid s) k h

  -- Where no piece is cut short, it has its whole length.
  pub piece_whole : (s : List ℕ) (k : ℕ) → whole len (cut len 0 s) ≡ true → k < length (cut len 0 s)
      → let at = before k (cut len 0 s) in at + len (drop at s) ≤ length s
  piece_whole s k w h = laid_whole (laid s) k w h

  -- Piece k replaced by one as long, with the same first byte.
  pub piece_set : (s : List ℕ) (k : ℕ) (w : List ℕ) → whole len (cut len 0 s) ≡ true → k < length (cut len 0 s)
      → length w ≡ length (get_or (cut len 0 s) k []) → byte w 0 ≡ byte (get_or (cut len 0 s) k []) 0
      → cut len 0 (sets s (before k (cut len 0 s)) w) ≡ set (cut len 0 s) k w
  piece_set s k w a h l f = laid_set (laid s) k w a h l f

-- ---- Base entries

pub base_told : Told base_entry_length
unfolding base_entry_length
base_told = record { some = some; by_first = λ a b e. rw e }
  where
    some : (s : List ℕ) → 0 < base_entry_length s
    some s = whether (eqb (byte s 0) 0) (λ t. rw t (omega arith)) (λ f. rw f (omega arith))

-- An entry without a fault is of a known type, and whole.
pub no_fault :
    (before : ℕ) (e : Entry) → entry_fault before e ≡ 0 → (type e ≤ last_base_type) × (base_entry_length e ≤ length e)
unfolding entry_fault refusal
no_fault before e f =
    let rows : List Rule = order_number when ltb (type e) before ∷ [] in
    let short = ltb (length e) (base_entry_length e) in
    let typed = refusal_pass type_number (ltb last_base_type (type e)) (cut_number when short ∷ rows) (omega arith) f in
    let uncut = refusal_pass cut_number short rows (omega arith) typed.1 in
    (ltb-false last_base_type (type e) typed.0, ltb-false (length e) (base_entry_length e) uncut.0)

-- And so are those of a walk without one.
pub walked_whole : (before : ℕ) (es : List Entry) → walk_from before es ≡ 0 → whole base_entry_length es ≡ true
unfolding walk_from whole every
walked_whole before [] w = refl
walked_whole before (e ∷ es) w =
    let p = first_none (entry_fault before e) (walk_from (type e) es) w in
    rw (le-leb (base_entry_length e) (length e) (no_fault before e p.0).1) (walked_whole (type e) es p.1)

pub walked_type : (before : ℕ) (es : List Entry) → walk_from before es ≡ 0 → (i : ℕ) → i < length es → type (get_or es i []) ≤ last_base_type
unfolding walk_from
walked_type before [] w i h = absurd (omega arith)
walked_type before (e ∷ es) w zero h = (no_fault before e (first_none (entry_fault before e) (walk_from (type e) es) w).0).0
walked_type before (e ∷ es) w (suc i) h =
    walked_type (type e) es (first_none (entry_fault before e) (walk_from (type e) es) w).1 i (omega arith)

-- Whole ones have at least eight bytes each.
pub whole_least : (es : List Entry) → whole base_entry_length es ≡ true → length es * entry_size ≤ length (as_one es)
unfolding joined base_entry_length
whole_least [] w = omega arith
whole_least (e ∷ es) w =
    let p = whole_parts base_entry_length e es w in
    let least : entry_size ≤ base_entry_length e = whether (eqb (byte e 0) 0) (λ t. rw t (omega arith)) (λ f. rw f (omega arith)) in
    omega (arith, length-append e (as_one es), least, p.0, whole_least es p.1)
