-- Laws of `same`, of what the library's methods store, and of bytes moved from the last one on. Assumes nothing.
use Prim.Native.Nat.{ℕ, suc, ◌+◌, ◌-◌, ◌≤◌, ◌<◌, min}
use mathlib.Core.Path.{◌≡◌, refl, ap, sym, ◌∙◌}
use mathlib.Core.Bool.{Bool, true, false, true≢false, ◌&&◌}
use Rattle.std.specs.Cmp.Lexicographic.{pointwise}
use mathlib.Core.List.{List, [], ◌∷◌, ◌++◌}
use native.Mathlib.Numerals.{add-one}
use native.Mathlib.Omega.{arith}
use lib.ListN.{length, get_or, set, take, drop, replicate, drop_of_length-le, length-drop, take-append-drop}
use Rattle.std.proofs.lemmas.List.{take-replicate, length-replicate}
use lib.Seq.{drop-cons, sets, length-sets, length-take-le, take-suc, take-add, get_or-drop, take-set-le}
use lib.Dec.{eqb, leb}
use borrow.Author.Tests.{eq-eqb, eqb-true, leb-true, leb-false}
use Rattle.mps.specs.Words.{same, byte, part}
use Rattle.laws.proofs.Tests.{and_parts, whether}
use Rattle.laws.proofs.Parts.{drop_take, length_part}
use Rattle.laws.proofs.Stores.{sets_append, sets_past, sets_fit, sets_swap}

-- ---- same

pub same_refl : (s : List ℕ) → same s s ≡ true
unfolding same
same_refl [] = refl
same_refl (x ∷ xs) = rw (eq-eqb x x refl) (same_refl xs)

pub same_is : (a b : List ℕ) → a ≡ b → same a b ≡ true
same_is a b e = rw e (same_refl b)

pub same_true : (a b : List ℕ) → same a b ≡ true → a ≡ b
unfolding same
same_true [] [] e = refl
same_true [] (y ∷ ys) e = cc
same_true (x ∷ xs) [] e = cc
same_true (x ∷ xs) (y ∷ ys) e =
    let h = and_parts (eqb x y) (same xs ys) e in
    rw (eqb-true x y h.0, same_true xs ys h.1)

pub same_false : (a b : List ℕ) → same a b ≡ false → a ≡ b → ⊥
same_false a b e p = true≢false (sym (same_is a b p) ∙ e)

pub same_length : (a b : List ℕ) → same a b ≡ true → length a ≡ length b
same_length a b e = ap length (same_true a b e)

-- The library's `==` of slices of bytes is this.
pub same_compared : (a b : List ℕ) (r : Bool) → r ≡ pointwise eqb a b → r ≡ same a b
unfolding same
same_compared [] [] r e = e
same_compared [] (y ∷ ys) r e = e
same_compared (x ∷ xs) [] r e = e
same_compared (x ∷ xs) (y ∷ ys) r e = e ∙ ap (λ (q : Bool). eqb x y && q) (same_compared xs ys (pointwise eqb xs ys) refl)

-- ---- Bytes stored one by one

-- From byte i of w on: one more is stored, or no more has room.
module _ (t w : List ℕ) (at i : ℕ) where
  pub sets_next : i < length w → sets t (at + i) (drop i w) ≡ sets (set t (at + i) (get_or w i 0)) (at + (i + 1)) (drop (i + 1) w)
  sets_next h = let e : at + suc i ≡ suc (at + i) = omega arith in rw (add-one, drop-cons w i 0 h, e)

  pub sets_end : i ≡ min (length w) (length t - at) → sets t (at + i) (drop i w) ≡ t
  sets_end e =
      whether
      (leb (length w) i)
      (λ q. let r = leb-true (length w) i q in rw drop_of_length-le)
      (λ q. let r = leb-false (length w) i q in sets_past t (at + i) (drop i w) (omega arith))

-- ---- What is stored in a part of a list, by one of the library's methods

-- m is how many bytes of w have room from a place on, and v is these.
pub part_stored : (t w v : List ℕ) (at m : ℕ) → at ≤ length t → m ≡ min (length w) (length t - at) → v ≡ take m w → take at t ++ (v ++ drop (at + m) t) ≡ sets t at w
part_stored t w v at m h e f =
    let l : length (take m w) ≡ m = length-take-le m w (omega arith) in
    let u = sets t at (take m w) in
    let z : length u ≡ length t = length-sets t at (take m w) in
    let none : sets u (at + m) (drop m w) ≡ u =
    whether
    (leb (length w) m)
    (λ q. let r = leb-true (length w) m q in rw drop_of_length-le)
    (λ q. let r = leb-false (length w) m q in sets_past u (at + m) (drop m w) (omega arith)) in
    let whole = rw (take-append-drop m w, l, none) at (sets_append t at (take m w) (drop m w)) in
    rw f (sym (rw l at (sets_fit t at (take m w) (omega arith))) ∙ sym whole)

pub fill_stored : (t : List ℕ) (n m : ℕ) (v : List ℕ) → m ≡ min n (length t) → v ≡ replicate m 0 → v ++ drop m t ≡ sets t 0 (replicate n 0)
fill_stored t n m v e f =
    let z : 0 + m ≡ m = omega arith in
    let l : length (replicate {A = ℕ} n 0) ≡ n = length-replicate n 0 in
    rw z at (part_stored t (replicate n 0) v 0 m (omega arith) (omega arith) (f ∙ sym (take-replicate m n 0 (omega arith))))

-- ---- Bytes moved up, the last one first

part_snoc : (s : List ℕ) (from i : ℕ) → from ≤ i → i < length s → part from (suc i) s ≡ part from i s ++ (byte s i ∷ [])
part_snoc s from i h k =
    let e : suc i - from ≡ suc (i - from) = omega arith in
    let f : from + (i - from) ≡ i = omega arith in
    rw e
    (take-suc (drop from s) (i - from) 0 (omega (arith, length-drop from s))
    ∙ rw (get_or-drop from s (i - from) 0, f))

part_set : (s : List ℕ) (from to i x : ℕ) → to ≤ i → part from to (set s i x) ≡ part from to s
part_set s from to i x h = rw (← drop_take from to (set s i x), take-set-le to s i x h) (drop_take from to s)

-- The bytes before place i are left: none, or the last of them moves now. Those that would pass the end are none to move.
module _ (s : List ℕ) (from by i : ℕ) where
  pub raise_done : i ≤ from → sets s (from + by) (part from i s) ≡ s
  raise_done h = let e : i - from ≡ 0 = omega arith in rw e

  pub raise_next :
      from ≤ i → i + by < length s
      → sets s (from + by) (part from (suc i) s)
      ≡ sets (set s (i + by) (byte s i)) (from + by) (part from i (set s (i + by) (byte s i)))
  raise_next h k =
      let l = length_part from i s (omega arith) in
      let e : from + by + length (part from i s) ≡ i + by = omega (arith, l) in
      rw (
        part_snoc s from i h (omega arith),
        sets_append s (from + by) (part from i s) (byte s i ∷ []),
        e,
        part_set s from i (i + by) (byte s i) (omega arith),
      )
      (sym (sets_swap s (from + by) (part from i s) (i + by) (byte s i ∷ []) (omega (arith, e))))

  -- Nothing comes to stand past the end.
  raise_more :
      (to : ℕ) → from ≤ i → i ≤ to → i ≤ length s → length s ≤ i + by
      → sets s (from + by) (part from to s) ≡ sets s (from + by) (part from i s)
  raise_more to f h m k =
      let e : to - from ≡ i - from + (to - i) = omega arith in
      let v = part from i s in
      let w = take (to - i) (drop (i - from) (drop from s)) in
      let l : length s ≤ from + by + length v = omega (arith, length_part from i s m) in
      rw (e, take-add (i - from) (to - i) (drop from s), sets_append s (from + by) v w)
      (sets_past (sets s (from + by) v) (from + by + length v) w (rw (length-sets s (from + by) v) l))

  pub raise_start :
      (to : ℕ) → i ≤ to → i ≤ length s → length s ≤ i + by
      → sets s (from + by) (part from i s) ≡ sets s (from + by) (part from to s)
  raise_start to h m k =
      whether
      (leb from i)
      (λ e. sym (raise_more to (leb-true from i e) h m k))
      (λ e.
      let f = leb-false from i e in
      sets_past s (from + by) (part from i s) (omega arith) ∙ sym (sets_past s (from + by) (part from to s) (omega arith)))

  -- That many have room.
  pub raise_room : (to : ℕ) → i ≡ min to (length s - by) → sets s (from + by) (part from i s) ≡ sets s (from + by) (part from to s)
  raise_room to e =
      whether
      (leb to i)
      (λ q. let r = leb-true to i q in let z : i ≡ to = omega arith in rw z)
      (λ q. let r = leb-false to i q in raise_start to (omega arith) (omega arith) (omega arith))
