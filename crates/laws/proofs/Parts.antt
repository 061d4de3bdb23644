-- Laws of `part`, the bytes from one place up to another. Assumes nothing.
use Prim.Native.Nat.{ℕ, zero, suc, ◌+◌, ◌-◌, ◌≤◌, ◌<◌, min}
use mathlib.Core.Path.{◌≡◌, ap, sym, ◌∙◌}
use mathlib.Core.List.{List, [], ◌∷◌, ◌++◌}
use native.Mathlib.Nat.{zero-min, min-zero, suc-min-suc, zero-sub, sub-zero, suc-sub-suc}
use native.Mathlib.Numerals.{add-one}
use native.Mathlib.Omega.{arith}
use lib.ListN.{length, take, drop, length-drop}
use lib.Seq.{take-take, take-add, take_at, get_or-take, take-nil, drop_at, drop-nil, drop-drop, drop-cons, length-take-le}
use Rattle.mps.specs.Words.{byte, part}

pub drop_take : (a k : ℕ) (s : List ℕ) → drop a (take k s) ≡ take (k - a) (drop a s)
drop_take zero k s = let e : k - 0 ≡ k = omega arith in rw e
drop_take (suc a) zero s = let e : 0 - suc a ≡ 0 = omega arith in rw e
drop_take (suc a) (suc k) [] = sym (take-nil (suc k - suc a))
drop_take (suc a) (suc k) (x ∷ s) = let e : suc k - suc a ≡ k - a = omega arith in rw e (drop_take a k s)

pub length_part : (a b : ℕ) (s : List ℕ) → b ≤ length s → length (part a b s) ≡ b - a
length_part a b s h = length-take-le (b - a) (drop a s) (omega (arith, length-drop a s))

-- A part of a part is a part of the whole.
pub part_part : (m n a b : ℕ) (s : List ℕ) → m + b ≤ n → part a b (part m n s) ≡ part (m + a) (m + b) s
part_part m n a b s h =
    let e : m + b - (m + a) ≡ b - a = omega arith in
    rw (e, drop_take a (n - m) (drop m s), drop-drop a m s) (take-take (b - a) (n - m - a) (drop (m + a) s) (omega arith))

-- What is behind a place of a part.
pub drop_part : (m n a : ℕ) (s : List ℕ) → drop a (part m n s) ≡ part (m + a) n s
drop_part m n a s =
    let e : n - (m + a) ≡ n - m - a = omega arith in
    rw (e, drop_take a (n - m) (drop m s), drop-drop a m s)

-- And so is a part of a row.
pub row_part : (n : ℕ) (s : List ℕ) (at i j : ℕ) → j ≤ n → part i j (take n (drop at s)) ≡ part (at + i) (at + j) s
row_part n s at i j h = let e : at + n - at ≡ n = omega arith in rw e at (part_part at (at + n) i j s (omega arith))

-- A place that is past the list's end may as well be there.
take_inside : (n : ℕ) (s : List ℕ) → take (min n (length s)) s ≡ take n s
take_inside zero s = rw (zero-min (length s))
take_inside (suc n) [] = rw (min-zero (suc n))
take_inside (suc n) (x ∷ xs) = rw (suc-min-suc n (length xs)) (ap (λ (l : List ℕ). x ∷ l) (take_inside n xs))

pub part_inside : (m n : ℕ) (s : List ℕ) → part (min m (length s)) (min n (length s)) s ≡ part m n s
part_inside m n [] = rw (drop-nil (min m 0), drop-nil m, take-nil (min n 0 - min m 0), take-nil (n - m))
part_inside zero n (x ∷ xs) =
    let k = length (x ∷ xs) in
    rw (zero-min k, sub-zero (min n k), sub-zero n) (take_inside n (x ∷ xs))
part_inside (suc m) zero (x ∷ xs) =
    let k = length (x ∷ xs) in
    rw (zero-min k, zero-sub (min (suc m) k), zero-sub (suc m))
part_inside (suc m) (suc n) (x ∷ xs) =
    let k = length xs in
    rw (suc-min-suc m k, suc-min-suc n k, suc-sub-suc (min n k) (min m k), suc-sub-suc n m) (part_inside m n xs)

-- A part of the first n bytes.
pub part_take : (a b n : ℕ) (s : List ℕ) → b ≤ n → part a b (take n s) ≡ part a b s
part_take a b n s h = rw (drop_take a n s) (take-take (b - a) (n - a) (drop a s) (omega arith))

-- Two lists with the same first n bytes: what reads no other byte reads the same of both.
module _ (n : ℕ) (t u : List ℕ) (same : take n u ≡ take n t) where
  pub alike : {A : Type 0} (f : List ℕ → A) → ((s : List ℕ) → f (take n s) ≡ f s) → f u ≡ f t
  alike f h = sym (h u) ∙ ap f same ∙ h t

  pub alike_take : (k : ℕ) → k ≤ n → take k u ≡ take k t
  alike_take k h = alike (take k) (λ s. take-take k n s h)

  pub alike_byte : (i : ℕ) → i < n → byte u i ≡ byte t i
  alike_byte i h = alike (λ (s : List ℕ). byte s i) (λ s. get_or-take n s i 0 h)

  pub alike_part : (a b : ℕ) → b ≤ n → part a b u ≡ part a b t
  alike_part a b h = alike (part a b) (λ s. part_take a b n s h)

-- ---- The bytes from a place on: one piece, then what is behind it

module _ (s : List ℕ) (at k n : ℕ) (a c : List ℕ) where
  pub pieces_join : take k (drop at s) ≡ a → take n (drop (at + k) s) ≡ c → take (k + n) (drop at s) ≡ a ++ c
  pieces_join e f = take-add k n (drop at s) ∙ rw (e, drop-drop k at s, f)

  pub pieces_split : length a ≡ k → take (k + n) (drop at s) ≡ a ++ c → (take k (drop at s) ≡ a) × (take n (drop (at + k) s) ≡ c)
  pieces_split l e =
      let w : k + n - k ≡ n = omega arith in (
        sym (take-take k (k + n) (drop at s) (omega arith)) ∙ rw e (take_at a c k l),
        rw (← drop-drop k at s) (sym (rw w at (drop_take k (k + n) (drop at s))) ∙ rw e (drop_at a c k l)),
      )

pub piece_pair : (s : List ℕ) (at : ℕ) → at + 2 ≤ length s → take 2 (drop at s) ≡ byte s at ∷ byte s (at + 1) ∷ []
piece_pair s at h = rw (drop-cons s at 0 (omega arith), drop-cons s (suc at) 0 (omega arith), add-one)

-- Up to one place, then up to another.
pub take_part : (a b : ℕ) (s : List ℕ) → a ≤ b → take a s ++ part a b s ≡ take b s
take_part a b s h = let n : a + (b - a) ≡ b = omega arith in sym (rw n at (take-add a (b - a) s))
