-- Laws of entries one behind the other: their bytes, and what is cut into them. Assumes nothing.
use Prim.Native.Nat.{ℕ, zero, suc, pred, ◌+◌, ◌≤◌, ◌<◌}
use mathlib.Core.Path.{◌≡◌, refl, ap, sym, ◌∙◌}
use mathlib.Core.Bool.{Bool, true, false, cond}
use mathlib.Core.List.{List, [], ◌∷◌, ◌++◌}
use native.Mathlib.Omega.{arith}
use native.Mathlib.Nat.{add-zero, zero-add}
use lib.ListN.{length, get_or, take, drop, length-append, take-append-drop}
use lib.Seq.{get_or-drop, drop-nil, take_at, drop_at}
use lib.Dec.{eqb}
use borrow.Author.Tests.{eqb-true, eq-eqb, ne_eqb}
use Rattle.mps.specs.Words.{only, keep, every, each, cut}
use Rattle.mps.specs.Sums.{total}
use Rattle.mps.specs.Layout.{Entry}
use Rattle.mps.specs.Sections.{rows}
use Rattle.laws.proofs.Tests.{and_parts}
use Rattle.laws.proofs.Rows.{rows_short, rows_next}
use Rattle.runs.specs.Runs.{size_of, bytes}

-- ---- size_of

pub size_two : (k : ℕ) → 2 ≤ size_of k
size_two k = cases (eqb k 0)
  where
    cases : (t : Bool) → 2 ≤ cond t 20 8
    cases true = omega arith
    cases false = omega arith

pub size_most : (k : ℕ) → size_of k ≤ 20
size_most k = cases (eqb k 0)
  where
    cases : (t : Bool) → cond t 20 8 ≤ 20
    cases true = omega arith
    cases false = omega arith

pub size_some : (k : ℕ) → 0 < size_of k
size_some k = omega (arith, size_two k)

pub size_first : (k : ℕ) → k ≡ 0 → 20 ≡ size_of k
size_first k h = rw (eq-eqb k 0 h)

pub size_else : (k : ℕ) → (k ≡ 0 → ⊥) → 8 ≡ size_of k
size_else k h = rw (ne_eqb k 0 h)

-- ---- The bytes from a place on

pub first_there : (s : List ℕ) (place : ℕ) → get_or (drop place s) 0 0 ≡ get_or s place 0
first_there s place = get_or-drop place s 0 0 ∙ ap (λ (i : ℕ). get_or s i 0) (add-zero place)

-- ---- every

pub every_keep :
    (p x y : Entry → Bool) → ((e : Entry) → p e ≡ true → x e ≡ true → y e ≡ true) → (es : List Entry)
    → every x es ≡ true → every y (keep p es) ≡ true
unfolding every keep
every_keep p x y f [] h = refl
every_keep p x y f (e ∷ es) h =
    let g = and_parts (x e) (every x es) h in
    cases (p e) refl g.0 (every_keep p x y f es g.1)
  where
    cases : (t : Bool) → p e ≡ t → x e ≡ true → every y (keep p es) ≡ true → every y (only t (e ∷ []) ++ keep p es) ≡ true
    cases true q g ih = rw (f e q g, ih)
    cases false q g ih = ih

-- ---- glued: the bytes of entries, one behind the other

unfoldable pub glued : List Entry → List ℕ
glued [] = []
glued (e ∷ es) = e ++ glued es

pub length_glued : (es : List Entry) → length (glued es) ≡ bytes es
unfolding glued bytes each total
length_glued [] = refl
length_glued (e ∷ es) = length-append e (glued es) ∙ ap (λ (n : ℕ). length e + n) (length_glued es)

-- Entries of n bytes each are the rows of their bytes.
pub rows_glued : (n : ℕ) (es : List Entry) → 0 < n → every (λ e. eqb (length e) n) es ≡ true → rows n (glued es) ≡ es
unfolding glued every
rows_glued n [] p h = rows_short n [] p
rows_glued n (e ∷ es) p h =
    let parts = and_parts (eqb (length e) n) (every (λ (x : Entry). eqb (length x) n) es) h in
    let l = eqb-true (length e) n parts.0 in
    rows_next n (e ++ glued es) 0 p (omega arith) (omega (arith, length-append e (glued es), l))
    ∙ rw (zero-add n, take_at e (glued es) n l, drop_at e (glued es) n l, rows_glued n es p parts.1)

-- ---- The pieces of a list

-- What is so of each piece that can be cut is so of every piece.
pub every_cut :
    (len : List ℕ → ℕ) (p : Entry → Bool) → ((x : ℕ) (xs : List ℕ) → p (take (len (x ∷ xs)) (x ∷ xs)) ≡ true) → (k : ℕ) (s : List ℕ)
    → every p (cut len k s) ≡ true
unfolding every cut
every_cut len p f k [] = refl
every_cut len p f (suc k) (x ∷ s) = every_cut len p f k s
every_cut len p f zero (x ∷ s) = rw (f x s, every_cut len p f (pred (len (x ∷ s))) s)

-- Where no piece is empty, they are the whole list.
pub glued_cut :
    (len : List ℕ → ℕ) (q : Entry → Bool) → ((e : Entry) → q e ≡ true → 0 < length e) → (k : ℕ) (s : List ℕ)
    → every q (cut len k s) ≡ true → glued (cut len k s) ≡ drop k s
unfolding every cut glued
glued_cut len q some k [] h = sym (drop-nil k)
glued_cut len q some (suc k) (x ∷ s) h = glued_cut len q some k s h
glued_cut len q some zero (x ∷ s) h =
    let n = len (x ∷ s) in
    let p = and_parts (q (take n (x ∷ s))) (every q (cut len (pred n) s)) h in
    cases n (some (take n (x ∷ s)) p.0) (glued_cut len q some (pred n) s p.1)
  where
    cases :
        (n : ℕ) → 0 < length (take n (x ∷ s)) → glued (cut len (pred n) s) ≡ drop (pred n) s
        → take n (x ∷ s) ++ glued (cut len (pred n) s) ≡ x ∷ s
    cases zero p ih = absurd (omega arith)
    cases (suc n) p ih = rw ih (ap (λ (l : List ℕ). x ∷ l) (take-append-drop n s))

-- The first piece of some bytes, whatever its length.
pub cut_head : (len : List ℕ → ℕ) (t : List ℕ) → 0 < length t → cut len 0 t ≡ take (len t) t ∷ cut len (pred (len t)) (drop 1 t)
unfolding cut
cut_head len [] h = absurd (omega arith)
cut_head len (x ∷ t) h = refl
