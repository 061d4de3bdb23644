-- Bytes: numbers below 256, in a list and in the entries that are cut from it. Assumes nothing.
use Prim.Native.Nat.{ℕ, zero, suc, pred, ◌-◌, ◌<◌}
use mathlib.Core.Path.{◌≡◌, refl}
use mathlib.Core.Bool.{Bool, ◌||◌}
use mathlib.Core.List.{List, [], ◌∷◌, ◌++◌}
use native.Mathlib.Omega.{arith}
use lib.ListN.{get_or, set, take, drop}
use lib.Seq.{sets}
use Rattle.mps.specs.Words.{byte, part, keep, any, each, cut}
use Rattle.mps.specs.Layout.{Entry, header_size, base_length, base_part, base_entry_length, base_entries}
use Rattle.mps.specs.Sections.{rows}
use Rattle.laws.proofs.Tests.{whether, or_four}

-- Every number of a list is a byte; every entry is made of bytes.
abbrev pub Bytes : List ℕ → Type 0
Bytes s = (i : ℕ) → get_or s i 0 < 256

pub data Small : List Entry → Type 0 where
  small_none : Small []
  small_more : {e : Entry} {es : List Entry} → Bytes e → Small es → Small (e ∷ es)

-- ---- Parts of bytes are bytes

pub bytes_take : (n : ℕ) (s : List ℕ) → Bytes s → Bytes (take n s)
bytes_take zero s b i = omega arith
bytes_take (suc n) [] b i = omega arith
bytes_take (suc n) (x ∷ s) b zero = b 0
bytes_take (suc n) (x ∷ s) b (suc i) = bytes_take n s (λ j. b (suc j)) i

pub bytes_drop : (n : ℕ) (s : List ℕ) → Bytes s → Bytes (drop n s)
bytes_drop zero s b = b
bytes_drop (suc n) [] b = b
bytes_drop (suc n) (x ∷ s) b = bytes_drop n s (λ j. b (suc j))

pub bytes_part : (m n : ℕ) (s : List ℕ) → Bytes s → Bytes (part m n s)
bytes_part m n s b = bytes_take (n - m) (drop m s) (bytes_drop m s b)

-- ---- Bytes joined are bytes

pub bytes_none : Bytes []
bytes_none i = omega arith

pub bytes_cons : (x : ℕ) (a : List ℕ) → x < 256 → Bytes a → Bytes (x ∷ a)
bytes_cons x a h p zero = h
bytes_cons x a h p (suc i) = p i

pub bytes_append : (a b : List ℕ) → Bytes a → Bytes b → Bytes (a ++ b)
bytes_append [] b p q = q
bytes_append (x ∷ a) b p q = bytes_cons x (a ++ b) (p 0) (bytes_append a b (λ j. p (suc j)) q)

-- ---- Bytes stored into bytes are bytes

pub bytes_set : (t : List ℕ) (at x : ℕ) → Bytes t → x < 256 → Bytes (set t at x)
bytes_set [] at x b h i = b i
bytes_set (y ∷ t) zero x b h zero = h
bytes_set (y ∷ t) zero x b h (suc i) = b (suc i)
bytes_set (y ∷ t) (suc at) x b h zero = b 0
bytes_set (y ∷ t) (suc at) x b h (suc i) = bytes_set t at x (λ j. b (suc j)) h i

pub bytes_sets : (t : List ℕ) (at : ℕ) (w : List ℕ) → Bytes t → Bytes w → Bytes (sets t at w)
bytes_sets t at [] b c = b
bytes_sets t at (x ∷ w) b c = bytes_sets (set t at x) (suc at) w (bytes_set t at x b (c 0)) (λ j. c (suc j))

-- ---- Entries that are cut from bytes are small, and so are those that pass a test

pub small_cut : (len : List ℕ → ℕ) (k : ℕ) (s : List ℕ) → Bytes s → Small (cut len k s)
unfolding cut
small_cut len k [] b = small_none
small_cut len (suc k) (x ∷ s) b = small_cut len k s (λ j. b (suc j))
small_cut len zero (x ∷ s) b =
    small_more (bytes_take (len (x ∷ s)) (x ∷ s) b) (small_cut len (pred (len (x ∷ s))) s (λ j. b (suc j)))

pub small_base : (t : List ℕ) → Bytes t → Small (base_entries t)
unfolding base_entries
small_base t b = small_cut base_entry_length 0 (base_part t) (bytes_part header_size (base_length t) t b)

pub small_keep : (p : Entry → Bool) {es : List Entry} → Small es → Small (keep p es)
unfolding keep
small_keep p small_none = small_none
small_keep p (small_more {e} {es} b h) =
    whether (p e) (λ t. rw (keep, t) (small_more b (small_keep p h))) (λ f. rw (keep, f) (small_keep p h))

pub small_rows : (n : ℕ) (s : List ℕ) → Bytes s → Small (rows n s)
unfolding rows
small_rows n s b = small_keep _ (small_cut (λ _. n) 0 s b)

-- ---- What is read of small entries

-- One byte of the entry at a place.
pub small_at : {es : List Entry} → Small es → (i k : ℕ) → byte (get_or es i []) k < 256
small_at small_none i k = omega arith
small_at (small_more b h) zero k = b k
small_at (small_more b h) (suc i) k = small_at h i k

-- One byte of each entry.
pub below_each : (k : ℕ) {es : List Entry} → Small es → Bytes (each (λ e. byte e k) es)
unfolding each
below_each k small_none i = omega arith
below_each k (small_more b h) zero = b k
below_each k (small_more b h) (suc i) = below_each k h i

-- Two tests that agree on bytes find the same.
pub any_same : (p q : Entry → Bool) → ((e : Entry) → Bytes e → p e ≡ q e) → {es : List Entry} → Small es → any p es ≡ any q es
unfolding any
any_same p q f small_none = refl
any_same p q f (small_more {e} b h) = rw (f e b, any_same p q f h)

-- Two tests at once.
pub any_or : (p q : Entry → Bool) (es : List Entry) → any (λ e. p e || q e) es ≡ (any p es || any q es)
unfolding any
any_or p q [] = refl
any_or p q (e ∷ es) = rw (any_or p q es) (or_four (p e) (q e) (any p es) (any q es))
