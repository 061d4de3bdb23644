-- A set by its words, as the code puts a number in and goes from word to word. Assumes nothing.
use Prim.Native.Nat.{ℕ, ◌+◌, ◌-◌, ◌*◌, ◌/◌, ◌%◌, ◌^◌, ◌≤◌, ◌<◌}
use mathlib.Core.Path.{◌≡◌, sym, ap, ◌∙◌}
use mathlib.Core.Bool.{Bool, not, ◌||◌}
use mathlib.Core.List.{List, [], ◌++◌}
use native.Mathlib.Omega.{arith}
use native.Mathlib.Nat.{one-mul}
use lib.Bits.{bit_or, or_lt}
use lib.Count.{count_trailing_zeros, ones}
use lib.Dec.{ltb}
use lib.Pow.{shl_exact}
use lib.ListN.{length, get_or, set, length-append}
use lib.Seq.{get_or-set_same, set-set, set_out}
use borrow.Author.Tests.{ltb-true, ltb-false}
use Rattle.mps.specs.Words.{bit, keep, head, rising}
use Rattle.laws.proofs.Tests.{whether}
use Rattle.laws.proofs.Bits.{bit_or_lem}
use Rattle.laws.proofs.Lists.{keep_append}
use Rattle.laws.proofs.Rising.{rising_append}
use Rattle.sets.specs.Sets.{holds, with_number, bits_of, members, lowest_out, set_bits}
use Rattle.sets.proofs.Bits.{bit_not, bits_none, bits_lowest, bits_count, bits_keep}

-- By a shift, as the code makes the bit.
pub shift_put : (words : List ℕ) (n : ℕ) → set words (n / 64) (bit_or (get_or words (n / 64) 0) (1 * 2 ^ (n % 64) % 2 ^ 64)) ≡ with_number words n
unfolding with_number
shift_put words n = rw (shl_exact {a = 1} 1 (n % 64) 64 (omega arith) (omega arith), one-mul (2 ^ (n % 64)))

-- With the word that it belongs to kept at hand.
pub kept_put :
    (words : List ℕ) (n k word : ℕ) → k ≡ n / 64
    → set words k (bit_or word (1 * 2 ^ (n % 64) % 2 ^ 64)) ≡ with_number (set words k word) n
kept_put words n k word e =
    let at = n / 64 in
    let new = bit_or word (1 * 2 ^ (n % 64) % 2 ^ 64) in
    whether (ltb at (length words))
    (λ t. rw e
    (sym (set-set words at word new)
    ∙ rw (get_or-set_same words at word 0 (ltb-true at (length words) t)) at (shift_put (set words at word) n)))
    (λ f. let past = ltb-false at (length words) f in
    rw (e, set_out words at word past, set_out words at new past) (sym (set_out words at _ past) ∙ shift_put words n))

-- ---- From word to word

-- One word after the other: what of the numbers from word k on passes a test, of which word k has the bits w.
from_next :
    (p : ℕ → Bool) (size k w : ℕ) → k < size → ((j : ℕ) → j < 64 → p (k * 64 + j) ≡ bit j w)
    → keep p (rising ((size - k) * 64) (k * 64)) ≡ set_bits 64 (k * 64) w ++ keep p (rising ((size - (k + 1)) * 64) ((k + 1) * 64))
from_next p size k w h own =
    let left : (size - k) * 64 ≡ 64 + (size - (k + 1)) * 64 = omega (arith, h) in
    let next : (k + 1) * 64 ≡ 64 + k * 64 = omega arith in
    rw (left, next, rising_append 64 ((size - (k + 1)) * 64) (k * 64), ← bits_keep p 64 (k * 64) w own)
    (keep_append p (rising 64 (k * 64)) (rising ((size - (k + 1)) * 64) (64 + k * 64)))

from_done : (p : ℕ → Bool) (size k : ℕ) → size ≤ k → keep p (rising ((size - k) * 64) (k * 64)) ≡ []
unfolding rising keep
from_done p size k h = let none : (size - k) * 64 ≡ 0 = omega (arith, h) in rw none

-- Those from word k on.
unfoldable pub members_from : List ℕ → ℕ → List ℕ
members_from words k = keep (holds words) (rising ((length words - k) * 64) (k * 64))

module _ (words : List ℕ) (k : ℕ) where
  own : (j : ℕ) → j < 64 → holds words (k * 64 + j) ≡ bit j (get_or words k 0)
  unfolding holds
  own j h =
      let at : (k * 64 + j) / 64 ≡ k = omega (arith, h) in
      let by : (k * 64 + j) % 64 ≡ j = omega (arith, h) in
      rw (at, by)

  pub members_next : k < length words → members_from words k ≡ set_bits 64 (k * 64) (get_or words k 0) ++ members_from words (k + 1)
  unfolding members_from
  members_next h = from_next (holds words) (length words) k (get_or words k 0) h own

  pub members_done : length words ≤ k → members_from words k ≡ []
  unfolding members_from
  members_done h = from_done (holds words) (length words) k h

pub members_first : (words : List ℕ) → members_from words 0 ≡ members words
unfolding members_from members
members_first words =
    let all : (length words - 0) * 64 ≡ 64 * length words = omega arith in
    rw all

-- ---- How many there are

-- What a loop keeps that counts them: with those left they are all.
abbrev pub Counts : List ℕ → ℕ → ℕ → Type 0
Counts words n k = n + length (members_from words k) ≡ length (members words)

pub counts_first : (words : List ℕ) → Counts words 0 0
counts_first words = omega (arith, ap length (members_first words))

module _ (words : List ℕ) (n k : ℕ) (inv : Counts words n k) where
  pub counts_done : length words ≤ k → n ≡ length (members words)
  counts_done h = omega (arith, inv, ap length (members_done words k h))

  pub counts_next : k < length words → get_or words k 0 < 2 ^ 64 → Counts words (n + ones (get_or words k 0)) (k + 1)
  counts_next h b =
      omega (
        arith,
        inv,
        ap length (members_next words k h),
        length-append (set_bits 64 (k * 64) (get_or words k 0)) (members_from words (k + 1)),
        bits_count 64 (k * 64) (get_or words k 0) b,
      )

-- ---- The lowest that is in neither of two sets

-- That from word k on.
unfoldable pub lowest_from : List ℕ → List ℕ → ℕ → ℕ
lowest_from a b k = head (bits_of a) (keep (λ (n : ℕ). not (holds a n || holds b n)) (rising ((length a - k) * 64) (k * 64)))

pub lowest_first : (a b : List ℕ) → lowest_from a b 0 ≡ lowest_out a b
unfolding lowest_from lowest_out
lowest_first a b =
    let all : (length a - 0) * 64 ≡ 64 * length a = omega arith in
    rw all

module _ (a b : List ℕ) (k : ℕ) where
  abbrev out : ℕ → Bool
  out n = not (holds a n || holds b n)

  pub lowest_done : length a ≤ k → lowest_from a b k ≡ bits_of a
  unfolding lowest_from
  lowest_done h = rw (from_done out (length a) k h)

  -- By the complement of both words k together.
  module _ (h : k < length a) (s : get_or a k 0 < 2 ^ 64) (t : get_or b k 0 < 2 ^ 64) where
    abbrev both : ℕ
    both = bit_or (get_or a k 0) (get_or b k 0)

    abbrev free : ℕ
    free = 2 ^ 64 - 1 - both

    own_free : (j : ℕ) → j < 64 → out (k * 64 + j) ≡ bit j free
    own_free j l =
        rw (own a k j l, own b k j l, ← bit_or_lem j (get_or a k 0) (get_or b k 0))
        (sym (bit_not 64 j both (or_lt 64 (get_or a k 0) (get_or b k 0) s t) l))

    out_next : keep out (rising ((length a - k) * 64) (k * 64)) ≡ set_bits 64 (k * 64) free ++ keep out (rising ((length a - (k + 1)) * 64) ((k + 1) * 64))
    out_next = from_next out (length a) k free h own_free

    pub lowest_next : free ≡ 0 → lowest_from a b k ≡ lowest_from a b (k + 1)
    unfolding lowest_from
    lowest_next e = rw (out_next, bits_none 64 (k * 64) free e)

    pub lowest_here : (free ≡ 0 → ⊥) → (count_trailing_zeros 64 free < 64) × (lowest_from a b k ≡ k * 64 + count_trailing_zeros 64 free)
    unfolding lowest_from
    lowest_here some =
        let low = bits_lowest 64 (k * 64) free some (omega arith) in
        (low.0, rw (out_next, low.1))
