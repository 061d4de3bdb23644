-- Laws of the sets, of any number of words: what is in one after more was put in, how many that is, and the lowest that is in
-- neither of two. None says how a set is stored; who keeps a word of one at hand needs Words too. Assumes nothing.
use Prim.Native.Nat.{ℕ, zero, suc, ◌+◌, ◌-◌, ◌/◌, ◌%◌, ◌^◌, ◌≤◌, ◌<◌}
use mathlib.Core.Path.{◌≡◌, refl, sym, ap, ◌∙◌}
use mathlib.Core.Bool.{Bool, true, false, not, ◌||◌, or_assoc, or_comm}
use mathlib.Core.List.{List, [], ◌∷◌, ◌++◌, append-nil}
use native.Mathlib.Omega.{arith}
use native.Mathlib.Nat.{zero-add, sub-zero}
use lib.Bits.{bit_or}
use lib.Dec.{eqb, ltb}
use lib.ListN.{length, get_or, length-set, take, replicate, length-replicate, get_or-eq_default}
use lib.Seq.{set_out, get_or-set_same, get_or-set_other}
use borrow.Author.Tests.{eq-eqb, ne_eqb, eqb-true, eqb-false, ltb-true, ltb-false, not-true, not-false}
use Rattle.mps.specs.Words.{bit, among, keep, head, rising, below}
use Rattle.laws.proofs.Tests.{whether, or_swap}
use Rattle.laws.proofs.Bits.{bit_none, bit_power, bit_or_lem}
use Rattle.laws.proofs.Lists.{zeros_at, keep_append, keep_nothing, keep_most}
use Rattle.laws.proofs.Rising.{length_rising, rising_append, keep_rising}
use Rattle.laws.proofs.Sieve.{sieve_first}
use Rattle.sets.specs.Sets.{holds, with_number, put_all, bits_of, members, lowest_out}

-- ---- What is in a set

-- Behind its last word there is nothing, and in words that are 0 neither.
holds_past : (words : List ℕ) (n : ℕ) → bits_of words ≤ n → holds words n ≡ false
unfolding holds
holds_past words n h = rw (get_or-eq_default words 0 {n = n / 64} (omega (arith, h))) (bit_none (n % 64))

pub holds_none : (size n : ℕ) → holds (replicate size 0) n ≡ false
unfolding holds
holds_none size n = rw (zeros_at size (n / 64)) (bit_none (n % 64))

-- So the first words of a new array are an empty set.
pub cut_none :
    (size n : ℕ) → n ≤ size
    → let words : List ℕ = take {A = ℕ} (n - 0) (replicate {A = ℕ} size 0) in (length words ≡ n) × ((m : ℕ) → holds words m ≡ false)
cut_none size n h = rw (sub-zero n, cut n size h) (length-replicate {A = ℕ} n 0, holds_none n)
  where
    cut : (a b : ℕ) → a ≤ b → take {A = ℕ} a (replicate {A = ℕ} b 0) ≡ replicate {A = ℕ} a 0
    cut zero b l = refl
    cut (suc a) zero l = absurd (omega (arith, l))
    cut (suc a) (suc b) l = ap (λ (s : List ℕ). 0 ∷ s) (cut a b (omega (arith, l)))

pub length_put : (words : List ℕ) (n : ℕ) → length (with_number words n) ≡ length words
unfolding with_number
length_put words n = length-set words (n / 64) (bit_or (get_or words (n / 64) 0) (2 ^ (n % 64)))

-- A number that is put in is in then, where there is a bit for it, and who was in before.
pub holds_put : (words : List ℕ) (n m : ℕ) → (m ≡ n → n < bits_of words) → holds (with_number words n) m ≡ (eqb m n || holds words m)
unfolding holds with_number
holds_put words n m h =
    let old = get_or words (n / 64) 0 in
    let new = bit_or old (2 ^ (n % 64)) in
    whether (ltb (n / 64) (length words))
    (λ l. whether (eqb (m / 64) (n / 64))
    (λ t. let k = eqb-true (m / 64) (n / 64) t in
    rw (k, get_or-set_same words (n / 64) new 0 (ltb-true (n / 64) (length words) l), bit_or_lem (m % 64) old (2 ^ (n % 64)), bit_power (m % 64) (n % 64))
    (or_comm (bit (m % 64) old) (eqb (m % 64) (n % 64)) ∙ ap (λ (b : Bool). b || bit (m % 64) old) (same k)))
    (λ f. let k = eqb-false (m / 64) (n / 64) f in
    rw (get_or-set_other words (n / 64) (m / 64) new 0 k, ne_eqb m n (λ e. k (omega (arith, e))))))
    (λ l. let past = ltb-false (n / 64) (length words) l in
    rw (set_out words (n / 64) new past, ne_eqb m n (λ e. omega (arith, h e, past))))
  where
    same : m / 64 ≡ n / 64 → eqb (m % 64) (n % 64) ≡ eqb m n
    same k =
        whether (eqb m n)
        (λ t. rw t (eq-eqb (m % 64) (n % 64) (omega (arith, eqb-true m n t))))
        (λ f. rw f (ne_eqb (m % 64) (n % 64) (λ e. eqb-false m n f (omega (arith, e, k)))))

-- ---- Every number of a list

pub length_all : (words ns : List ℕ) → length (put_all words ns) ≡ length words
unfolding put_all
length_all words [] = refl
length_all words (n ∷ ns) = length_all (with_number words n) ns ∙ length_put words n

pub holds_all : (words ns : List ℕ) (m : ℕ) → m < bits_of words → holds (put_all words ns) m ≡ (among m ns || holds words m)
unfolding put_all among
holds_all words [] m h = refl
holds_all words (n ∷ ns) m h =
    holds_all (with_number words n) ns m (omega (arith, h, length_put words n))
    ∙ rw (holds_put words n m (λ e. omega (arith, e, h)))
    (or_swap (among m ns) (eqb m n) (holds words m) ∙ sym (or_assoc (eqb m n) (among m ns) (holds words m)))

-- ---- How many there are

pub members_few : (words : List ℕ) → length (members words) ≤ bits_of words
unfolding members
members_few words = omega (arith, keep_most (holds words) (below (bits_of words)), length_rising (bits_of words) 0)

-- To look for more than it has bits for finds no others.
pub members_all : (words : List ℕ) (m : ℕ) → bits_of words ≤ m → keep (holds words) (below m) ≡ members words
unfolding members
members_all words m h =
    let b = bits_of words in
    let left = rising (m - b) (b + 0) in
    let all : m ≡ b + (m - b) = omega (arith, h) in
    ap (λ (n : ℕ). keep (holds words) (below n)) all
    ∙ ap (keep (holds words)) (rising_append b (m - b) 0)
    ∙ keep_append (holds words) (below b) left
    ∙ ap (λ (l : List ℕ). keep (holds words) (below b) ++ l)
    (keep_rising _ _ (m - b) (b + 0) (λ n a k. holds_past words n (omega (arith, a))) ∙ keep_nothing left)
    ∙ append-nil (keep (holds words) (below b))

-- ---- The lowest that is in neither of two sets

-- What the form promises: it is in neither, where the second has no more words, and every lower one is in one.
module _ (a b : List ℕ) where
  abbrev low : ℕ
  low = lowest_out a b

  first_out : (low < bits_of a → not (holds a low || holds b low) ≡ true)
      × ((n : ℕ) → 0 ≤ n → n < low → not (holds a n || holds b n) ≡ false)
  unfolding lowest_out
  first_out =
      let first = rw (zero-add (bits_of a)) at (sieve_first (λ (n : ℕ). not (holds a n || holds b n)) (bits_of a) 0) in
      (first.1, first.2)

  pub lowest_out_lem : length b ≤ length a → (holds a low || holds b low) ≡ false
  lowest_out_lem h =
      whether (ltb low (bits_of a))
      (λ l. not-true (holds a low || holds b low) (first_out.0 (ltb-true low (bits_of a) l)))
      (λ l. let past = ltb-false low (bits_of a) l in
      rw (holds_past a low past, holds_past b low (omega (arith, past, h))))

  pub lowest_under : (n : ℕ) → n < low → (holds a n || holds b n) ≡ true
  lowest_under n h = not-false (holds a n || holds b n) (first_out.1 n (omega arith) h)

-- ---- By a test: sets that hold exactly the numbers that pass one, one set or two together

module _ (p : ℕ → Bool) where
  pub members_by : (words : List ℕ) → ((n : ℕ) → n < bits_of words → holds words n ≡ p n) → members words ≡ keep p (below (bits_of words))
  unfolding members
  members_by words is = keep_rising _ _ (bits_of words) 0 (λ n l h. is n (omega (arith, h)))

  pub lowest_by :
      (a b : List ℕ) → ((n : ℕ) → n < bits_of a → (holds a n || holds b n) ≡ p n)
      → lowest_out a b ≡ head (bits_of a) (keep (λ (n : ℕ). not (p n)) (below (bits_of a)))
  unfolding lowest_out
  lowest_by a b is = ap (head (bits_of a)) (keep_rising _ _ (bits_of a) 0 (λ n l h. ap not (is n (omega (arith, h)))))
