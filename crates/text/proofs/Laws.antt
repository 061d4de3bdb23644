-- How long the words of a line are. Assumes nothing.
use Prim.Native.Nat.{ℕ, zero, suc, ◌+◌, ◌/◌, ◌≤◌}
use mathlib.Core.Path.{◌≡◌, refl, ◌∙◌}
use Rattle.std.specs.List.{fold, count_by}
use mathlib.Core.Bool.{Bool, true, false, cond}
use mathlib.Core.List.{List, [], ◌∷◌}
use native.Mathlib.Omega.{arith}
use lib.ListN.{length, length-append}
use lib.Dec.{ltb, leb}
use borrow.Author.Tests.{ltb-true, ltb-false, le-leb, lt-leb}
use Rattle.mps.specs.Words.{keep, flag, each}
use Rattle.mps.specs.Sums.{total}
use Rattle.mps.specs.Listing.{digits, decimal_digit, hex_digit, decimal_width, decimal, hex, not_space, unpadded, line}
use Rattle.laws.proofs.Tests.{whether}
use Rattle.text.specs.Text.{ended}

-- ---- How long a word is

pub length_ended : (w : List ℕ) (last : ℕ) → length (ended w last) ≡ length w + 1
unfolding ended
length_ended w last = length-append w (last ∷ [])

pub ended_length : (w : List ℕ) (k last : ℕ) → k ≡ length w → k + 1 ≡ length (ended w last)
ended_length w k last e = omega (arith, length_ended w last)

pub length_digits : (b : ℕ) (f : ℕ → ℕ) (k n : ℕ) → length (digits b f k n) ≡ k
unfolding digits
length_digits b f zero n = refl
length_digits b f (suc k) n = simp (length-append, length_digits b f k (n / b)) (omega arith)

pub length_hex : (k n : ℕ) → length (hex k n) ≡ k
unfolding hex
length_hex k n = length_digits 16 hex_digit k n

pub length_decimal : (n : ℕ) → length (decimal n) ≡ decimal_width n
unfolding decimal
length_decimal n = length_digits 10 decimal_digit (decimal_width n) n

pub width_most : (n : ℕ) → decimal_width n ≤ 5
unfolding decimal_width
width_most n = go (ltb n 10) (ltb n 100) (ltb n 1000) (ltb n 10000)
  where
    go : (a b c d : Bool) → cond a 1 (cond b 2 (cond c 3 (cond d 4 5))) ≤ 5
    go true b c d = omega arith
    go false true c d = omega arith
    go false false true d = omega arith
    go false false false true = omega arith
    go false false false false = omega arith

pub length_decimal_most : (n : ℕ) → length (decimal n) ≤ 5
length_decimal_most n = omega (arith, length_decimal n, width_most n)

pub length_unpadded : (s : List ℕ) → length (unpadded s) ≤ length s
unfolding unpadded keep
length_unpadded [] = omega arith
length_unpadded (x ∷ s) =
    whether (not_space x)
    (λ e. rw (e, keep) (omega (arith, length_unpadded s)))
    (λ e. rw (e, keep) (omega (arith, length_unpadded s)))

-- A line has its words and a byte behind each.
pub length_line :
    (w : List ℕ) (ws : List (List ℕ))
    → length (line w ws) ≡ length w + 1 + total (each (λ (v : List ℕ). length v + 1) ws)
unfolding line total each
length_line w [] = omega (arith, length-append w (10 ∷ []))
length_line w (n ∷ ws) = omega (arith, length-append w (32 ∷ line n ws), length_line n ws)

-- ---- The bytes of a name that are no padding, counted

counted : (s : List ℕ) (n : ℕ) → fold (λ (a x : ℕ). a + cond (not_space x) 1 0) n s ≡ n + length (unpadded s)
unfolding unpadded keep
counted [] n = omega arith
counted (x ∷ s) n =
    whether (not_space x)
    (λ e. rw (e, keep) (counted s (n + 1) ∙ omega arith))
    (λ e. rw (e, keep) (counted s (n + 0) ∙ omega arith))

pub kept_count : (s : List ℕ) (r : ℕ) → r ≡ count_by not_space s → r ≡ length (unpadded s)
kept_count s r e = e ∙ counted s 0 ∙ omega arith

-- ---- The width of a number

module _ (n : ℕ) where
  reached : (k : ℕ) → ltb n k ≡ false → leb k n ≡ true
  reached k e = le-leb k n (ltb-false n k e)

  short : (j k : ℕ) → ltb n j ≡ true → j ≤ k → leb k n ≡ false
  short j k e h = lt-leb k n (omega (arith, ltb-true n j e))

  pub width_is : 1 + flag (leb 10 n) + flag (leb 100 n) + flag (leb 1000 n) + flag (leb 10000 n) ≡ decimal_width n
  unfolding decimal_width
  width_is =
      whether (ltb n 10) (λ a. simp (a, short 10 10 a (omega arith), short 10 100 a (omega arith), short 10 1000 a (omega arith), short 10 10000 a (omega arith))) (λ a.
      whether (ltb n 100) (λ b. simp (a, b, reached 10 a, short 100 100 b (omega arith), short 100 1000 b (omega arith), short 100 10000 b (omega arith))) (λ b.
      whether (ltb n 1000) (λ c. simp (a, b, c, reached 10 a, reached 100 b, short 1000 1000 c (omega arith), short 1000 10000 c (omega arith))) (λ c.
      whether (ltb n 10000) (λ d. simp (a, b, c, d, reached 10 a, reached 100 b, reached 1000 c, short 10000 10000 d (omega arith))) (λ d.
      simp (a, b, c, d, reached 10 a, reached 100 b, reached 1000 c, reached 10000 d)))))
