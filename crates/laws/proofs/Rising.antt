-- Laws of `rising`, so many numbers from one on, and of `below`. Assumes nothing.
use Prim.Native.Nat.{ℕ, zero, suc, ◌+◌, ◌*◌, ◌≤◌, ◌<◌}
use mathlib.Core.Path.{◌≡◌, refl, sym, ap, ◌∙◌}
use mathlib.Core.Bool.{Bool, true, false, ◌||◌}
use mathlib.Core.List.{List, ◌∷◌, ◌++◌}
use native.Mathlib.Omega.{arith}
use native.Mathlib.Nat.{zero-add, add-zero, add-suc, suc-add, add_comm, zero-mul, suc-mul}
use lib.ListN.{length, drop}
use lib.Dec.{eqb}
use borrow.Author.Tests.{ne_eqb, eqb-true, eqb-false}
use Rattle.mps.specs.Words.{among, keep, head, each, joined, rising, below}
use Rattle.laws.proofs.Tests.{whether}
use Rattle.laws.proofs.Lists.{among_first, among_rest, keep_in, keep_out}
use Rattle.laws.proofs.Joined.{joined_append}

pub length_rising : (n k : ℕ) → length (rising n k) ≡ n
unfolding rising
length_rising zero k = refl
length_rising (suc n) k = ap suc (length_rising n (suc k))

-- Each from the first one on is among them.
pub among_rising : (n k x : ℕ) → k ≤ x → x < k + n → among x (rising n k) ≡ true
unfolding rising
among_rising zero k x l h = absurd (omega (arith, l, h))
among_rising (suc n) k x l h =
    whether (eqb x k)
    (λ q. among_first x k (rising n (suc k)) (eqb-true x k q))
    (λ q. among_rest x k (rising n (suc k)) (among_rising n (suc k) x (omega (arith, l, eqb-false x k q)) (omega (arith, h))))

-- The first ones, and those behind them.
pub rising_append : (a b k : ℕ) → rising (a + b) k ≡ rising a k ++ rising b (a + k)
unfolding rising
rising_append zero b k = rw (zero-add b, zero-add k)
rising_append (suc a) b k =
    rw (suc-add a b, suc-add a k, ← add-suc a k) (ap (λ (l : List ℕ). k ∷ l) (rising_append a b (suc k)))

-- ---- Two functions, or two tests, that agree on those numbers

pub joined_rising :
    {B : Type 0} (f g : ℕ → List B) (n k : ℕ) → ((x : ℕ) → k ≤ x → x < k + n → f x ≡ g x) → joined f (rising n k) ≡ joined g (rising n k)
unfolding rising joined
joined_rising f g zero k h = refl
joined_rising f g (suc n) k h = rw (h k (omega arith) (omega arith), joined_rising f g n (suc k) (λ x a b. h x (omega arith) (omega arith)))

pub keep_rising :
    (p q : ℕ → Bool) (n k : ℕ) → ((x : ℕ) → k ≤ x → x < k + n → p x ≡ q x) → keep p (rising n k) ≡ keep q (rising n k)
unfolding rising keep
keep_rising p q zero k h = refl
keep_rising p q (suc n) k h = rw (h k (omega arith) (omega arith), keep_rising p q n (suc k) (λ x a b. h x (omega arith) (omega arith)))

-- Two functions that give the same of all these numbers give the same of any one.
pub each_rising : {A : Type 0} (f g : ℕ → A) (n k x : ℕ) → each f (rising n k) ≡ each g (rising n k) → k ≤ x → x < k + n → f x ≡ g x
unfolding rising each
each_rising f g zero k x e l h = absurd (omega (arith, l, h))
each_rising f g (suc n) k x e l h =
    whether (eqb x k)
    (λ q. rw (eqb-true x k q) (ap (head (f k)) e))
    (λ q. each_rising f g n (suc k) x (ap (drop 1) e) (omega (arith, l, eqb-false x k q)) (omega (arith, h)))

-- ---- Blocks of m numbers

joined_shift : {B : Type 0} (f : ℕ → List B) (a n k : ℕ) → joined f (rising n (a + k)) ≡ joined (λ (x : ℕ). f (a + x)) (rising n k)
unfolding rising joined
joined_shift f a zero k = refl
joined_shift f a (suc n) k = rw (← add-suc a k, joined_shift f a n (suc k))

module _ {B : Type 0} (f : ℕ → List B) (m : ℕ) where
  abbrev block : ℕ → List B
  block a = joined (λ (b : ℕ). f (a * m + b)) (below m)

  blocks : (n k : ℕ) → joined f (rising (n * m) (k * m)) ≡ joined block (rising n k)
  unfolding rising joined
  blocks zero k = rw (zero-mul m)
  blocks (suc n) k =
      let more : suc n * m ≡ m + n * m = suc-mul n m ∙ add_comm (n * m) m in
      let next : m + k * m ≡ suc k * m = add_comm m (k * m) ∙ sym (suc-mul k m) in
      let own : joined f (rising m (k * m)) ≡ block k = rw (add-zero (k * m)) at (joined_shift f (k * m) m 0) in
      rw (more, rising_append m (n * m) (k * m), joined_append f (rising m (k * m)) (rising (n * m) (m + k * m)), next, own, blocks n (suc k))

  pub joined_blocks : (n : ℕ) → joined f (below (n * m)) ≡ joined block (below n)
  joined_blocks n = rw (zero-mul m) at (blocks n 0)

-- ---- A test that passes one number more

module _ (p q : ℕ → Bool) (x : ℕ) (one : (y : ℕ) → q y ≡ (eqb y x || p y)) where
  other : (y : ℕ) → (y ≡ x → ⊥) → q y ≡ p y
  other y n = one y ∙ rw (ne_eqb y x n)

  pub keep_more : (n k : ℕ) → k ≤ x → x < k + n → p x ≡ false → length (keep q (rising n k)) ≡ length (keep p (rising n k)) + 1
  unfolding rising
  keep_more zero k a b e = absurd (omega (arith, a, b))
  keep_more (suc n) k a b e =
      whether (eqb k x)
      (λ t. let same = eqb-true k x t in
      let here : q k ≡ true = one k ∙ rw t in
      let rest = keep_rising q p n (suc k) (λ y c d. other y (λ z. omega (arith, same, z, c))) in
      rw (keep_in q k (rising n (suc k)) here, keep_out p k (rising n (suc k)) (rw same e), rest) (omega arith))
      (λ f. let else = eqb-false k x f in
      let rest = keep_more n (suc k) (omega (arith, a, else)) (omega (arith, b)) e in
      whether (p k)
      (λ t. rw (keep_in q k (rising n (suc k)) (other k else ∙ t), keep_in p k (rising n (suc k)) t) (omega (arith, rest)))
      (λ t. rw (keep_out q k (rising n (suc k)) (other k else ∙ t), keep_out p k (rising n (suc k)) t) rest))

  -- And one that passed already adds none.
  pub keep_again : (n k : ℕ) → p x ≡ true → keep q (rising n k) ≡ keep p (rising n k)
  keep_again n k e =
      keep_rising q p n k
      (λ y a b. whether (eqb y x) (λ t. one y ∙ rw (t, eqb-true y x t, e)) (λ f. one y ∙ rw f))
