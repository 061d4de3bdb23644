-- The numbers of a range that pass a test: which they are, that they rise, that none stands twice, and which is the first.
-- Assumes nothing.
use Prim.Native.Nat.{ℕ, zero, suc, ◌+◌, ◌≤◌, ◌<◌}
use mathlib.Core.Path.{◌≡◌, refl}
use mathlib.Core.Bool.{Bool, true, false, true≢false}
use mathlib.Core.List.{List, [], ◌∷◌}
use native.Mathlib.Omega.{arith}
use lib.ListN.{length}
use lib.Dec.{eqb}
use borrow.Author.Tests.{eqb-true, eqb-false}
use Rattle.mps.specs.Words.{byte, among, twice, none, head, keep, rising}
use Rattle.laws.proofs.Tests.{whether}
use Rattle.laws.proofs.Lists.{among_none, among_first, among_rest, among_cases, at_among, among_at, keep_in, keep_out}

-- ---- Numbers that rise

abbrev pub Rises : List ℕ → Type 0
Rises xs = (i j : ℕ) → i < j → j < length xs → byte xs i < byte xs j

rises_more : (x : ℕ) (xs : List ℕ) → ((y : ℕ) → among y xs ≡ true → x < y) → Rises xs → Rises (x ∷ xs)
rises_more x xs low r i zero h k = absurd (omega arith)
rises_more x xs low r zero (suc j) h k = low (byte xs j) (at_among xs j (omega arith))
rises_more x xs low r (suc i) (suc j) h k = r i j (omega arith) (omega arith)

pub rises_apart : (xs : List ℕ) → Rises xs → twice xs ≡ false
unfolding twice
rises_apart [] r = refl
rises_apart (x ∷ xs) r =
    whether (among x xs)
    (λ a. let p = among_at x xs a in absurd (omega (arith, r 0 (suc p.0) (omega arith) (omega (arith, p.1)), p.2)))
    (λ a. rw (a, rises_apart xs (λ i j h k. r (suc i) (suc j) (omega arith) (omega arith))))

-- ---- Those of a range that pass

module _ (p : ℕ → Bool) where
  none_kept : (x : ℕ) → among x (keep p []) ≡ true → ⊥
  unfolding keep
  none_kept x a = among_none x a

  none_rises : Rises (keep p [])
  unfolding keep
  none_rises i j h k = absurd (omega arith)

  pub sieve_in : (n k x : ℕ) → among x (keep p (rising n k)) ≡ true → (k ≤ x) × (x < k + n) × (p x ≡ true)
  unfolding rising
  sieve_in zero k x a = absurd (none_kept x a)
  sieve_in (suc n) k x a =
      let rest = rising n (suc k) in
      whether (p k)
      (λ t. among_cases x k (keep p rest) (rw (keep_in p k rest t) at a)
      (λ q. (omega arith, omega arith, rw q t))
      (λ b. let r = sieve_in n (suc k) x b in (omega (arith, r.0), omega (arith, r.1), r.2)))
      (λ f. let r = sieve_in n (suc k) x (rw (keep_out p k rest f) at a) in (omega (arith, r.0), omega (arith, r.1), r.2))

  pub sieve_has : (n k x : ℕ) → k ≤ x → x < k + n → p x ≡ true → among x (keep p (rising n k)) ≡ true
  unfolding rising
  sieve_has zero k x a b e = absurd (omega (arith, a, b))
  sieve_has (suc n) k x a b e =
      let rest = rising n (suc k) in
      whether (eqb x k)
      (λ q. let same = eqb-true x k q in rw (keep_in p k rest (rw same at e)) (among_first x k (keep p rest) same))
      (λ q. let else = eqb-false x k q in
      let r = sieve_has n (suc k) x (omega (arith, a, else)) (omega (arith, b)) e in
      whether (p k) (λ t. rw (keep_in p k rest t) (among_rest x k (keep p rest) r)) (λ f. rw (keep_out p k rest f) r))

  pub sieve_rises : (n k : ℕ) → Rises (keep p (rising n k))
  unfolding rising
  sieve_rises zero k = none_rises
  sieve_rises (suc n) k =
      let rest = rising n (suc k) in
      whether (p k)
      (λ t. rw (keep_in p k rest t) (rises_more k (keep p rest) (λ y a. (sieve_in n (suc k) y a).0) (sieve_rises n (suc k))))
      (λ f. rw (keep_out p k rest f) (sieve_rises n (suc k)))

  -- The first that passes, k + n where none does: it passes, none before it does, and where some pass it is below k + n.
  pub sieve_first :
      (n k : ℕ) → let x = head (k + n) (keep p (rising n k)) in
      (x ≤ k + n) × (x < k + n → p x ≡ true) × ((y : ℕ) → k ≤ y → y < x → p y ≡ false) × (none (keep p (rising n k)) ≡ false → x < k + n)
  unfolding keep rising
  sieve_first zero k =
      (omega arith, λ h. absurd (omega (arith, h)), λ y a h. absurd (omega (arith, a, h)), λ e. absurd (true≢false e))
  sieve_first (suc n) k =
      whether (p k)
      (λ t. rw (keep_in p k (rising n (suc k)) t) (omega arith, λ h. t, λ y a h. absurd (omega (arith, a, h)), λ e. omega arith))
      (λ f. let end : k + suc n ≡ suc k + n = omega arith in
      let rest = sieve_first n (suc k) in
      rw (keep_out p k (rising n (suc k)) f, end) (
        rest.0,
        rest.1,
        λ y a h. whether (eqb y k) (λ e. rw (eqb-true y k e) f) (λ e. rest.2 y (omega (arith, a, eqb-false y k e)) h),
        rest.3,
      ))
