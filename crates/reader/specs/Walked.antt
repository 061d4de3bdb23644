-- What the reader does at a place of any buffer: it gives an entry or stays. And what it hands out on its way from one
-- place to another.
use Rattle.std.specs.Prelude.{ℕ, ◌+◌, ◌≤◌, ◌<◌, ◌≡◌, List, [], ◌∷◌, length, take, drop, Some, None}
use Rattle.mps.specs.Layout.{Entry}
use Rattle.mps.specs.Reader.{entry_at, next_place, found}

-- "gives no entry and stays"
pub record Stays (t : List ℕ) (place : ℕ) : Type 0 where
  pub none : found t place ≡ None
  pub empty : entry_at t place ≡ []
  pub same : next_place t place ≡ place

-- The n bytes at a place are given, all of them in the buffer, and the next place is the one after them.
pub record Gives (t : List ℕ) (place n : ℕ) : Type 0 where
  pub more : 0 < n
  pub some : found t place ≡ Some n
  pub bytes : entry_at t place ≡ take n (drop place t)
  pub next : next_place t place ≡ place + n
  pub inside : place + n ≤ length t

-- From one place to another the reader hands out these entries, in this order.
pub data Reads : List ℕ → ℕ → List Entry → ℕ → Type 0 where
  reads_none : {t : List ℕ} {p : ℕ} → Reads t p [] p
  reads_more :
      {t : List ℕ} {p n q : ℕ} {es : List Entry} → Gives t p n → Reads t (p + n) es q
      → Reads t p (take n (drop p t) ∷ es) q
