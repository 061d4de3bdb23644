-- The rows of a book in chains, by their machines. A row is told by its number from 1 on, and 0 tells of none.
use Rattle.std.specs.Prelude.{ℕ, zero, suc, ◌%◌, ◌<◌, ◌≡◌, cond, List, get_or, eqb}
use Rattle.mps.specs.Layout.{machine_at}
use Rattle.mps.specs.Book.{layout1}
use Rattle.pages.specs.Pages.{row_place}

abbrev pub chain_count : ℕ
chain_count = 4096

-- The chain of a machine. That it is one of so many is all that is used of it.
unfoldable pub chain_of : ℕ → ℕ
chain_of machine = machine % chain_count

-- The chain of the row behind so many.
abbrev pub chain_at : List ℕ → ℕ → ℕ
chain_at s k = chain_of (machine_at s (row_place layout1 k))

-- The last row of a chain, among so many rows.
unfoldable pub last_in : List ℕ → ℕ → ℕ → ℕ
last_in s chain zero = 0
last_in s chain (suc k) = cond (eqb (chain_at s k) chain) (suc k) (last_in s chain k)

-- Each of so many rows has beside it the last one before it of its chain.
abbrev pub Linked : List ℕ → List ℕ → ℕ → Type 0
Linked s before n = (k : ℕ) → k < n → get_or before k 0 ≡ last_in s (chain_at s k) k
