-- Runs of entries of one type: what is the same in the base and in the extended part. Document 01, "The table": "types
-- ascending".
use Rattle.std.specs.Prelude.{ℕ, ◌+◌, ◌≤◌, ◌≡◌, Bool, cond, ◌&&◌, List, [], ◌∷◌, length, drop, eqb}
use Rattle.mps.specs.Words.{each, cut}
use Rattle.mps.specs.Sums.{total}
use Rattle.mps.specs.Layout.{Entry, of_type, processor_size, entry_size}

-- The bytes that entries of a known type take: 20 those of the first type of a part, 8 those of each other. MPS Tables 4-3
-- and 4-13.
abbrev pub size_of : ℕ → ℕ
size_of k = cond (eqb k 0) processor_size entry_size

-- How many bytes entries take.
unfoldable pub bytes : List Entry → ℕ
bytes es = total (each length es)

module _ (own : Entry → ℕ) (kind : ℕ) where
  -- Whether an entry is of a type, and has no fault by itself.
  unfoldable pub one : Entry → Bool
  one e = of_type kind e && eqb (own e) 0

  -- The entries of a list up to the first that is not so.
  unfoldable pub lead : List Entry → List Entry
  lead [] = []
  lead (e ∷ es) = cond (one e) (e ∷ lead es) []

  -- That one, and all behind it.
  unfoldable pub rest : List Entry → List Entry
  rest [] = []
  rest (e ∷ es) = cond (one e) (rest es) (e ∷ es)

  -- Where a run from a place ends: behind the entries that lead there, and what is cut from its end on is the rest.
  pub record Ran (len : List ℕ → ℕ) (s : List ℕ) (at end : ℕ) : Type 0 where
    pub place : end ≡ at + bytes (lead (cut len 0 (drop at s)))
    pub behind : cut len 0 (drop end s) ≡ rest (cut len 0 (drop at s))
    pub fits : end ≤ length s
