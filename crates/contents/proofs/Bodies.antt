-- Laws of `regions`, the rows of the contents, and of where their bodies stand. Assumes nothing.
use Prim.Native.Nat.{ℕ, zero, suc, ◌+◌, ◌≤◌}
use mathlib.Core.Path.{◌≡◌, refl, ap}
use mathlib.Core.Bool.{Bool, true}
use mathlib.Core.List.{List}
use native.Mathlib.Omega.{arith}
use lib.ListN.{length, drop}
use lib.Dec.{leb}
use borrow.Author.Tests.{le-leb}
use Rattle.mps.specs.Words.{every, each}
use Rattle.mps.specs.Sums.{total}
use Rattle.mps.specs.Layout.{region_count, row_length, row_size}
use Rattle.mps.specs.Dump.{regions_from, regions, contents_end, size_of}
use Rattle.mps.specs.declared.Region.{Region}
use Rattle.contents.specs.Steps.{last_end}

-- ---- As many as byte 0 says

rows_length : (n offset : ℕ) (s : List ℕ) → length (regions_from n offset s) ≡ n
unfolding regions_from
rows_length zero offset s = refl
rows_length (suc n) offset s = ap suc (rows_length n (offset + row_size s) (drop row_length s))

pub regions_length : (d : List ℕ) → length (regions d) ≡ region_count d
unfolding regions
regions_length d = rows_length (region_count d) (contents_end d) (drop 1 d)

-- ---- No body ends behind the last

-- A body that ends at or before a place.
abbrev pub before : ℕ → Region → Bool
before end r = leb (r.offset + r.size) end

rows_before :
    (n offset : ℕ) (s : List ℕ) (end : ℕ) → offset + total (each size_of (regions_from n offset s)) ≤ end
    → every (before end) (regions_from n offset s) ≡ true
unfolding regions_from total each every
rows_before zero offset s end h = refl
rows_before (suc n) offset s end h =
    rw (le-leb (offset + row_size s) end (omega arith)) (rows_before n (offset + row_size s) (drop row_length s) end (omega arith))

pub regions_before : (d : List ℕ) (end : ℕ) → last_end d ≤ end → every (before end) (regions d) ≡ true
unfolding regions
regions_before d end h = rows_before (region_count d) (contents_end d) (drop 1 d) end h

-- ---- The contents stand before every body

-- A body that does not begin the dump.
abbrev pub behind : Region → Bool
behind r = leb 1 r.offset

rows_behind : (n offset : ℕ) (s : List ℕ) → 1 ≤ offset → every behind (regions_from n offset s) ≡ true
unfolding regions_from every
rows_behind zero offset s h = refl
rows_behind (suc n) offset s h =
    rw (le-leb 1 offset h) (rows_behind n (offset + row_size s) (drop row_length s) (omega arith))

pub regions_behind : (d : List ℕ) → every behind (regions d) ≡ true
unfolding regions
regions_behind d = rows_behind (region_count d) (contents_end d) (drop 1 d) (omega arith)
