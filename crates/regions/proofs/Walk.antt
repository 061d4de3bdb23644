-- Laws of the rows of the contents, for a walk along them. Assumes nothing.
use Prim.Native.Nat.{ℕ, zero, suc, ◌+◌, ◌-◌, ◌*◌, ◌/◌, ◌≤◌, ◌<◌}
use mathlib.Core.Path.{◌≡◌, refl, ◌∙◌}
use mathlib.Core.List.{List, [], ◌∷◌}
use native.Mathlib.Omega.{arith}
use lib.ListN.{length, take, drop, length-drop}
use lib.Seq.{get_or-take, length-take-le}
use Rattle.std.proofs.lemmas.List.{drop-take}
use borrow.Author.Tests.{le-leb, lt-leb}
use Rattle.mps.specs.Layout.{region_count, row_length, row_size}
use Rattle.mps.specs.Dump.{regions_from, regions, contents_end}
use Rattle.mps.specs.declared.Region.{Region}
use Rattle.numbers.proofs.Laws.{le_take}
use Rattle.regions.specs.Regions.{row_of}
use Rattle.regions.specs.Walk.{rows_from, listed}
use Rattle.regions.proofs.Coded.{row_nine}

-- Fewer than nine bytes have no row.
pub rows_none : (offset : ℕ) (s : List ℕ) → length s < row_length → rows_from offset s ≡ []
unfolding rows_from regions_from
rows_none offset s h = let e : length s / row_length ≡ 0 = omega (arith, h) in rw e

-- The region of the first nine, and those behind it.
pub rows_more :
    (offset : ℕ) (s first rest : List ℕ) {r : Region} → first ≡ take row_length s → rest ≡ drop row_length s
    → row_length ≤ length s → r ≡ row_of offset first → rows_from offset s ≡ r ∷ rows_from (offset + r.size) rest
unfolding rows_from regions_from row_of
rows_more offset s first rest {r} f l h e =
    let n : length s / row_length ≡ suc (length (drop row_length s) / row_length) = omega (arith, length-drop row_length s) in
    let read : r ≡ row_of offset s = e ∙ rw f (row_nine offset s) in
    rw (read, l, n)

-- ---- The rows of a dump

-- Bytes behind the rows change nothing.
rows_cut : (n offset : ℕ) (s : List ℕ) → regions_from n offset (take (row_length * n) s) ≡ regions_from n offset s
unfolding regions_from
rows_cut zero offset s = refl
rows_cut (suc n) offset s =
    let more : row_length * suc n ≡ row_length + row_length * n = omega arith in
    let k = row_length * suc n in
    rw (
      get_or-take k s 0 0 (omega arith),
      le_take 4 k s 1 (omega arith),
      le_take 4 k s 5 (omega arith),
      more,
      drop-take row_length (row_length * n) s,
      rows_cut n (offset + row_size s) (drop row_length s),
    )

-- Where they are all there.
pub listed_whole : (d : List ℕ) (offset : ℕ) → offset ≡ contents_end d → offset ≤ length d → rows_from offset (take (offset - 1) (drop 1 d)) ≡ listed d
unfolding rows_from listed regions
listed_whole d offset e h =
    let n = region_count d in
    let bytes : offset - 1 ≡ row_length * n = omega (arith, e) in
    let count : length (take (row_length * n) (drop 1 d)) ≡ row_length * n = length-take-le (row_length * n) (drop 1 d) (omega (arith, length-drop 1 d, e, h)) in
    let some : row_length * n / row_length ≡ n = omega arith in
    rw (bytes, count, some, rows_cut n offset (drop 1 d), le-leb (contents_end d) (length d) (omega arith), e)

-- .. and where they are not.
pub listed_not : (d : List ℕ) (offset : ℕ) → offset ≡ contents_end d → length d < offset → rows_from offset [] ≡ listed d
unfolding rows_from listed regions_from
listed_not d offset e h = rw (lt-leb (contents_end d) (length d) (omega arith))
