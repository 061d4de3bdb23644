-- What callers may use of the regions of a dump. Assumes nothing.
use Prim.Native.Nat.{ℕ, zero, suc, ◌+◌, ◌≤◌, ◌<◌}
use mathlib.Core.Path.{◌≡◌, refl, sym}
use mathlib.Core.Bool.{true}
use mathlib.Core.List.{List, [], ◌∷◌}
use native.Mathlib.Omega.{arith}
use lib.ListN.{length, take}
use lib.Dec.{eqb, leb, ltb}
use borrow.Author.Tests.{ltb-true, leb-true, le-leb, ne_eqb}
use Rattle.mps.specs.Words.{only, keep, any, every}
use Rattle.mps.specs.Layout.{regions_most, region_count}
use Rattle.mps.specs.Dump.{of_kind, end_of, contents_end, regions, sound_dump, holding, holds, no_region}
use Rattle.mps.specs.declared.Region.{Region}
use Rattle.laws.proofs.Tests.{whether, and_parts}
use Rattle.laws.proofs.Lists.{keep_in, keep_out}
use Rattle.regions.specs.Regions.{blank, eight, first_of_kind}
use Rattle.regions.specs.Walk.{listed}
use Rattle.regions.proofs.Coded.{holding_blank}
use Rattle.regions.proofs.Firsts.{first_all}
use Rattle.regions.proofs.Eight.{first_eight}
use Rattle.contents.proofs.Once.{kind_alone}
use Rattle.contents.proofs.Bodies.{regions_length, before, regions_before, behind, regions_behind}
use Rattle.contents.proofs.Rules.{sound_parts}

-- ---- The search over eight records answers as over the regions

pub holding_eight : (address : ℕ) (rs : List Region) → length rs ≤ regions_most → holding address (take 8 (eight rs)) ≡ holding address rs
unfolding holding
holding_eight address rs h = first_eight rs h (holds address) (no_region address) (holding_blank address)

-- ---- The first region of a kind

pub kind_listed : (k : ℕ) (rs : List Region) → 0 < k → any (of_kind k) rs ≡ eqb (first_of_kind k rs).kind k
unfolding any first_of_kind keep
kind_listed k [] h = sym (ne_eqb 0 k (λ e. omega (arith, e)))
kind_listed k (r ∷ rs) h =
    whether (of_kind k r)
    (λ t. rw (keep_in (of_kind k) r rs t, t))
    (λ t. rw (keep_out (of_kind k) r rs t, t) (kind_listed k rs h))

-- ---- A sound dump

pub sound_count : (d : List ℕ) → sound_dump d ≡ true → length (regions d) ≤ regions_most
sound_count d e = let r = sound_parts d e in omega (arith, regions_length d, r.count)

-- Its rows stand inside it.
pub sound_rows : (d : List ℕ) → sound_dump d ≡ true → (region_count d ≤ regions_most) × (contents_end d ≤ length d)
sound_rows d e = let r = sound_parts d e in (r.count, omega (arith, r.ends))

-- So they all are listed.
pub sound_listed : (d : List ℕ) → sound_dump d ≡ true → listed d ≡ regions d
unfolding listed
sound_listed d e = rw (le-leb (contents_end d) (length d) (sound_rows d e).1)

pub sound_kind :
    (d : List ℕ) (k : ℕ) → sound_dump d ≡ true → 1 ≤ k → k ≤ 3
    → keep (of_kind k) (regions d) ≡ only (any (of_kind k) (regions d)) (first_of_kind k (regions d) ∷ [])
sound_kind d k e l h = kind_alone k (regions d) (rw (le-leb 1 k l, le-leb k 3 h)) (sound_parts d e).once

-- Its bodies stand inside it, and so does a region of no byte.
bodies : (d : List ℕ) → sound_dump d ≡ true → every (before (length d)) (regions d) ≡ true
bodies d e = let r = sound_parts d e in regions_before d (length d) (omega (arith, r.ends))

pub kind_inside :
    (d : List ℕ) (k : ℕ) → sound_dump d ≡ true
    → (first_of_kind k (regions d)).offset + (first_of_kind k (regions d)).size ≤ length d
unfolding first_of_kind
kind_inside d k e =
    first_all (of_kind k) blank (before (length d)) (λ r. r.offset + r.size ≤ length d) (omega arith)
    (λ r t b. leb-true (r.offset + r.size) (length d) b) (regions d) (bodies d e)

pub holding_inside :
    (d : List ℕ) (a : ℕ) → sound_dump d ≡ true
    → ((holding a (regions d)).offset + (holding a (regions d)).size ≤ length d)
    × ((holding a (regions d)).base ≤ a)
    × (a ≤ (holding a (regions d)).base + (holding a (regions d)).size)
unfolding holding holds
holding_inside d a e =
    first_all (holds a) (no_region a) (before (length d))
    (λ r. (r.offset + r.size ≤ length d) × (r.base ≤ a) × (a ≤ r.base + r.size))
    (omega arith, omega arith, omega arith)
    (λ r t b.
    let h = and_parts (leb r.base a) (ltb a (end_of r)) t in
    let over = ltb-true a (end_of r) h.1 in
    (leb-true (r.offset + r.size) (length d) b, leb-true r.base a h.0, omega arith))
    (regions d) (bodies d e)

-- A body is shorter than its dump: the contents stand before it.
shorter : (offset size n : ℕ) → (offset ≡ 0 → size ≡ 0) → offset + size ≤ n → 1 ≤ n → size < n
shorter zero size n f h k = omega (arith, f refl)
shorter (suc offset) size n f h k = omega arith

pub holding_shorter : (d : List ℕ) (a : ℕ) → sound_dump d ≡ true → (holding a (regions d)).size < length d
unfolding holding
holding_shorter d a e =
    let r = holding a (regions d) in
    let some =
    first_all (holds a) (no_region a) behind (λ (q : Region). q.offset ≡ 0 → q.size ≡ 0) (λ z. refl)
    (λ q t b z. absurd (omega (arith, leb-true 1 q.offset b, z)))
    (regions d) (regions_behind d) in
    shorter r.offset r.size (length d) some (holding_inside d a e).0 (sound_parts d e).some
