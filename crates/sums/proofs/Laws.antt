-- Laws of the checksum, for lists of any length. Assumes nothing.
use Rattle.std.proofs.Common.{◌≡◌, ℕ, zero, suc, ◌+◌, ◌-◌, ◌%◌, ◌<◌, ◌≤◌, List, [], ◌∷◌, ◌++◌, length, get_or, take, drop, set, replicate, refl, ◌∙◌, le_of_suc-le-suc, not-suc-le-zero, add-one, arith, length-set, drop_of_length-le, drop-cons, drop-set-lt}
use lib.Seq.{sets, length-sets}
use Rattle.mps.specs.Sums.{total, sum256, to_store}

-- ---- total

-- One byte of what is left.
pub total_at : (s : List ℕ) (i : ℕ) → i < length s → total (drop i s) ≡ get_or s i 0 + total (drop (i + 1) s)
unfolding total
total_at s i h = rw (add-one, drop-cons s i 0)

-- Nothing is left.
pub total_done : (s : List ℕ) (i : ℕ) → length s ≤ i → total (drop i s) ≡ 0
unfolding total
total_done s i h = rw drop_of_length-le

pub total_append : (a b : List ℕ) → total (a ++ b) ≡ total a + total b
unfolding total
total_append [] b = omega arith
total_append (x ∷ a) b = omega (arith, total_append a b)

-- One byte replaced: the old one goes, the new one comes.
pub total_set : (s : List ℕ) (i v : ℕ) → i < length s → total (set s i v) + get_or s i 0 ≡ total s + v
unfolding total
total_set [] i v h = absurd (not-suc-le-zero h)
total_set (x ∷ s) zero v h = omega arith
total_set (x ∷ s) (suc i) v h = omega (arith, total_set s i v (le_of_suc-le-suc h))

-- A part exchanged: its sum goes, the new one's comes.
pub total_sets :
    (s : List ℕ) (at : ℕ) (w : List ℕ) → at + length w ≤ length s
    → total (sets s at w) + total (take (length w) (drop at s)) ≡ total s + total w
unfolding total
total_sets s at [] h = refl
total_sets s at (x ∷ w) h =
    let rest = total_sets (set s at x) (suc at) w (rw (length-set s at x) (omega arith)) in
    let same : drop (suc at) (set s at x) ≡ drop (suc at) s = drop-set-lt (suc at) s at x (omega arith) in
    rw (drop-cons s at 0 (omega arith)) (omega (arith, rw same at rest, total_set s at x (omega arith)))

pub total_zeros : (n : ℕ) → total (replicate n 0) ≡ 0
unfolding total
total_zeros zero = refl
total_zeros (suc n) = omega (arith, total_zeros n)

-- ---- sum256

mod_plus : (a b : ℕ) → (a % 256 + b % 256) % 256 ≡ (a + b) % 256
mod_plus a b = omega arith

pub sum_append : (a b : List ℕ) → sum256 (a ++ b) ≡ (sum256 a + sum256 b) % 256
unfolding sum256
sum_append a b = omega (arith, total_append a b)

pub sum_set : (s : List ℕ) (i v : ℕ) → i < length s → (sum256 (set s i v) + get_or s i 0) % 256 ≡ (sum256 s + v) % 256
unfolding sum256
sum_set s i v h = omega (arith, total_set s i v h)

-- The sum after a part is exchanged, from the sum before and both parts' sums.
pub sum_sets :
    (s : List ℕ) (at : ℕ) (w : List ℕ) → at + length w ≤ length s
    → (sum256 (sets s at w) + sum256 (take (length w) (drop at s))) % 256 ≡ (sum256 s + sum256 w) % 256
unfolding sum256
sum_sets s at w h =
    rw (mod_plus (total (sets s at w)) (total (take (length w) (drop at s))), mod_plus (total s) (total w), total_sets s at w h)

-- ---- to_store

-- With the byte to store at place i the list sums to 0, whatever stood there.
pub stored_sum : (s : List ℕ) (i x : ℕ) → i < length s → x ≡ sum256 (set s i 0) → sum256 (set s i (to_store x)) ≡ 0
unfolding sum256 to_store
stored_sum s i x h e = omega (arith, total_set s i 0 h, total_set s i ((256 - x % 256) % 256) h, e)

-- With the byte to store beside it the list sums to 0.
pub stored_append : (s : List ℕ) (x : ℕ) → sum256 s ≡ x → sum256 (to_store x ∷ s) ≡ 0
unfolding sum256 total to_store
stored_append s x e = omega arith

-- The byte to store is the one with which the bytes sum to 0.
pub stored_is : (s : List ℕ) (x : ℕ) → x < 256 → sum256 (x ∷ s) ≡ 0 → to_store (sum256 s) ≡ x
unfolding sum256 total to_store
stored_is s x h e = omega arith

-- The same of numbers: w and its byte to store add to 0, and y is the byte to store beside x where they do.
mod_stored : (w : ℕ) → (w + (256 - w % 256) % 256) % 256 ≡ 0
mod_stored w = omega arith

mod_brings : (x y : ℕ) → (x + y) % 256 ≡ 0 → (256 - x % 256) % 256 ≡ y % 256
mod_brings x y e = omega arith

mod_more : (a b c : ℕ) → a % 256 ≡ b % 256 → (a + c) % 256 ≡ (b + c) % 256
mod_more a b c e = omega arith

-- The byte to store after a part of bytes that sum to 0 is exchanged, from the byte before and both parts' sums.
pub stored_sets :
    (s : List ℕ) (i at : ℕ) (w : List ℕ) → i < length s → get_or (sets s at w) i 0 ≡ get_or s i 0 → at + length w ≤ length s → sum256 s ≡ 0
    → to_store (sum256 (set (sets s at w) i 0))
    ≡ (get_or s i 0 + sum256 (take (length w) (drop at s)) + to_store (sum256 w)) % 256
unfolding sum256 to_store
stored_sets s i at w h k f e =
    let v = sets s at w in
    let old = get_or s i 0 in
    let part = sum256 (take (length w) (drop at s)) in
    let x = sum256 (set v i 0) in
    let y = to_store (sum256 w) in
    let without : (x + old) % 256 ≡ (sum256 v + 0) % 256 = rw k at (sum_set v i 0 (rw (length-sets s at w) h)) in
    let all : (sum256 v + part) % 256 ≡ (0 + sum256 w) % 256 = rw e at (sum_sets s at w f) in
    let sum : (x + old + part) % 256 ≡ (sum256 v + 0 + part) % 256 = mod_more (x + old) (sum256 v + 0) part without in
    let same : sum256 v + 0 + part ≡ sum256 v + part = omega arith in
    let zero : (x + old + part + y) % 256 ≡ (0 + sum256 w + y) % 256 =
    mod_more (x + old + part) (0 + sum256 w) y (sum ∙ rw same all) in
    let shape : x + (old + part + y) ≡ x + old + part + y = omega arith in
    let plain : 0 + sum256 w + y ≡ sum256 w + y = omega arith in
    mod_brings x (old + part + y) (rw shape (zero ∙ rw plain (mod_stored (sum256 w))))
