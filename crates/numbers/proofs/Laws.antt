-- Laws of little-endian numbers, for any width. Assumes nothing.
use Prim.Native.Nat.{ℕ, zero, suc, ◌+◌, ◌-◌, ◌*◌, ◌/◌, ◌%◌, ◌^◌, ◌<◌, ◌≤◌}
use mathlib.Core.Path.{◌≡◌, refl, ap, sym, ◌∙◌}
use mathlib.Core.List.{List, [], ◌∷◌, ◌++◌, append_assoc, append-nil}
use native.Mathlib.Omega.{arith}
use native.Mathlib.Numerals.{add-one}
use native.Mathlib.Nat.{zero-add, add-zero, suc-add, add_assoc, mul_assoc, lt_of_lt_of_le, one-le-pow, pow-le-pow_right, pow-suc, pow-succ', div-div-eq-div-mul, div-one}
use lib.Arith.{mod-mul}
use lib.ListN.{length, get_or, take, drop, set, get_or-eq_default}
use Rattle.std.specs.Int.{w16, w32, w64, from_le_bytes, to_le_bytes, byte_at, bytes_low_first}
use lib.Seq.{drop-append_seam, drop-cons, get_or-drop, get_or-take, length-take-le, take_all, sets, sets-eq}
use Rattle.mps.specs.Numbers.{le, bytes}
use Rattle.laws.proofs.Stores.{sets_take, sets_past}
use Rattle.laws.proofs.Parts.{alike}

-- ---- le

-- A number of j + k bytes is its low j bytes and its high k bytes.
pub le_split : (j k : ℕ) (s : List ℕ) (at : ℕ) → le (j + k) s at ≡ le j s at + 256 ^ j * le k s (at + j)
unfolding le
le_split zero k s at = rw (zero-add k, add-zero) (omega arith)
le_split (suc j) k s at =
    let e : at + 1 + j ≡ at + suc j = omega arith in
    rw (suc-add, le_split j k s (at + 1), e, pow-succ', mul_assoc) (omega arith)

pub le_two : (s : List ℕ) (at : ℕ) → le 2 s at ≡ get_or s at 0 + get_or s (at + 1) 0 * 256
unfolding le
le_two s at = omega arith

pub le_four : (s : List ℕ) (at : ℕ) → le 4 s at ≡ le 2 s at + le 2 s (at + 2) * 65536
le_four s at = omega (arith, le_split 2 2 s at)

pub le_eight : (s : List ℕ) (at : ℕ) → le 8 s at ≡ le 4 s at + le 4 s (at + 4) * 4294967296
le_eight s at = omega (arith, le_split 4 4 s at)

-- One byte below the k - i bytes that stand from at + i on.
pub le_next : (k i : ℕ) (s : List ℕ) (at : ℕ) → 0 < i → i ≤ k → le (k - (i - 1)) s (at + (i - 1)) ≡ get_or s (at + (i - 1)) 0 + 256 * le (k - i) s (at + i)
unfolding le
le_next k i s at h g =
    let e : k - (i - 1) ≡ suc (k - i) = omega arith in
    let f : at + (i - 1) + 1 ≡ at + i = omega arith in
    rw (e, f)

pub le_drop : (k a : ℕ) (s : List ℕ) (at : ℕ) → le k (drop a s) at ≡ le k s (a + at)
unfolding le
le_drop zero a s at = refl
le_drop (suc k) a s at = rw (get_or-drop, le_drop k a s (at + 1), add_assoc)

pub le_take : (k n : ℕ) (s : List ℕ) (at : ℕ) → at + k ≤ n → le k (take n s) at ≡ le k s at
unfolding le
le_take zero n s at h = refl
le_take (suc k) n s at h = rw (get_or-take n s at 0 (omega arith), le_take k n s (at + 1) (omega arith))

-- ---- What the library's conversions give of bytes at a place

-- The first of the bytes from a place on.
pub le_whole : (k : ℕ) (b s : List ℕ) (at : ℕ) → b ≡ take k (drop at s) → le k b 0 ≡ le k s at
le_whole k b s at e = rw e (le_take k k (drop at s) 0 (omega arith) ∙ rw add-zero at (le_drop k at s 0))

module _ (b s : List ℕ) (at r : ℕ) where
  pub from_two : r ≡ from_le_bytes w16 b → le 2 b 0 ≡ le 2 s at → r ≡ le 2 s at
  unfolding le
  from_two e h = omega arith

  pub from_four : r ≡ from_le_bytes w32 b → le 4 b 0 ≡ le 4 s at → r ≡ le 4 s at
  unfolding le
  from_four e h = omega arith

  pub from_eight : r ≡ from_le_bytes w64 b → le 8 b 0 ≡ le 8 s at → r ≡ le 8 s at
  unfolding le
  from_eight e h = omega arith

-- In lists with the same first n bytes.
pub alike_le : (n : ℕ) (t u : List ℕ) → take n u ≡ take n t → (k at : ℕ) → at + k ≤ n → le k u at ≡ le k t at
alike_le n t u same k at h = alike n t u same (λ (s : List ℕ). le k s at) (λ s. le_take k n s at h)

-- Before bytes that are stored.
pub le_before : (t : List ℕ) (at : ℕ) (w : List ℕ) (k i : ℕ) → i + k ≤ at → le k (sets t at w) i ≡ le k t i
le_before t at w k i h = rw (← le_take k at (sets t at w) i h, sets_take t at w at (omega arith)) (le_take k at t i h)

-- In the n bytes from a place on.
pub le_row : (k n : ℕ) (s : List ℕ) (a at : ℕ) → at + k ≤ n → le k (take n (drop a s)) at ≡ le k s (a + at)
le_row k n s a at h = le_take k n (drop a s) at h ∙ le_drop k a s at

-- In the second of two lists.
pub le_append : (k : ℕ) (a b : List ℕ) (at : ℕ) → le k (a ++ b) (length a + at) ≡ le k b at
le_append k a b at = rw (← le_drop k (length a) (a ++ b) at, drop-append_seam)

pub le_past : (k : ℕ) (s : List ℕ) (at : ℕ) → length s ≤ at → le k s at ≡ 0
unfolding le
le_past zero s at h = refl
le_past (suc k) s at h = rw (get_or-eq_default s 0 h, le_past k s (at + 1) (omega arith))

-- The bytes that are there are all of a number that reaches past the end.
pub le_rest_lem : (n k : ℕ) (s : List ℕ) (at : ℕ) → n ≡ length s - at → n ≤ k → le n s at ≡ le k s at
le_rest_lem n k s at e h =
    let w : n + (k - n) ≡ k = omega arith in
    let p = le_past (k - n) s (at + n) (omega arith) in
    sym (rw (w, p) at (le_split n (k - n) s at) ∙ omega arith)

-- A number of n bytes fits where k bytes do.
pub fits_within : (n k r : ℕ) → n ≤ k → r < 256 ^ n → r < 256 ^ k
fits_within n k r h b = lt_of_lt_of_le b (pow-le-pow_right (omega arith) h)

pub le_below : (k : ℕ) (s : List ℕ) (at : ℕ) → ((i : ℕ) → get_or s i 0 < 256) → le k s at < 256 ^ k
unfolding le
le_below zero s at b = omega arith
le_below (suc k) s at b = rw pow-succ' (omega (arith, b at, le_below k s (at + 1) b))

-- In a type of n bytes there is room for k.
pub le_within : (k n : ℕ) (s : List ℕ) (at : ℕ) → k ≤ n → ((i : ℕ) → get_or s i 0 < 256) → le k s at < 256 ^ n
le_within k n s at h b = lt_of_lt_of_le (le_below k s at b) (pow-le-pow_right (omega arith) h)

-- ---- bytes

pub length_bytes : (k n : ℕ) → length (bytes k n) ≡ k
unfolding bytes
length_bytes zero n = refl
length_bytes (suc k) n = ap suc (length_bytes k (n / 256))

pub bytes_below : (k n i : ℕ) → get_or (bytes k n) i 0 < 256
unfolding bytes
bytes_below zero n i = omega arith
bytes_below (suc k) n zero = omega arith
bytes_below (suc k) n (suc i) = bytes_below k (n / 256) i

-- ---- le and bytes are inverse

pub le_bytes_append : (k n : ℕ) (s : List ℕ) → le k (bytes k n ++ s) 0 ≡ n % 256 ^ k
unfolding le bytes
le_bytes_append zero n s = omega arith
le_bytes_append (suc k) n s =
    let e = le_drop k 1 (n % 256 ∷ bytes k (n / 256) ++ s) 0 in
    let f : n % (256 ^ k * 256) ≡ n / 256 % 256 ^ k * 256 + n % 256 = mod-mul n (one-le-pow k 256 (omega arith)) (omega arith) in
    rw pow-suc (omega (arith, le_bytes_append k (n / 256) s))

pub le_bytes : (k n : ℕ) → le k (bytes k n) 0 ≡ n % 256 ^ k
le_bytes k n = rw append-nil at (le_bytes_append k n [])

-- The number of bytes that stand at a place.
pub piece_number : (s : List ℕ) (at k n : ℕ) → take k (drop at s) ≡ bytes k n → le k s at ≡ n % 256 ^ k
piece_number s at k n e = sym (rw add-zero at (le_row k k s at 0 (omega arith))) ∙ rw e (le_bytes k n)

pub bytes_le : (k : ℕ) (s : List ℕ) (at : ℕ) → at + k ≤ length s → ((i : ℕ) → get_or s i 0 < 256) → bytes k (le k s at) ≡ take k (drop at s)
unfolding le bytes
bytes_le zero s at h b = refl
bytes_le (suc k) s at h b =
    let m : (get_or s at 0 + 256 * le k s (at + 1)) % 256 ≡ get_or s at 0 = omega (arith, b at) in
    let d : (get_or s at 0 + 256 * le k s (at + 1)) / 256 ≡ le k s (at + 1) = omega (arith, b at) in
    rw (m, d, drop-cons s at 0 (omega arith), bytes_le k s (at + 1) (omega arith) b, add-one)

-- What is too large for k bytes is not in them.
pub bytes_wrap : (k n : ℕ) → bytes k (n % 256 ^ k) ≡ bytes k n
bytes_wrap k n =
    let b = bytes k n in
    let l = length_bytes k n in
    rw (← le_bytes k n) (bytes_le k b 0 (omega (arith, l)) (bytes_below k n) ∙ take_all k b (omega (arith, l)))

-- ---- bytes stored

-- The library's low bytes of a number are its bytes.
low_byte : (i n : ℕ) → byte_at i n ≡ n / 256 ^ i % 256
low_byte zero n = omega arith
low_byte (suc i) n = refl

low_bytes : (i k n : ℕ) → bytes_low_first i k n ≡ bytes k (n / 256 ^ i)
unfolding bytes
low_bytes i zero n = refl
low_bytes i (suc k) n =
    let e : n / 256 ^ i / 256 ≡ n / 256 ^ suc i = rw pow-suc (div-div-eq-div-mul n (256 ^ i) 256) in
    rw (low_byte i n, e, low_bytes (suc i) k n)

low_all : (k n : ℕ) → bytes_low_first 0 k n ≡ bytes k n
low_all k n = low_bytes 0 k n ∙ rw div-one

module _ (t u w : List ℕ) (at n : ℕ) where
  pub to_two : w ≡ to_le_bytes w16 n → u ≡ sets t at w → u ≡ sets t at (bytes 2 n)
  to_two e h = h ∙ ap (λ (v : List ℕ). sets t at v) (e ∙ low_all 2 n)

  pub to_four : w ≡ to_le_bytes w32 n → u ≡ sets t at w → u ≡ sets t at (bytes 4 n)
  to_four e h = h ∙ ap (λ (v : List ℕ). sets t at v) (e ∙ low_all 4 n)

  pub to_eight : w ≡ to_le_bytes w64 n → u ≡ sets t at w → u ≡ sets t at (bytes 8 n)
  to_eight e h = h ∙ ap (λ (v : List ℕ). sets t at v) (e ∙ low_all 8 n)

-- Of the bytes from k on, one is stored, or none has room.
module _ (t w : List ℕ) (at k : ℕ) where
  pub put_next : k < length w → sets t (at + k) (drop k w) ≡ sets (set t (at + k) (get_or w k 0)) (at + (k + 1)) (drop (k + 1) w)
  put_next h = let e : at + suc k ≡ suc (at + k) = omega arith in rw (add-one, drop-cons w k 0 h, e)

  pub put_done : length t ≤ at + k → sets t (at + k) (drop k w) ≡ t
  put_done h = sets_past t (at + k) (drop k w) h

-- What was stored is read back.
pub le_sets : (k n : ℕ) (s : List ℕ) (at : ℕ) → at + k ≤ length s → le k (sets s at (bytes k n)) at ≡ n % 256 ^ k
le_sets k n s at h =
    let w = sets-eq (bytes k n) s at (rw (length_bytes k n) h) in
    let z = drop (at + length (bytes k n)) s in
    let t : length (take at s) + 0 ≡ at = omega (arith, length-take-le at s (omega arith)) in
    rw (w, append_assoc) (rw t at (le_append k (take at s) (bytes k n ++ z) 0) ∙ le_bytes_append k n z)
