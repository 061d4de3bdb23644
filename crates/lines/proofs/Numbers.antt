-- An entry as a number: its first 8 bytes, and the lines that they tell. Assumes nothing.
use Prim.Native.Nat.{ℕ, zero, suc, ◌+◌, ◌*◌, ◌/◌, ◌%◌, ◌^◌, ◌≤◌, ◌<◌}
use mathlib.Core.Path.{◌≡◌, refl, ap, sym, ◌∙◌}
use mathlib.Core.List.{List, ◌∷◌}
use native.Mathlib.Omega.{arith}
use native.Mathlib.Nat.{zero-add, add-zero, pow-zero, div-one, div-div-eq-div-mul}
use lib.Pow.{pow-add}
use lib.ListN.{get_or}
use borrow.Author.Tests.{ne_eqb}
use Rattle.mps.specs.Numbers.{le, bytes}
use Rattle.mps.specs.Layout.{Entry}
use Rattle.mps.specs.Listing.{base_line, map_line, tree_line, mod_line, skip_line, extended_line}
use Rattle.numbers.proofs.Laws.{le_eight, le_below, le_bytes, bytes_below}
use Rattle.lines.specs.Wrote.{space_line}
use Rattle.lines.specs.Entry.{entry_line, eight, shown}

-- ---- The bytes of a number

pub byte_is : (n k x : ℕ) → k < n → x / 2 ^ (8 * k) % 256 ≡ get_or (bytes n x) k 0
unfolding bytes
byte_is zero k x h = absurd (omega arith)
byte_is (suc n) zero x h = rw (pow-zero, div-one)
byte_is (suc n) (suc k) x h =
    let e : 8 * suc k ≡ 8 + 8 * k = omega arith in
    rw (e, pow-add 2 8 (8 * k), ← div-div-eq-div-mul x (2 ^ 8) (2 ^ (8 * k))) (byte_is n k (x / 256) (omega arith))

pub high_is : (x : ℕ) → x < 256 ^ 8 → x / 4294967296 ≡ le 4 (bytes 8 x) 4
high_is x h = omega (arith, le_eight (bytes 8 x) 0, le_bytes 8 x, le_below 4 (bytes 8 x) 0 (bytes_below 8 x))

-- ---- The number of an entry

-- A byte that the entry lacks is 0 in its number too.
number_byte : (n : ℕ) (e : List ℕ) (at k : ℕ) → ((i : ℕ) → get_or e i 0 < 256) → k < n → get_or (bytes n (le n e at)) k 0 ≡ get_or e (at + k) 0
unfolding le bytes
number_byte zero e at k b h = absurd (omega arith)
number_byte (suc n) e at zero b h =
    let m : (get_or e at 0 + 256 * le n e (at + 1)) % 256 ≡ get_or e at 0 = omega (arith, b at) in
    rw (m, add-zero)
number_byte (suc n) e at (suc k) b h =
    let d : (get_or e at 0 + 256 * le n e (at + 1)) / 256 ≡ le n e (at + 1) = omega (arith, b at) in
    let f : at + 1 + k ≡ at + suc k = omega arith in
    rw d (rw f at (number_byte n e (at + 1) k b (omega arith)))

module _ (a e : Entry) (same : (k : ℕ) → k < 8 → get_or a k 0 ≡ get_or e k 0) where
  number_le : (n at : ℕ) → at + n ≤ 8 → le n a at ≡ le n e at
  unfolding le
  number_le zero at h = refl
  number_le (suc n) at h = rw (same at (omega arith), number_le n (at + 1) (omega arith))

cons : {x y : ℕ} {s t : List ℕ} → x ≡ y → s ≡ t → x ∷ s ≡ y ∷ t
cons e f = rw (e, f)

-- So the line that the 8 bytes of a number tell is the entry's, but that of a mapping, which has more.
module _ (e : Entry) (x : ℕ) (is : x ≡ le 8 e 0) (b : (i : ℕ) → get_or e i 0 < 256) where
  number : (k : ℕ) → k < 8 → get_or (bytes 8 x) k 0 ≡ get_or e k 0
  number k h = rw is (rw zero-add at (number_byte 8 e 0 k b h))

  number_type : get_or (bytes 8 x) 0 0 ≡ get_or e 0 0
  number_type = number 0 (omega arith)

  eight_is : bytes 8 x ≡ eight e
  unfolding bytes eight
  eight_is =
      cons (number 0 (omega arith)) (cons (number 1 (omega arith)) (cons (number 2 (omega arith)) (cons (number 3 (omega arith))
      (cons (number 4 (omega arith)) (cons (number 5 (omega arith)) (cons (number 6 (omega arith)) (cons (number 7 (omega arith)) refl)))))))

  extended_line_is : (get_or (bytes 8 x) 0 0 ≡ 128 → ⊥) → extended_line (bytes 8 x) ≡ extended_line e
  unfolding extended_line tree_line mod_line skip_line
  extended_line_is h =
      rw (
        number 0 (omega arith),
        number 1 (omega arith),
        number 2 (omega arith),
        number 3 (omega arith),
        number 4 (omega arith),
        number_le (bytes 8 x) e number 4 4 (omega arith),
        ne_eqb (get_or e 0 0) 128 (λ q. h (number_type ∙ q)),
      )

  pub entry_line_is : (get_or (bytes 8 x) 0 0 ≡ 128 → ⊥) → entry_line (bytes 8 x) ≡ shown e
  unfolding entry_line shown
  entry_line_is k = rw (number_type, ap base_line eight_is, extended_line_is k)

  pub map_line_is : {base size : ℕ} → get_or (bytes 8 x) 0 0 ≡ 128 → base ≡ le 8 e 4 → size ≡ le 8 e 12 → space_line (bytes 8 x) base size ≡ shown e
  unfolding shown extended_line map_line space_line
  map_line_is h p q = rw (sym number_type ∙ h, number 2 (omega arith), number 3 (omega arith), p, q)
