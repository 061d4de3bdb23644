-- The image, its lengths and its seal. Assumes nothing.
use Prim.Native.Nat.{ℕ, ◌+◌, ◌≤◌, ◌<◌}
use mathlib.Core.Path.{◌≡◌, refl, sym, ap, ◌∙◌}
use mathlib.Core.List.{List, ◌++◌, append_assoc}
use native.Mathlib.Omega.{arith}
use lib.ListN.{length, take, set, length-append}
use lib.Seq.{take_all, take_at, set_out, set-set}
use Rattle.mps.specs.Words.{text}
use Rattle.mps.specs.Sums.{sum256, to_store}
use Rattle.mps.specs.Numbers.{le, bytes}
use Rattle.mps.specs.Layout.{part_most, header_size, checksum_at, base_length, base_bytes}
use Rattle.mps.specs.Writing.{Parts, base_size, header, image, image_size, base_sum_of, extended_sum_of}
use Rattle.mps.specs.Edits.{sealed}
use Rattle.laws.proofs.Lists.{length_exactly}
use Rattle.numbers.proofs.Laws.{length_bytes}

-- ---- Lengths: 44 bytes of header whatever the fields hold, then the two parts

pub length_header : (p : Parts) (a b : ℕ) → length (header p a b) ≡ header_size
unfolding header text
length_header p a b = simp (length-append, length_bytes, length_exactly)

pub length_image : (p : Parts) → length (image p) ≡ image_size p
unfolding image
length_image p =
    rw (length-append, length_header p (base_sum_of p) (extended_sum_of p)) (omega (arith, length-append p.base p.extended))

-- ---- The seal

pub sum_whole : (t : List ℕ) {n x : ℕ} → n ≡ base_length t → length t < n → x ≡ sum256 t → x ≡ sum256 (base_bytes t)
sum_whole t {n} e h s = rw (← e, take_all n t (omega arith)) s

pub sum_base : (t : List ℕ) {n x : ℕ} → n ≡ base_length t → x ≡ sum256 (take n t) → x ≡ sum256 (base_bytes t)
sum_base t e s = rw (← e) s

pub seal_short : (t : List ℕ) → length t ≤ checksum_at → t ≡ sealed t
unfolding sealed
seal_short t h = sym (set_out t checksum_at _ h)

pub seal_is :
    (t : List ℕ) {x y : ℕ} → x ≡ sum256 (base_bytes (set t checksum_at 0)) → y ≡ to_store x
    → set (set t checksum_at 0) checksum_at y ≡ sealed t
unfolding sealed
seal_is t {x} {y} e f = rw (f, e) (set-set t checksum_at 0 _)

-- ---- The seal of a header and what follows it

module _ (p : Parts) (a b : ℕ) (s : List ℕ) where
  checksum_set : (x : ℕ) → set (header p a b ++ s) checksum_at x ≡ header p x b ++ s
  unfolding header text bytes
  checksum_set x = refl

  base_length_lem : base_size p ≤ part_most → base_length (header p a b ++ s) ≡ base_size p
  unfolding header text bytes le
  base_length_lem h = omega arith

-- The base of an image is its header and its base entries,
base_bytes_lem : (p : Parts) (a b : ℕ) → base_size p ≤ part_most → base_bytes (header p a b ++ (p.base ++ p.extended)) ≡ header p a b ++ p.base
base_bytes_lem p a b h =
    rw (base_length_lem p a b (p.base ++ p.extended) h, ← append_assoc (header p a b) p.base p.extended)
    (take_at (header p a b ++ p.base) p.extended (base_size p)
    (length-append (header p a b) p.base ∙ ap (λ (n : ℕ). n + length p.base) (length_header p a b)))

-- so the image is what is laid with checksum 0, sealed.
pub image_sealed : (p : Parts) → base_size p ≤ part_most → sealed (header p 0 (extended_sum_of p) ++ (p.base ++ p.extended)) ≡ image p
unfolding sealed image base_sum_of
image_sealed p h =
    let e = extended_sum_of p in
    let s = p.base ++ p.extended in
    rw (checksum_set p 0 e s 0, base_bytes_lem p 0 e h) (checksum_set p 0 e s _)
