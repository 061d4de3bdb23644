-- How an image is laid, one field behind the other. Assumes nothing.
use Prim.Native.Nat.{ℕ, ◌+◌}
use mathlib.Core.Path.{◌≡◌, refl, ap, ◌∙◌}
use mathlib.Core.List.{List, [], ◌∷◌, ◌++◌, append_assoc, append-nil}
use native.Mathlib.Omega.{arith}
use lib.ListN.{length, set, length-append, drop_of_length-le}
use lib.Seq.{sets, length-sets}
use Rattle.mps.specs.Words.{text, exactly}
use Rattle.mps.specs.Sums.{sum256, to_store}
use Rattle.mps.specs.Numbers.{bytes}
use Rattle.mps.specs.Layout.{header_size, spec_revision}
use Rattle.mps.specs.Writing.{Parts, base_size, count_of, header, image, image_size, extended_sum_of}
use Rattle.mps.specs.Edits.{sealed}
use Rattle.mps.specs.declared.Fields.{Fields}
use Rattle.laws.proofs.Lists.{exactly_all, length_exactly}
use Rattle.laws.proofs.Stores.{sets_at_start, sets_behind}
use Rattle.numbers.proofs.Laws.{length_bytes}
use Rattle.writer.specs.Laid.{front, rest, Room}
use Rattle.writer.proofs.Laws.{length_header, image_sealed}

-- A store keeps the length.
pub stays : (t : List ℕ) (at : ℕ) (w : List ℕ) {u : List ℕ} → u ≡ sets t at w → length u ≡ length t
stays t at w e = ap length e ∙ length-sets t at w

-- ---- The header

pub front_is :
    (f : Fields) (n : ℕ) (t : List ℕ) {u v w x : List ℕ} → length f.oem ≡ 8 → length f.product ≡ 12
    → u ≡ sets t 0 (text "PCMP") → v ≡ sets u 4 (bytes 2 n) → w ≡ sets (set (set v 6 spec_revision) 7 0) 8 f.oem
    → x ≡ sets w 16 f.product → x ≡ sets t 0 (front f n)
unfolding front text
front_is f n t {u} {v} o p i j k l =
    rw (exactly_all 8 f.oem o, exactly_all 12 f.product p)
    (sets_behind t 0 (text "PCMP") (bytes 2 n ++ (spec_revision ∷ 0 ∷ (f.oem ++ f.product))) (omega arith) i
    (sets_behind u 4 (bytes 2 n) (spec_revision ∷ 0 ∷ (f.oem ++ f.product)) (omega (arith, length_bytes 2 n)) j
    (sets_behind (set (set v 6 spec_revision) 7 0) 8 f.oem f.product (omega arith) k l)))

pub rest_is :
    (f : Fields) (n m s : ℕ) (t : List ℕ) {u v w x y : List ℕ} → u ≡ sets t 28 (bytes 4 f.pointer)
    → v ≡ sets u 32 (bytes 2 f.size) → w ≡ sets v 34 (bytes 2 n) → x ≡ sets w 36 (bytes 4 f.apic)
    → y ≡ sets x 40 (bytes 2 m) → set (set y 42 s) 43 f.reserved ≡ sets t 28 (rest f n m s)
unfolding rest
rest_is f n m s t {u} {v} {w} {x} i j k l o =
    sets_behind t 28 (bytes 4 f.pointer) _ (omega (arith, length_bytes 4 f.pointer)) i
    (sets_behind u 32 (bytes 2 f.size) _ (omega (arith, length_bytes 2 f.size)) j
    (sets_behind v 34 (bytes 2 n) _ (omega (arith, length_bytes 2 n)) k
    (sets_behind w 36 (bytes 4 f.apic) _ (omega (arith, length_bytes 4 f.apic)) l
    (sets_behind x 40 (bytes 2 m) (s ∷ f.reserved ∷ []) (omega (arith, length_bytes 2 m)) o refl))))

length_front : (f : Fields) (n : ℕ) → length (front f n) ≡ 28
unfolding front text
length_front f n = simp (length-append, length_bytes, length_exactly)

length_rest : (f : Fields) (n m s : ℕ) → length (rest f n m s) ≡ 16
unfolding rest
length_rest f n m s = simp (length-append, length_bytes)

-- Both together are the header with base checksum 0.
header_laid :
    (p : Parts) (s : ℕ) → header p 0 s ≡ front p.fields (base_size p) ++ rest p.fields (count_of p) (length p.extended) s
unfolding header front rest text bytes
header_laid p s = rw (append_assoc (exactly 8 p.fields.oem) (exactly 12 p.fields.product))

-- ---- The image

-- Bytes that fill their room.
fills : (t w : List ℕ) → length w ≡ length t → sets t 0 w ≡ w
fills t w e =
    sets_at_start t w (omega arith) ∙ ap (λ (l : List ℕ). w ++ l) (drop_of_length-le t {i = length w} (omega arith)) ∙ append-nil w

-- What is laid before the seal.
bare_is :
    (p : Parts) (s : ℕ) (out : List ℕ) {u v w x : List ℕ} → length out ≡ image_size p
    → u ≡ sets out 0 (front p.fields (base_size p)) → v ≡ sets u 28 (rest p.fields (count_of p) (length p.extended) s)
    → w ≡ sets v header_size p.base → x ≡ sets w (base_size p) p.extended → x ≡ header p 0 s ++ (p.base ++ p.extended)
bare_is p s out {u} {v} r e f g h =
    let head = front p.fields (base_size p) in
    let tail = rest p.fields (count_of p) (length p.extended) s in
    let both = p.base ++ p.extended in
    let whole : header p 0 s ++ both ≡ head ++ (tail ++ both) = rw (header_laid p s) (append_assoc head tail both) in
    rw (← fills out (header p 0 s ++ both) (size both (length-append p.base p.extended)), whole)
    (sets_behind out 0 head (tail ++ both) (omega (arith, length_front p.fields (base_size p))) e
    (sets_behind u 28 tail both (omega (arith, length_rest p.fields (count_of p) (length p.extended) s)) f
    (sets_behind v header_size p.base p.extended (omega arith) g h)))
  where
    size : (both : List ℕ) → length both ≡ length p.base + length p.extended → length (header p 0 s ++ both) ≡ length out
    size both e = omega (arith, length-append (header p 0 s) both, length_header p 0 s)

pub laid :
    (p : Parts) (out : List ℕ) {u v w x y : List ℕ} {n a b : ℕ} → Room p out → n ≡ count_of p → a ≡ sum256 p.extended → b ≡ to_store a
    → u ≡ sets out 0 (front p.fields (base_size p)) → v ≡ sets u 28 (rest p.fields n (length p.extended) b)
    → w ≡ sets v header_size p.base → x ≡ sets w (base_size p) p.extended → y ≡ sealed x → y ≡ image p
unfolding extended_sum_of
laid p out r i j k e f g h z =
    z ∙ ap sealed (bare_is p (extended_sum_of p) out r.exact e (rw (i, k, j) at f) g h) ∙ image_sealed p r.base
