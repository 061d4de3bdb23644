-- The header fields of any bytes. Assumes nothing.
use Prim.Native.Nat.{ℕ, ◌-◌, ◌≤◌}
use mathlib.Core.Path.{◌≡◌, ◌∙◌}
use mathlib.Core.List.{List}
use native.Mathlib.Omega.{arith}
use lib.ListN.{length, get_or, take, replicate}
use lib.Seq.{sets}
use Rattle.mps.specs.Words.{exactly, part}
use Rattle.mps.specs.Layout.{header_size, oem_pointer, oem_size, local_apic}
use Rattle.mps.specs.Writing.{fields_of}
use Rattle.laws.proofs.Lists.{exactly_all, exactly_take}
use Rattle.laws.proofs.Stores.{sets_zeros}
use Rattle.laws.proofs.Parts.{length_part, part_take}
use Rattle.accepted.proofs.Fields.{fields_by}

-- A part that is there as a whole, stored in as many zeros.
part_zeros : (a b : ℕ) (t : List ℕ) → b ≤ length t → sets (replicate (b - a) 0) 0 (part a b t) ≡ part a b t
part_zeros a b t h = sets_zeros (b - a) (part a b t) ∙ exactly_all (b - a) (part a b t) (length_part a b t h)

-- ---- fields_of

pub fields_are :
    (t oem product : List ℕ) {pointer size apic : ℕ} → header_size ≤ length t → oem ≡ sets (replicate 8 0) 0 (part 8 16 t)
    → product ≡ sets (replicate 12 0) 0 (part 16 28 t) → pointer ≡ oem_pointer t → size ≡ oem_size t → apic ≡ local_apic t
    → record { oem = oem; product = product; pointer = pointer; size = size; apic = apic; reserved = get_or t 43 0 } ≡ fields_of t
unfolding fields_of
fields_are t oem product h o p a b c =
    rw (o, p, part_zeros 8 16 t (omega arith), part_zeros 16 28 t (omega arith), a, b, c)

-- The fields of a table are those of its first 44 bytes.
pub fields_inside : (t : List ℕ) → header_size ≤ length t → fields_of (exactly header_size t) ≡ fields_of t
fields_inside t h =
    rw (exactly_take header_size t h) (fields_by t (take header_size t) (part_take 8 header_size header_size t (omega arith)))
