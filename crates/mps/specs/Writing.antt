-- The writer, and the parts of a table. Document 01, "The writer takes .."; MPS 4.2, Table 4-2.
use Rattle.std.specs.Prelude.{ℕ, ◌+◌, cond, List, [], ◌∷◌, ◌++◌, length, replicate, ltb, eqb, Result}
use Rattle.mps.specs.Words.{text, cut, exactly, first}
use Rattle.mps.specs.Refusals.{Rule, ◌when◌, base_number, extended_number}
use Rattle.mps.specs.Sums.{sum256, to_store}
use Rattle.mps.specs.Numbers.{bytes}
use Rattle.mps.specs.Layout.{spec_revision, part_most, header_size, base_entry_length, base_length, extended_end, base_part, extended_part}
use Rattle.mps.specs.Layout.{oem_id, product_of, oem_pointer, oem_size, local_apic, reserved43}
use Rattle.mps.specs.Judge.{table_refusal}
use Rattle.mps.specs.Answers.{answered}
use Rattle.mps.specs.Rooms.{too_small, lent_refusal, lent_left}
use Rattle.mps.specs.declared.Fields.{Fields}
use Rattle.mps.specs.declared.Parted.{Parted}
use Rattle.mps.specs.declared.refusals.Refusal.{Refusal}

-- "header fields (OEM ID, product, OEM pointer and size, local APIC address, byte 43), base entries and extended entries,
-- both as bytes". `Fields` is the struct of src/lib.rt: eight bytes, twelve bytes, numbers.
pub record Parts : Type 0 where
  pub fields : Fields
  pub base : List ℕ
  pub extended : List ℕ

-- ---- The parts of a table

unfoldable pub fields_of : List ℕ → Fields
fields_of t =
    record { oem = oem_id t; product = product_of t; pointer = oem_pointer t; size = oem_size t; apic = local_apic t; reserved = reserved43 t }

unfoldable pub parts_of : List ℕ → Parts
parts_of t = record { fields = fields_of t; base = base_part t; extended = extended_part t }

-- What is answered of a table's parts: where its entries end, or the number that it is refused with.
unfoldable pub parted : List ℕ → Result Parted Refusal
parted t = answered (table_refusal t) (record { base = base_length t; end = extended_end t })

-- ---- The image: "It works out lengths, count and checksums"; "the revision it writes is 4"

abbrev pub base_size : Parts → ℕ
base_size p = header_size + length p.base

abbrev pub count_of : Parts → ℕ
count_of p = length (cut base_entry_length 0 p.base)

-- The header, 44 bytes: field by field in the order of Table 4-2, with its two checksums given.
unfoldable pub header : Parts → ℕ → ℕ → List ℕ
unfolding text
header p baseSum extendedSum =
    text "PCMP"
    ++ (bytes 2 (base_size p)
    ++ (spec_revision
    ∷ baseSum
    ∷ (exactly 8 p.fields.oem
    ++ (exactly 12 p.fields.product
    ++ (bytes 4 p.fields.pointer
    ++ (bytes 2 p.fields.size
    ++ (bytes 2 (count_of p)
    ++ (bytes 4 p.fields.apic
    ++ (bytes 2 (length p.extended) ++ (extendedSum ∷ p.fields.reserved ∷ []))))))))))

unfoldable pub extended_sum_of : Parts → ℕ
extended_sum_of p = to_store (sum256 p.extended)

unfoldable pub base_sum_of : Parts → ℕ
base_sum_of p = to_store (sum256 (header p 0 (extended_sum_of p) ++ p.base))

-- The finished table.
unfoldable pub image : Parts → List ℕ
image p = header p (base_sum_of p) (extended_sum_of p) ++ (p.base ++ p.extended)

abbrev pub image_size : Parts → ℕ
image_size p = base_size p + length p.extended

-- ---- The call

-- "It refuses 7 if the base would pass 4,096, 13 if the extended part would, then 19, all unwritten".
unfoldable pub part_rules : Parts → List Rule
part_rules p = base_number when ltb part_most (base_size p) ∷ extended_number when ltb part_most (length p.extended) ∷ []

unfoldable pub early_refusal : Parts → List ℕ → ℕ
early_refusal p room = lent_refusal (part_rules p) (too_small (image_size p) room)

-- ".. then the finished image is judged"
unfoldable pub write_refusal : Parts → List ℕ → ℕ
write_refusal p room = first (early_refusal p room) (table_refusal (image p))

-- How many bytes stand in the room.
unfoldable pub written : Parts → List ℕ → Result ℕ Refusal
written p room = answered (write_refusal p room) (image_size p)

-- ".. and a refusal leaves its bytes zero and the rest unchanged."
unfoldable pub finished : Parts → List ℕ
finished p = cond (eqb (table_refusal (image p)) 0) (image p) (replicate (image_size p) 0)

unfoldable pub write_left : Parts → List ℕ → List ℕ
write_left p room = lent_left (early_refusal p room) (finished p) room
