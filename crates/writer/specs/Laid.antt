-- The image as it is laid: the header in two parts, with the base checksum still 0, and the room that it needs.
use Rattle.std.specs.Prelude.{ℕ, ◌≤◌, ◌≡◌, List, [], ◌∷◌, ◌++◌, length}
use Rattle.mps.specs.Words.{text, exactly}
use Rattle.mps.specs.Numbers.{bytes}
use Rattle.mps.specs.Layout.{spec_revision, part_most}
use Rattle.mps.specs.Writing.{Parts, base_size, image_size}
use Rattle.mps.specs.declared.Fields.{Fields}

-- The parts that a call of the writer is given.
abbrev pub parts_given : Fields → List ℕ → List ℕ → Parts
parts_given fields base extended = record { fields = fields; base = base; extended = extended }

-- The header up to the product,
unfoldable pub front : Fields → ℕ → List ℕ
unfolding text
front fields size =
    text "PCMP" ++ (bytes 2 size ++ (spec_revision ∷ 0 ∷ (exactly 8 fields.oem ++ exactly 12 fields.product)))

-- 28 bytes,
abbrev pub front_size : ℕ
front_size = 28

-- and behind it.
unfoldable pub rest : Fields → ℕ → ℕ → ℕ → List ℕ
rest fields count size sum =
    bytes 4 fields.pointer
    ++ (bytes 2 fields.size
    ++ (bytes 2 count ++ (bytes 4 fields.apic ++ (bytes 2 size ++ (sum ∷ fields.reserved ∷ [])))))

-- A room for exactly the image, whose parts are not too long.
pub record Room (p : Parts) (out : List ℕ) : Type 0 where
  pub exact : length out ≡ image_size p
  pub base : base_size p ≤ part_most
  pub extended : length p.extended ≤ part_most
