-- The floating pointer: refusals 2 to 4, and where the table is. Document 01, "The floating pointer"; MPS 4.1.
use Rattle.std.specs.Prelude.{ℕ, ◌+◌, ◌-◌, Bool, not, ◌||◌, ◌&&◌, List, [], ◌∷◌, ◌++◌, length, ltb, eqb}
use Rattle.mps.specs.Words.{text, flag, same, part, cut, only, keep, any, none, head, joined}
use Rattle.mps.specs.Sums.{sum256}
use Rattle.mps.specs.Layout.{ebda, base_memory, bios_rom, known_revision, default_most, one_paragraph, pointer_size, pointer_signature, pointer_table, pointer_paragraphs, pointer_revision, feature1, imcr}
use Rattle.mps.specs.Dump.{regions, body, of_kind, holding}
use Rattle.mps.specs.declared.Region.{Region}

-- Sixteen bytes that may be a pointer, and their address.
pub record Candidate : Type 0 where
  pub address : ℕ
  pub bytes : List ℕ

-- "Sixteen bytes at an address divisible by 16, wholly in one region": a region's base is divisible by 16, so these are
-- its pieces of sixteen bytes from its base on. The last piece may be shorter, and is then no pointer.
unfoldable pub addressed : ℕ → List (List ℕ) → List Candidate
addressed address [] = []
addressed address (p ∷ ps) = record { address = address; bytes = p } ∷ addressed (address + pointer_size) ps

abbrev pub sixteen : List ℕ → ℕ
sixteen s = pointer_size

unfoldable pub candidates : List ℕ → Region → List Candidate
candidates d r = addressed r.base (cut sixteen 0 (body d r))

-- "A candidate with a wrong signature, length or sum is passed over." The revision is no part of this.
unfoldable pub good : List ℕ → Bool
unfolding text
good p =
    eqb (length p) pointer_size
    && same (pointer_signature p) (text "_MP_")
    && eqb (pointer_paragraphs p) one_paragraph
    && eqb (sum256 p) 0

abbrev pub good_one : Candidate → Bool
good_one c = good c.bytes

-- "Search kind 1, then kind 2 only if no kind 1 region is listed (even an empty one counts as listed), then kind 3".
unfoldable pub searched : List Region → List Region
searched rs =
    keep (of_kind ebda) rs
    ++ (only (not (any (of_kind ebda) rs)) (keep (of_kind base_memory) rs) ++ keep (of_kind bios_rom) rs)

-- The good pointers of a dump in the order of the search, addresses rising in each region.
unfoldable pub pointers : List ℕ → List Candidate
pointers d = keep good_one (joined (candidates d) (searched (regions d)))

abbrev pub no_candidate : Candidate
no_candidate = record { address = 0; bytes = [] }

-- "The first good one decides."
unfoldable pub pointer : List ℕ → Candidate
pointer d = head no_candidate (pointers d)

-- ---- What the pointer says

abbrev pub pointer_bytes : List ℕ → List ℕ
pointer_bytes d = (pointer d).bytes

abbrev pub table_address : List ℕ → ℕ
table_address d = pointer_table (pointer_bytes d)

-- The IMCR bit, as the number 0 or 1.
abbrev pub imcr_of : List ℕ → ℕ
imcr_of d = flag (imcr (pointer_bytes d))

-- Feature byte 1 is not 0: once 4 has been tested, "1 to 7 with address 0", which "answers 'default configuration n'".
unfoldable pub is_default : List ℕ → Bool
is_default d = ltb 0 (feature1 (pointer_bytes d))

-- ---- Refusals 2 to 4

-- 2: "no good floating pointer"
unfoldable pub no_pointer : List ℕ → Bool
no_pointer d = none (pointers d)

-- 3: "pointer revision not 4"
unfoldable pub wrong_pointer_revision : List ℕ → Bool
wrong_pointer_revision d = not (known_revision (pointer_revision (pointer_bytes d)))

-- 4: "feature byte over 7; 1 to 7 with nonzero address; 0 with address 0"
unfoldable pub wrong_feature : List ℕ → Bool
wrong_feature d =
    ltb default_most (feature1 (pointer_bytes d))
    || is_default d && not (eqb (table_address d) 0)
    || not (is_default d) && eqb (table_address d) 0

-- ---- The table: the bytes from its address to the end of the region that holds it; none where no region does.

abbrev pub table_region : List ℕ → Region
table_region d = holding (table_address d) (regions d)

unfoldable pub table_start : List ℕ → ℕ
table_start d = (table_region d).offset + (table_address d - (table_region d).base)

unfoldable pub table_end : List ℕ → ℕ
table_end d = (table_region d).offset + (table_region d).size

unfoldable pub table_in : List ℕ → List ℕ
table_in d = part (table_start d) (table_end d) d
