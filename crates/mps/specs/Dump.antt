-- The dump and its regions: refusal 1. Document 01, "The dump: contents first, then bodies".
use Rattle.std.specs.Prelude.{ℕ, zero, suc, ◌+◌, ◌*◌, ◌%◌, Bool, false, not, ◌||◌, ◌&&◌, List, [], ◌∷◌, length, drop, leb, ltb, eqb}
use Rattle.mps.specs.Words.{part, keep, any, every, each, head, twice, within}
use Rattle.mps.specs.Sums.{total}
use Rattle.mps.specs.declared.Region.{Region}
use Rattle.mps.specs.Layout.{ebda, base_memory, bios_rom, other_memory, dump_most, regions_most, region_step, kilobyte, rom_start, rom_end, memory_end, region_count, row_length, row_kind, row_base, row_size}

-- Where a region ends: "base plus length", the sum of the numbers with no wrap at 2^32.
abbrev pub end_of : Region → ℕ
end_of r = r.base + r.size

-- The rows of the contents, n of them, from the bytes s on; the body of the first is at `offset`.
unfoldable pub regions_from : ℕ → ℕ → List ℕ → List Region
regions_from zero offset s = []
regions_from (suc n) offset s =
    record { kind = row_kind s; base = row_base s; offset = offset; size = row_size s }
    ∷ regions_from n (offset + row_size s) (drop row_length s)

-- Where the contents end and the first body starts.
abbrev pub contents_end : List ℕ → ℕ
contents_end d = 1 + row_length * region_count d

-- "Then nine bytes a region .. The bodies follow in the same order".
unfoldable pub regions : List ℕ → List Region
regions d = regions_from (region_count d) (contents_end d) (drop 1 d)

-- The body of a region.
abbrev pub body : List ℕ → Region → List ℕ
body d r = part r.offset (r.offset + r.size) d

abbrev pub kind_of : Region → ℕ
kind_of r = r.kind

abbrev pub size_of : Region → ℕ
size_of r = r.size

abbrev pub of_kind : ℕ → Region → Bool
of_kind k r = eqb r.kind k

-- ---- The rules of a region by itself

-- "kinds 1 and 2 have at most 1,024 bytes; kind 3 has its base at F0000h or above and base plus length at most 100000h"
unfoldable pub kind_rule : Region → Bool
kind_rule r =
    (of_kind ebda r || of_kind base_memory r) && leb r.size kilobyte
    || of_kind bios_rom r && (leb rom_start r.base && leb (end_of r) rom_end)
    || of_kind other_memory r

-- "Bases are multiples of 16; base plus length is at most 2^32".
unfoldable pub sound_region : Region → Bool
sound_region r = kind_rule r && eqb (r.base % region_step) 0 && leb (end_of r) memory_end

-- ---- The rules of the regions together

-- Whether two regions share an address. "Length 0 is allowed and overlaps nothing."
unfoldable pub share : Region → Region → Bool
share r q = ltb 0 r.size && ltb 0 q.size && ltb r.base (end_of q) && ltb q.base (end_of r)

-- "no two regions share an address": whether some two do.
unfoldable pub overlap : List Region → Bool
overlap [] = false
overlap (r ∷ rs) = any (share r) rs || overlap rs

abbrev pub once_only : Region → Bool
once_only r = within ebda bios_rom r.kind

-- "kinds 1 to 3 occur at most once": whether some kind stands twice.
unfoldable pub kind_twice : List Region → Bool
kind_twice rs = twice (each kind_of (keep once_only rs))

-- ---- The dump

-- "The bodies follow in the same order and the dump ends with the last."
unfoldable pub ends_with_last : List ℕ → Bool
ends_with_last d = eqb (contents_end d + total (each size_of (regions d))) (length d)

-- A dump that keeps every rule of its section. An empty file has no byte 0.
unfoldable pub sound_dump : List ℕ → Bool
sound_dump d =
    within 1 dump_most (length d)
    && leb (region_count d) regions_most
    && ends_with_last d
    && every sound_region (regions d)
    && not (kind_twice (regions d))
    && not (overlap (regions d))

-- ---- The region that holds an address: "regions that touch aren't joined"

unfoldable pub holds : ℕ → Region → Bool
holds address r = leb r.base address && ltb address (end_of r)

-- What stands for the region at an address where none holds it: a region of no byte there.
abbrev pub no_region : ℕ → Region
no_region address = record { kind = 0; base = address; offset = 0; size = 0 }

-- "The list of regions is searched for the one that holds an address".
unfoldable pub holding : ℕ → List Region → Region
holding address rs = head (no_region address) (keep (holds address) rs)
