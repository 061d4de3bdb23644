-- The entry reader at any place of any buffer. Document 01, "The entries are walked by a reader ..".
-- The place is a byte offset from the table's start; the buffer need not be a sound table.
use Rattle.std.specs.Prelude.{ℕ, ◌+◌, min, cond, ◌||◌, ◌&&◌, List, length, take, drop, leb, ltb, Option}
use Rattle.mps.specs.Layout.{Entry, last_base_type, first_extended_type, least_length, header_size, base_length, extended_end, type, base_entry_length, extended_entry_length}
use Rattle.mps.specs.Answers.{found_of}

-- "The ends are the header's, cut at the buffer's."
abbrev pub read_base_end : List ℕ → ℕ
read_base_end t = min (base_length t) (length t)

abbrev pub read_extended_end : List ℕ → ℕ
read_extended_end t = min (extended_end t) (length t)

-- "From 44 to the base end an entry has its type's length": 0 for a type that has none.
unfoldable pub base_step : List ℕ → ℕ
base_step s = cond (leb (type s) last_base_type) (base_entry_length s) 0

-- ".. from there to the extended end its length byte's, with type at least 128 and length at least 2".
unfoldable pub extended_step : List ℕ → ℕ
extended_step s = cond (leb first_extended_type (type s) && leb least_length (extended_entry_length s)) (extended_entry_length s) 0

-- The length of an entry that stands whole before an end, else 0.
abbrev pub whole : ℕ → ℕ → ℕ → ℕ
whole place size end = cond (leb (place + size) end) size 0

-- The length of the entry at a place. "A place below 44, at or past the end, or where no whole entry stands, gives no
-- entry and stays; so does any place in a buffer under 44 bytes": its length is 0 there.
unfoldable pub size_at : List ℕ → ℕ → ℕ
size_at t place =
    cond (ltb (length t) header_size || ltb place header_size) 0
    (cond (ltb place (read_base_end t)) (whole place (base_step (drop place t)) (read_base_end t))
    (cond (ltb place (read_extended_end t)) (whole place (extended_step (drop place t)) (read_extended_end t)) 0))

-- The entry at a place.
unfoldable pub entry_at : List ℕ → ℕ → Entry
entry_at t place = take (size_at t place) (drop place t)

-- The place after it; where there is none, the place stays.
unfoldable pub next_place : List ℕ → ℕ → ℕ
next_place t place = place + size_at t place

unfoldable pub found : List ℕ → ℕ → Option ℕ
found t place = found_of (size_at t place)
