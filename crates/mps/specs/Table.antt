-- The table's header and its walk: refusals 5 to 13. Document 01, "The table" and the table of refusals; MPS 4.2 to 4.4.
-- A bare table is judged as one region holding the buffer, so "past the region" is past the list.
use Rattle.std.specs.Prelude.{ℕ, Bool, false, cond, not, ◌||◌, ◌&&◌, List, [], ◌∷◌, length, ltb, eqb}
use Rattle.mps.specs.Words.{text, same, first}
use Rattle.mps.specs.Refusals.{type_number, cut_number, order_number}
use Rattle.mps.specs.Sums.{sum256}
use Rattle.mps.specs.Layout.{Entry, type, known_revision, last_base_type, first_extended_type, least_length, part_most, header_size, signature, revision, base_length, base_bytes, entry_count, extended_length}
use Rattle.mps.specs.Layout.{extended_checksum, extended_end, extended_part, base_entry_length, extended_entry_length, own_length, base_entries, extended_entries}

-- 5: "44 header bytes not in one region"
unfoldable pub header_cut : List ℕ → Bool
header_cut t = ltb (length t) header_size

-- 6: "not 'PCMP'"
unfoldable pub wrong_signature : List ℕ → Bool
unfolding text
wrong_signature t = not (same (signature t) (text "PCMP"))

-- 7: "base length under 44, over 4,096 or past the region"
unfoldable pub wrong_base_length : List ℕ → Bool
wrong_base_length t = ltb (base_length t) header_size || ltb part_most (base_length t) || ltb (length t) (base_length t)

-- 8: "base sum"
unfoldable pub wrong_base_sum : List ℕ → Bool
wrong_base_sum t = not (eqb (sum256 (base_bytes t)) 0)

-- 9: "table revision not 4"
unfoldable pub wrong_revision : List ℕ → Bool
wrong_revision t = not (known_revision (revision t))

-- ---- The walk over the base entries

-- The fault of one entry, after one of type `before`: 10 "base type over 4", 11 "entry cut by the base end",
-- 12 "type below the one before", the lower number first; 0 where it has none.
unfoldable pub entry_fault : ℕ → Entry → ℕ
entry_fault before e =
    cond (ltb last_base_type (type e)) type_number (cond (ltb (length e) (base_entry_length e)) cut_number (cond (ltb (type e) before) order_number 0))

-- "the first faulty entry decides"
unfoldable pub walk_from : ℕ → List Entry → ℕ
walk_from before [] = 0
walk_from before (e ∷ es) = first (entry_fault before e) (walk_from (type e) es)

unfoldable pub walk_fault : List ℕ → ℕ
walk_fault t = walk_from 0 (base_entries t)

-- 10: "base type over 4"
unfoldable pub wrong_type : List ℕ → Bool
wrong_type t = eqb (walk_fault t) type_number

-- 11: "entry cut by the base end, or count differs after the walk"; "the count is compared only where no entry is faulty"
unfoldable pub cut_or_miscounted : List ℕ → Bool
cut_or_miscounted t = eqb (walk_fault t) cut_number || eqb (walk_fault t) 0 && not (eqb (length (base_entries t)) (entry_count t))

-- 12: "type below the one before"
unfoldable pub descending_type : List ℕ → Bool
descending_type t = eqb (walk_fault t) order_number

-- ---- The walk over the extended entries

-- "cut entry, length under 2, type under 128 or descending, or 128 to 130 with another length than theirs". An entry of
-- length 0 or 1, and a lone last byte, are pieces without a length byte: that reads as 0, which is under 2.
unfoldable pub extended_fault : ℕ → Entry → Bool
extended_fault before e =
    ltb (extended_entry_length e) least_length
    || ltb (length e) (extended_entry_length e)
    || ltb (type e) first_extended_type
    || ltb (type e) before
    || not (eqb (extended_entry_length e) (own_length e))

-- Whether some entry has such a fault.
unfoldable pub extended_from : ℕ → List Entry → Bool
extended_from before [] = false
extended_from before (e ∷ es) = extended_fault before e || extended_from (type e) es

-- "extended part over 4,096, past the region, wrong sum". "The extended bytes .. with byte 42, add to 0."
unfoldable pub wrong_extended_part : List ℕ → Bool
wrong_extended_part t =
    ltb part_most (extended_length t)
    || ltb (length t) (extended_end t)
    || not (eqb (sum256 (extended_checksum t ∷ extended_part t)) 0)

-- 13: that, or a faulty entry.
unfoldable pub wrong_extended : List ℕ → Bool
wrong_extended t = wrong_extended_part t || extended_from 0 (extended_entries t)
