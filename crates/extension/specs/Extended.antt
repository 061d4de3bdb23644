-- What the walk over the extended entries answers: refusal 13, or where the entries of each type stand. Document 01, "The
-- table". The rule itself is that of Table in mps, and the places those of Sections there.
use Rattle.std.specs.Prelude.{ℕ, cond, List, Option, Some, None}
use Rattle.mps.specs.Words.{flag, cut}
use Rattle.mps.specs.Layout.{Entry, mapping_type, extended_entry_length}
use Rattle.mps.specs.Table.{extended_fault, extended_from}
use Rattle.mps.specs.Sections.{span}
use Rattle.extension.specs.declared.ExtendedSections.{ExtendedSections}

-- The entries of some extended bytes.
abbrev pub extended_entries_in : List ℕ → List Entry
extended_entries_in s = cut extended_entry_length 0 s

abbrev pub extended_places : List Entry → ExtendedSections
extended_places es =
    record { links = span mapping_type 1 es; modifiers = span mapping_type 2 es; others = span mapping_type 3 es }

-- None where an entry is faulty.
unfoldable pub extended_sections : List ℕ → Option ExtendedSections
extended_sections s = cond (extended_from 0 (extended_entries_in s)) None (Some (extended_places (extended_entries_in s)))

-- The fault of an entry by itself, whatever stands before it; 0 where it has none.
unfoldable pub extended_own : Entry → ℕ
extended_own e = flag (extended_fault 0 e)
