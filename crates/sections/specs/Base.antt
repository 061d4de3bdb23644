-- What the walk over the base entries answers: refusals 10 to 12, or where the entries of each type stand. Document 01, "The
-- table". The rules themselves are those of Table in mps, and the places those of Sections there.
use Rattle.std.specs.Prelude.{ℕ, cond, List, length, eqb, Result}
use Rattle.mps.specs.Words.{first, cut}
use Rattle.mps.specs.Refusals.{cut_number}
use Rattle.mps.specs.Layout.{Entry, processor_type, base_entry_length}
use Rattle.mps.specs.Table.{entry_fault, walk_from}
use Rattle.mps.specs.Sections.{span}
use Rattle.mps.specs.Answers.{answered}
use Rattle.mps.specs.declared.refusals.Refusal.{Refusal}
use Rattle.sections.specs.declared.BaseSections.{BaseSections}

-- The entries of some base bytes.
abbrev pub base_entries_in : List ℕ → List Entry
base_entries_in s = cut base_entry_length 0 s

-- The number of the first faulty entry; where there is none, 11 where "count differs after the walk", else 0.
unfoldable pub base_fault : List ℕ → ℕ → ℕ
base_fault s count = first (walk_from 0 (base_entries_in s)) (cond (eqb (length (base_entries_in s)) count) 0 cut_number)

abbrev pub base_places : List Entry → BaseSections
base_places es =
    record {
      buses = span processor_type 1 es;
      ioapics = span processor_type 2 es;
      interrupts = span processor_type 3 es;
      locals = span processor_type 4 es;
    }

unfoldable pub base_sections : List ℕ → ℕ → Result BaseSections Refusal
base_sections s count = answered (base_fault s count) (base_places (base_entries_in s))

-- The fault of an entry by itself, whatever stands before it; 0 where it has none.
unfoldable pub base_own : Entry → ℕ
base_own e = entry_fault 0 e
