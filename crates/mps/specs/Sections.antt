-- Where the entries of each type stand. Document 01, "The table": "types ascending", of base and of extended entries. So in
-- an accepted table the entries of one type follow each other, and the callers of the judge look at those alone that they
-- ask about.
use Rattle.std.specs.Prelude.{ℕ, zero, suc, ◌+◌, List, length, eqb}
use Rattle.mps.specs.Words.{keep, each, cut}
use Rattle.mps.specs.Sums.{total}
use Rattle.mps.specs.Layout.{Entry, of_type, header_size, processor_type, mapping_type, base_length, extended_end, base_entries, extended_entries}
use Rattle.mps.specs.declared.Sections.{Sections}

-- Entries of n bytes each, one behind the other: the whole pieces of n bytes of some bytes. What stands between two places
-- of the sections is read so.
unfoldable pub rows : ℕ → List ℕ → List Entry
rows n s = keep (λ e. eqb (length e) n) (cut (λ _. n) 0 s)

-- How many bytes the entries of k types take, from type `first` on.
unfoldable pub span : ℕ → ℕ → List Entry → ℕ
span first zero es = 0
span first (suc k) es = span first k es + total (each length (keep (of_type (first + k)) es))

-- Where the base entries behind the first k types begin, and the extended ones.
unfoldable pub base_after : ℕ → List ℕ → ℕ
base_after k t = header_size + span processor_type k (base_entries t)

unfoldable pub extended_after : ℕ → List ℕ → ℕ
extended_after k t = base_length t + span mapping_type k (extended_entries t)

-- The places of all sections: processors stand from the header's end on, each other type from its own place, and each ends
-- where the next begins.
unfoldable pub sections : List ℕ → Sections
sections t = record {
  buses = base_after 1 t;
  ioapics = base_after 2 t;
  interrupts = base_after 3 t;
  locals = base_after 4 t;
  mappings = base_length t;
  links = extended_after 1 t;
  modifiers = extended_after 2 t;
  others = extended_after 3 t;
  end = extended_end t;
}
