-- The listing from its parts, as the code makes it.
use Rattle.std.specs.Prelude.{ℕ, ◌+◌, List, ◌++◌, length}
use Rattle.mps.specs.Words.{joined}
use Rattle.mps.specs.Layout.{base_entries, extended_entries}
use Rattle.mps.specs.Listing.{base_line, extended_line, pointer_line, table_line, end_line, table_lines}

-- The listing of a dump that holds a table: where its pointer stands, the pointer's bit, the table's address, the table.
unfoldable pub table_text : ℕ → ℕ → ℕ → List ℕ → List ℕ
table_text pointer imcr address t = pointer_line pointer imcr ++ table_lines address t

-- How long the lines around its entries are.
unfoldable pub frame_length : ℕ → ℕ → ℕ → ℕ → ℕ → ℕ → ℕ
frame_length pointer imcr address base extended count =
    length (pointer_line pointer imcr) + length (table_line address base extended count) + length end_line

-- The lines of all entries of a table.
unfoldable pub entries_text : List ℕ → List ℕ
entries_text t = joined base_line (base_entries t) ++ joined extended_line (extended_entries t)
