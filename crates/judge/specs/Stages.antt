-- The rows of the table of refusals as the judge comes to them: the header's (5 to 9), the walk's (10 to 12), the extended
-- part's (13), then one rule after the other; and what is known on the way.
use Rattle.std.specs.Prelude.{ℕ, ◌≡◌, List, take, drop}
use Rattle.mps.specs.Refusals.{Rule, refusal}
use Rattle.mps.specs.Layout.{base_length, base_part, entry_count}
use Rattle.mps.specs.Sections.{base_after, sections}
use Rattle.mps.specs.Judge.{table_rules, table_refusal}
use Rattle.mps.specs.declared.Sections.{Sections}
use Rattle.header.specs.Header.{header_refusal}
use Rattle.sections.specs.Base.{base_fault}
use Rattle.judge.specs.Placed.{Placed}

-- ---- The rows

-- 10 to 12.
unfoldable pub walk_rules : List ℕ → List Rule
walk_rules t = take 3 (drop 5 (table_rules t))

-- Their number: that of the first faulty entry, and 11 where there is none and the count differs.
unfoldable pub walk_number : List ℕ → ℕ
walk_number t = base_fault (base_part t) (entry_count t)

-- From a number on.
unfoldable pub from14 : List ℕ → List Rule
from14 t = drop 9 (table_rules t)

unfoldable pub from15 : List ℕ → List Rule
from15 t = drop 1 (from14 t)

unfoldable pub from16 : List ℕ → List Rule
from16 t = drop 1 (from15 t)

unfoldable pub from17 : List ℕ → List Rule
from17 t = drop 1 (from16 t)

unfoldable pub from18 : List ℕ → List Rule
from18 t = drop 1 (from17 t)

-- ---- What is known on the way

-- Behind the walk over the base: 5 to 12 are passed, and p has the places of the base entries.
pub record Walked (t : List ℕ) (p : Sections) : Type 0 where
  pub header : header_refusal t ≡ 0
  pub walk : walk_number t ≡ 0
  pub buses : p.buses ≡ base_after 1 t
  pub ioapics : p.ioapics ≡ base_after 2 t
  pub interrupts : p.interrupts ≡ base_after 3 t
  pub locals : p.locals ≡ base_after 4 t
  pub mappings : p.mappings ≡ base_length t

-- Behind the walk over the extended part: 5 to 13 are passed, and p has all places.
pub record Ready (t : List ℕ) (p : Sections) : Type 0 where
  pub number : table_refusal t ≡ refusal (from14 t)
  pub places : p ≡ sections t
  pub placed : Placed t p
