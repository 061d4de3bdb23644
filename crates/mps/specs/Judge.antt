-- The numbers 1 to 18 in their order. Document 01, "Refusal numbers, tested in this order".
use Rattle.std.specs.Prelude.{ℕ, cond, not, List, [], ◌∷◌, ◌++◌, Result}
use Rattle.mps.specs.Words.{only}
use Rattle.mps.specs.Refusals.{Rule, ◌when◌, refusal, base_number, type_number, cut_number, order_number, extended_number}
use Rattle.mps.specs.Layout.{base_entries, extended_entries, feature1}
use Rattle.mps.specs.Answers.{answered}
use Rattle.mps.specs.declared.refusals.Refusal.{Refusal}
use Rattle.mps.specs.declared.Sections.{Sections}
use Rattle.mps.specs.declared.Held.{Held}
use Rattle.mps.specs.declared.Held.TheVariants.{Default, Table}
use Rattle.mps.specs.Dump.{sound_dump}
use Rattle.mps.specs.Pointer.{no_pointer, wrong_pointer_revision, wrong_feature, is_default, imcr_of, pointer, pointer_bytes, table_address, table_start, table_end, table_in}
use Rattle.mps.specs.Table.{header_cut, wrong_signature, wrong_base_length, wrong_base_sum, wrong_revision, wrong_type, cut_or_miscounted, descending_type, wrong_extended}
use Rattle.mps.specs.Rules.{wrong_processors, wrong_buses, wrong_io_apics, wrong_interrupts, wrong_spaces}
use Rattle.mps.specs.Sections.{sections}

-- 5 to 18, with 7 and 10 to 13 by their names: "A bare table in a lent buffer is judged as one region holding the buffer".
unfoldable pub table_rules : List ℕ → List Rule
table_rules t =
    5 when header_cut t
    ∷ 6 when wrong_signature t
    ∷ base_number when wrong_base_length t
    ∷ 8 when wrong_base_sum t
    ∷ 9 when wrong_revision t
    ∷ type_number when wrong_type t
    ∷ cut_number when cut_or_miscounted t
    ∷ order_number when descending_type t
    ∷ extended_number when wrong_extended t
    ∷ 14 when wrong_processors t
    ∷ 15 when wrong_buses (base_entries t)
    ∷ 16 when wrong_io_apics (base_entries t)
    ∷ 17 when wrong_interrupts (base_entries t)
    ∷ 18 when wrong_spaces (base_entries t) (extended_entries t)
    ∷ []

-- The number that a bare table is refused with, 0 where it is accepted.
unfoldable pub table_refusal : List ℕ → ℕ
table_refusal t = refusal (table_rules t)

-- 1 to 4.
unfoldable pub pointer_rules : List ℕ → List Rule
pointer_rules d =
    1 when not (sound_dump d)
    ∷ 2 when no_pointer d
    ∷ 3 when wrong_pointer_revision d
    ∷ 4 when wrong_feature d
    ∷ []

-- 1 to 18: a default configuration has no table to judge.
unfoldable pub dump_rules : List ℕ → List Rule
dump_rules d = pointer_rules d ++ only (not (is_default d)) (table_rules (table_in d))

-- The number that a dump is refused with, 0 where it is accepted.
unfoldable pub dump_refusal : List ℕ → ℕ
dump_refusal d = refusal (dump_rules d)

-- ---- What the judge and the dump reader answer

-- The judge's answer of a bare table.
unfoldable pub judged : List ℕ → Result (Unit {0}) Refusal
judged t = answered (table_refusal t) tt

-- The same, and of an accepted table where its entries stand.
unfoldable pub examined : List ℕ → Result Sections Refusal
examined t = answered (table_refusal t) (sections t)

-- What the pointer of a dump tells: "default configuration n", or a table.
unfoldable pub told : List ℕ → Held
told d =
    cond (is_default d) (Default (feature1 (pointer_bytes d)) (imcr_of d))
    (Table (pointer d).address (imcr_of d) (table_address d) (table_start d) (table_end d))

-- The pointer's answer, before any table is judged: 1 to 4, or what it tells.
unfoldable pub pointed : List ℕ → Result Held Refusal
pointed d = answered (refusal (pointer_rules d)) (told d)

-- The dump reader's answer.
unfoldable pub held : List ℕ → Result Held Refusal
held d = answered (dump_refusal d) (told d)
