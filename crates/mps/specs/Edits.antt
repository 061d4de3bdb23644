-- Edits. Document 01, numbers 20 to 23, and "Edits test the table, then 20 to 23".
use Rattle.std.specs.Prelude.{ℕ, ◌+◌, Bool, cond, not, ◌||◌, List, [], ◌∷◌, ◌++◌, length, get_or, take, set, ltb, eqb, Result}
use Rattle.std.proofs.lemmas.List.Edits.{sets}
use Rattle.mps.specs.Words.{same, each}
use Rattle.mps.specs.Refusals.{Rule, ◌when◌, refusal, inner_number}
use Rattle.mps.specs.Sums.{total, sum256, to_store}
use Rattle.mps.specs.Layout.{Entry, type, header_size, checksum_at, base_bytes, entry_count, base_entries}
use Rattle.mps.specs.Judge.{table_rules, table_refusal}
use Rattle.mps.specs.Answers.{edited_of}
use Rattle.mps.specs.declared.refusals.EditRefusal.{EditRefusal}

-- An edit: the number of a base entry, the bytes that its author saw there, and those that are to stand there.
pub record Edit : Type 0 where
  pub place : ℕ
  pub stated : List ℕ
  pub wanted : List ℕ

-- The entry that stands at a place.
unfoldable pub standing : List ℕ → ℕ → Entry
standing t place = get_or (base_entries t) place []

-- How many bytes the entries before a place have.
unfoldable pub before : ℕ → List Entry → ℕ
before place es = total (each length (take place es))

-- Where it stands: behind the header and the entries before it.
unfoldable pub offset_of : List ℕ → ℕ → ℕ
offset_of t place = header_size + before place (base_entries t)

-- A table with the byte at 7 that brings its base to 0.
unfoldable pub sealed : List ℕ → List ℕ
sealed t = set t checksum_at (to_store (sum256 (base_bytes (set t checksum_at 0))))

-- The edited table: the wanted bytes in the entry's stead, and the base checksum for them.
unfoldable pub edited_table : List ℕ → Edit → List ℕ
edited_table t e = sealed (sets t (offset_of t e.place) e.wanted)

-- ---- Numbers 20 to 23

-- 20: "edit place not below the entry count"
unfoldable pub no_place : List ℕ → Edit → Bool
no_place t e = not (ltb e.place (entry_count t))

-- 21: "either stated or wanted length differs from the standing entry's, or wanted type differs"
unfoldable pub other_shape : List ℕ → Edit → Bool
other_shape t e =
    not (eqb (length e.stated) (length (standing t e.place)))
    || not (eqb (length e.wanted) (length (standing t e.place)))
    || not (eqb (type e.wanted) (type (standing t e.place)))

-- 22: "stated bytes differ from the standing ones"
unfoldable pub changed : List ℕ → Edit → Bool
changed t e = not (same e.stated (standing t e.place))

-- 23: "the edited table would be refused; the inner number is given too"
unfoldable pub inner_refusal : List ℕ → Edit → ℕ
inner_refusal t e = table_refusal (edited_table t e)

-- What is tested before anything is written.
abbrev pub entry_rules : List ℕ → Edit → List Rule
entry_rules t e = 20 when no_place t e ∷ 21 when other_shape t e ∷ 22 when changed t e ∷ []

unfoldable pub edit_rules : List ℕ → Edit → List Rule
edit_rules t e =
    table_rules t
    ++ (entry_rules t e ++ (inner_number when not (eqb (inner_refusal t e) 0) ∷ []))

unfoldable pub edit_refusal : List ℕ → Edit → ℕ
edit_refusal t e = refusal (edit_rules t e)

-- ---- The call

-- The answer.
unfoldable pub edited : List ℕ → Edit → Result (Unit {0}) EditRefusal
edited t e = edited_of (edit_refusal t e) (inner_refusal t e)

-- What the call leaves of the table: a refusal changes no byte.
unfoldable pub edit_left : List ℕ → Edit → List ℕ
edit_left t e = cond (eqb (edit_refusal t e) 0) (edited_table t e) t

-- ---- A run of edits, accepted and refused mixed: what it leaves, and its answers in their order

-- What a run leaves: each edit is made on what the ones before it left.
unfoldable pub run : List ℕ → List Edit → List ℕ
run t [] = t
run t (e ∷ es) = run (edit_left t e) es

-- The answer of each.
unfoldable pub run_answers : List ℕ → List Edit → List (Result (Unit {0}) EditRefusal)
run_answers t [] = []
run_answers t (e ∷ es) = edited t e ∷ run_answers (edit_left t e) es
