-- The answer of an edit, from its tests and its exchange. Assumes nothing.
use Rattle.std.proofs.Common.{◌≡◌, ℕ, zero, suc, ◌<◌, false, not, eqb, leb, List, [], ◌∷◌, sym, refl, ap, ◌∙◌, append_assoc, arith, eq-eqb, ne_eqb, eqb-true}
use Rattle.std.specs.Prelude.{Result, Ok, Err}
use Rattle.mps.specs.Words.{among, any, each, first}
use Rattle.mps.specs.Refusals.{Rule, ◌when◌, refusal, inner_number}
use Rattle.mps.specs.Reasons.{refusal_numbered}
use Rattle.mps.specs.Answers.{answered, edited_of}
use Rattle.mps.specs.Judge.{table_rules, table_refusal, examined}
use Rattle.mps.specs.Edits.{Edit, standing, no_place, other_shape, changed, inner_refusal, edit_rules, edit_refusal, edited, edit_left, entry_rules}
use Rattle.mps.specs.declared.Sections.{Sections}
use Rattle.mps.specs.declared.refusals.Refusal.{Refusal}
use Rattle.mps.specs.declared.refusals.EditRefusal.{EditRefusal}
use Rattle.mps.specs.declared.refusals.EditRefusal.TheVariants.{Refused}
use Rattle.laws.proofs.Answers.{given_ok, given_err}
use Rattle.laws.proofs.Refusals.{number, first_some, first_none, refusal_append, refusal_pass, refusal_below}
use Rattle.laws.proofs.Small.{Bytes}
use Rattle.judge.proofs.Laws.{behind_table_lem, refused_table, accepted_number, accepted_sections, accepted_places}
use Rattle.editor.specs.Tested.{Accepted, Ready, test_rules, exchanged_of, exchanged, exchange_left}
use Rattle.accepted.proofs.Shaped.{Shaped, shape_passes, passes_shape, unchanged_seen, seen_unchanged}

-- ---- Numbers and answers

refused_answer : (n inner : ℕ) → 0 < n → n < inner_number → Err (Refused (refusal_numbered n)) ≡ edited_of n inner
refused_answer zero inner p h = absurd (omega arith)
refused_answer (suc n) inner p h = rw (ne_eqb (suc n) 23 (λ e. omega arith))

-- 23 is given where the inner number is not 0.
inner : ℕ → ℕ
inner n = refusal (inner_number when not (eqb n 0) ∷ [])

inner_answer : (n : ℕ) → exchanged_of n ≡ edited_of (inner n) n
unfolding inner refusal
inner_answer zero = refl
inner_answer (suc n) = rw (ne_eqb (suc n) 0 (λ e. omega arith))

inner_none : (n : ℕ) → eqb (inner n) 0 ≡ eqb n 0
unfolding inner refusal
inner_none zero = refl
inner_none (suc n) = rw (ne_eqb (suc n) 0 (λ e. omega arith))

-- What the judge's answer tells of an accepted table.
pub examined_table : (t : List ℕ) → Bytes t → {r : Result Sections Refusal} {p : Sections} → r ≡ examined t → r ≡ Ok p → Accepted t p
examined_table t b e q =
    record { number = sym (accepted_number t e q); places = accepted_sections t e q; placed = accepted_places t b e q }

-- ---- The edit

tests_number : (t : List ℕ) (e : Edit) → refusal (test_rules t e) ≡ first (table_refusal t) (refusal (entry_rules t e))
unfolding test_rules
tests_number t e = behind_table_lem t (entry_rules t e)

-- No row gives 0, and none of the tests gives 23.
tests_given :
    (t : List ℕ) (e : Edit)
    → (among 0 (each number (test_rules t e)) ≡ false) × (any (λ (r : Rule). leb 23 (number r)) (test_rules t e) ≡ false)
unfolding test_rules table_rules among each any
tests_given t e = (refl, refl)

-- What the tests have shown.
pub record Passed (t : List ℕ) (e : Edit) : Type 0 where
  pub table : table_refusal t ≡ 0
  pub shaped : Shaped t e
  pub seen : e.stated ≡ standing t e.place

pub passed_tests : (t : List ℕ) (e : Edit) → refusal (test_rules t e) ≡ 0 → Passed t e
passed_tests t e z =
    let a = first_none (table_refusal t) (refusal (entry_rules t e)) (sym (tests_number t e) ∙ z) in
    let p = refusal_pass 20 (no_place t e) (21 when other_shape t e ∷ 22 when changed t e ∷ []) (omega arith) a.1 in
    let q = refusal_pass 21 (other_shape t e) (22 when changed t e ∷ []) (omega arith) p.1 in
    let b = refusal_pass 22 (changed t e) [] (omega arith) q.1 in
    record { table = a.0; shaped = passes_shape t e p.0 q.0; seen = unchanged_seen t e b.0 }

module _ (t : List ℕ) (e : Edit) where
  edit_number : edit_refusal t e ≡ first (refusal (test_rules t e)) (inner (inner_refusal t e))
  unfolding edit_refusal edit_rules test_rules inner
  edit_number =
      ap refusal (sym (append_assoc (table_rules t) (entry_rules t e) _))
      ∙ refusal_append (test_rules t e) _ (tests_given t e).0

  -- No number is given exactly where the tests are passed and the edited table is accepted.
  pub edit_none : edit_refusal t e ≡ 0 → Passed t e × (inner_refusal t e ≡ 0)
  edit_none n =
      let i = inner_refusal t e in
      let parts = first_none (refusal (test_rules t e)) (inner i) (sym edit_number ∙ n) in
      (passed_tests t e parts.0, eqb-true i 0 (sym (inner_none i) ∙ eq-eqb (inner i) 0 parts.1))

  pub edit_passes : Passed t e → inner_refusal t e ≡ 0 → edit_refusal t e ≡ 0
  unfolding refusal inner
  edit_passes p i =
      let shape = shape_passes t e p.shaped in
      edit_number ∙ rw (tests_number t e, p.table, shape.0, shape.1, seen_unchanged t e p.seen, i)

  edit_refused : (n : ℕ) {r : Refusal} {x : EditRefusal} → refusal (test_rules t e) ≡ n → (n ≡ 0 → ⊥) → r ≡ refusal_numbered n → x ≡ Refused r
      → (Err x ≡ edited t e) × (t ≡ edit_left t e)
  unfolding edited edit_left
  edit_refused n q z g h =
      let b = refusal_below 23 (test_rules t e) (omega arith) (tests_given t e).1 in
      let k : edit_refusal t e ≡ n = edit_number ∙ first_some _ _ (λ x. z (sym q ∙ x)) ∙ q in
      (rw (h, g, k) (refused_answer n _ (omega arith) (omega arith)), rw (k, ne_eqb n 0 z))

  -- By the table's own refusal, or by one of 20 to 22.
  pub table_refused :
      {found : Result Sections Refusal} → found ≡ examined t → {r : Refusal} → found ≡ Err r → {x : EditRefusal} → x ≡ Refused r
      → (Err x ≡ edited t e) × (t ≡ edit_left t e)
  table_refused f q h =
      let g = refused_table t f q in
      edit_refused (table_refusal t) (tests_number t e ∙ first_some (table_refusal t) _ g.0) g.0 g.1 h

  module _ {p : Sections} (a : Accepted t p) {tested : Result (Unit {0}) Refusal} (q : tested ≡ answered (refusal (entry_rules t e)) (tt {0})) where
    tests : refusal (test_rules t e) ≡ refusal (entry_rules t e)
    tests = tests_number t e ∙ rw a.number

    pub entry_refused : {r : Refusal} → tested ≡ Err r → {x : EditRefusal} → x ≡ Refused r → (Err x ≡ edited t e) × (t ≡ edit_left t e)
    entry_refused k h =
        let g = given_err (refusal (entry_rules t e)) (tt {0}) (sym k ∙ q) in
        edit_refused (refusal (entry_rules t e)) tests g.0 g.1 h

    module _ {u : Unit {0}} (k : tested ≡ Ok u) where
      z : refusal (entry_rules t e) ≡ 0
      z = (given_ok (refusal (entry_rules t e)) (tt {0}) (sym k ∙ q)).0

      -- What the exchange may use.
      pub ready : Ready t p e
      ready = let passed = passed_tests t e (tests ∙ z) in record { table = a; shaped = passed.shaped; seen = passed.seen }

      pub edit_exchanged :
          {r : Result (Unit {0}) EditRefusal} {v : List ℕ} → (r ≡ exchanged t e) × (v ≡ exchange_left t e) → (r ≡ edited t e) × (v ≡ edit_left t e)
      unfolding exchanged exchange_left edited edit_left
      edit_exchanged x =
          let i = inner_refusal t e in
          let k : edit_refusal t e ≡ inner i = rw (tests ∙ z) at edit_number in
          (x.0 ∙ rw k (inner_answer i), x.1 ∙ rw (k, inner_none i))
