-- The numbers of an edit, "given exactly when"; demand 3: "In a sound table, with a place that exists and the right lengths
-- and type, it is refused as changed exactly when other bytes stand there"; and what an accepted edit tells. Assumes nothing.
use Rattle.std.specs.Prelude.{Ok, Err, Result}
use Prim.Native.Nat.{ℕ, suc, ◌<◌, ◌≤◌, zero}
use mathlib.Core.Path.{◌≡◌, refl, sym, ap, ◌∙◌}
use mathlib.Core.Bool.{true, false, not, true≢false}
use mathlib.Core.Logic.{◌↔◌}
use mathlib.Core.List.{List, [], ◌∷◌, ◌++◌}
use native.Mathlib.Omega.{arith}
use lib.ListN.{take, drop}
use lib.Dec.{ltb, eqb}
use borrow.Author.Tests.{eq-eqb, ne_eqb, eqb-true, ltb-false}
use Rattle.mps.specs.Words.{among, any, each}
use Rattle.mps.specs.Refusals.{Rule, ◌when◌, refusal, inner_number}
use Rattle.mps.specs.Reasons.{number_of_refusal}
use Rattle.mps.specs.Answers.{number_of, edited_of, edited_numbers}
use Rattle.mps.specs.declared.refusals.Refusal.{Refusal}
use Rattle.mps.specs.declared.refusals.Refusal.TheVariants.{Changed}
use Rattle.laws.proofs.Answers.{refusal_small, numbered_number, number_numbered}
use Rattle.mps.specs.Judge.{table_rules, table_refusal}
use Rattle.mps.specs.Edits.{Edit, standing, edited_table, no_place, other_shape, changed, inner_refusal, edit_rules, edit_refusal, edited, edit_left}
use Rattle.mps.specs.declared.refusals.EditRefusal.{EditRefusal}
use Rattle.mps.specs.declared.refusals.EditRefusal.TheVariants.{Refused, Inner}
use Rattle.laws.proofs.Tests.{whether, or_parts}
use Rattle.laws.proofs.Refusals.{number, so, refusal_append, refusal_below, refusal_none, given_exactly}
use Rattle.accepted.proofs.Sound.{sound, sound_rest}
use Rattle.accepted.proofs.Shaped.{Shaped, shape_passes, other_bytes}
use Rattle.accepted.proofs.Replaced.{replaced_sound}
use Rattle.editor.specs.Tested.{test_rules}
use Rattle.editor.proofs.Laws.{passed_tests, edit_none, edit_passes}
use Rattle.promises.proofs.Numbered.{edit_number, inner_known}
use Rattle.promises.proofs.Given.{Exactly}

-- ---- The answer and the number

-- The inner number that an answer tells, 0 where it tells none.
inner_of : Result (Unit {0}) EditRefusal → ℕ
inner_of (Ok u) = 0
inner_of (Err (Refused r)) = 0
inner_of (Err (Inner r)) = number_of_refusal r

module _ (t : List ℕ) (e : Edit) where
  number_edited : {r : Result (Unit {0}) EditRefusal} → edited t e ≡ r → edit_refusal t e ≡ number_of (edited_numbers r)
  number_edited d = sym (edit_number t e) ∙ ap (λ (r : Result (Unit {0}) EditRefusal). number_of (edited_numbers r)) d

  answered : {n : ℕ} → edit_refusal t e ≡ n → edited t e ≡ edited_of n (inner_refusal t e)
  unfolding edited
  answered n = ap (λ (k : ℕ). edited_of k (inner_refusal t e)) n

  pub done_exactly : (edited t e ≡ Ok tt) ↔ (edit_refusal t e ≡ 0)
  done_exactly = (number_edited, answered)

  -- A refusal is answered with its number, but for 23.
  pub edit_refused : (r : Refusal) → (edited t e ≡ Err (Refused r)) ↔ (edit_refusal t e ≡ number_of_refusal r)
  edit_refused r = (number_edited, λ q. answered q ∙ told (number_of_refusal r) (refusal_small r) refl)
    where
      told : (n : ℕ) → (0 < n) × (n < 256) × (eqb n inner_number ≡ false) → n ≡ number_of_refusal r
          → edited_of n (inner_refusal t e) ≡ Err (Refused r)
      told zero h q = absurd (omega (arith, h))
      told (suc n) h q = rw (h.2, q, numbered_number r)

-- ---- 20 to 23: exactly when their row is so and no row before it is

module _ (t : List ℕ) (e : Edit) where
  -- 20: edit place not below the entry count
  pub given_20 : Exactly (edit_refusal t e) 20 (take 14 (edit_rules t e)) (no_place t e)
  unfolding edit_refusal edit_rules table_rules among each
  given_20 = given_exactly (take 14 (edit_rules t e)) 20 (no_place t e) (drop 15 (edit_rules t e)) (omega arith) refl refl

  -- 21: either stated or wanted length differs from the standing entry's, or wanted type differs
  pub given_21 : Exactly (edit_refusal t e) 21 (take 15 (edit_rules t e)) (other_shape t e)
  unfolding edit_refusal edit_rules table_rules among each
  given_21 = given_exactly (take 15 (edit_rules t e)) 21 (other_shape t e) (drop 16 (edit_rules t e)) (omega arith) refl refl

  -- 22: stated bytes differ from the standing ones
  pub given_22 : Exactly (edit_refusal t e) 22 (take 16 (edit_rules t e)) (changed t e)
  unfolding edit_refusal edit_rules table_rules among each
  given_22 = given_exactly (take 16 (edit_rules t e)) 22 (changed t e) (drop 17 (edit_rules t e)) (omega arith) refl refl

  -- 23: the edited table would be refused
  pub given_23 : Exactly (edit_refusal t e) inner_number (take 17 (edit_rules t e)) (not (eqb (inner_refusal t e) 0))
  unfolding edit_refusal edit_rules table_rules among each
  given_23 =
      given_exactly (take 17 (edit_rules t e)) inner_number (not (eqb (inner_refusal t e) 0)) (drop 18 (edit_rules t e)) (omega arith) refl refl

  -- "the inner number is given too": it is the edited table's.
  pub inner_exactly : (r : Refusal) → (edited t e ≡ Err (Inner r)) ↔ ((edit_refusal t e ≡ inner_number) × (inner_refusal t e ≡ number_of_refusal r))
  unfolding inner_of
  inner_exactly r = (
    λ d.
        let k = number_edited t e d in
        let some : inner_refusal t e ≡ 0 → ⊥ = λ z. true≢false (sym (given_23.0 k).1 ∙ rw (eq-eqb (inner_refusal t e) 0 z)) in
        (k, sym (number_numbered (inner_refusal t e) some (inner_known t e)) ∙ ap inner_of (sym (answered t e k) ∙ d)),
    λ h. answered t e h.0 ∙ rw (h.1, numbered_number r),
  )

  -- Accepted: no row is so.
  pub given_done : (edited t e ≡ Ok tt) ↔ (any so (edit_rules t e) ≡ false)
  unfolding edit_refusal edit_rules table_rules among each
  given_done =
      let done = done_exactly t e in
      let none = refusal_none (edit_rules t e) refl in
      (λ d. none.0 (done.0 d), λ n. done.1 (none.1 n))

-- ---- Refused as changed

-- "In a sound table, with a place that exists and the right lengths and type": no row before 22 is so.
before_22 : (t : List ℕ) (e : Edit) → table_refusal t ≡ 0 → Shaped t e → any so (take 16 (edit_rules t e)) ≡ false
unfolding edit_rules table_refusal table_rules refusal among each
before_22 t e a h =
    let shape = shape_passes t e h in
    let rows = 20 when no_place t e ∷ 21 when other_shape t e ∷ [] in
    (refusal_none (table_rules t ++ rows) refl).0 (refusal_append (table_rules t) rows refl ∙ rw (a, shape.0, shape.1))

-- ".. it is refused as changed exactly when other bytes stand there."
pub changed_exactly : (t : List ℕ) (e : Edit) → table_refusal t ≡ 0 → Shaped t e
    → (edited t e ≡ Err (Refused Changed)) ↔ (e.stated ≡ standing t e.place → ⊥)
changed_exactly t e a h =
    let number = edit_refused t e Changed in
    let given = given_22 t e in
    let bytes = other_bytes t e in
    (λ d. bytes.0 (given.0 (number.0 d)).1, λ o. number.1 (given.1 (before_22 t e a h, bytes.1 o)))

-- ---- An accepted edit

-- The table was sound, the edit had the right shape, its author saw what stood there, and the edited table is accepted.
pub record Accepted (t : List ℕ) (e : Edit) : Type 0 where
  pub table : table_refusal t ≡ 0
  pub shaped : Shaped t e
  pub seen : e.stated ≡ standing t e.place
  pub again : table_refusal (edited_table t e) ≡ 0
  pub left : edit_left t e ≡ edited_table t e

pub done_accepted : (t : List ℕ) (e : Edit) → edited t e ≡ Ok tt → Accepted t e
unfolding inner_refusal edit_left
done_accepted t e d =
    let n = (done_exactly t e).0 d in
    let told = edit_none t e n in
    let p = told.0 in
    record { table = p.table; shaped = p.shaped; seen = p.seen; again = told.1; left = rw n }

-- And where all that is so, it is accepted.
pub accepted_done : (t : List ℕ) (e : Edit) → table_refusal t ≡ 0 → Shaped t e → e.stated ≡ standing t e.place
    → table_refusal (edited_table t e) ≡ 0 → edited t e ≡ Ok tt
unfolding inner_refusal
accepted_done t e a h s i = (done_exactly t e).1 (edit_passes t e (record { table = a; shaped = h; seen = s }) i)

-- A refusal changes no byte.
pub refused_unchanged : (t : List ℕ) (e : Edit) → (edited t e ≡ Ok tt → ⊥) → edit_left t e ≡ t
unfolding edit_left
refused_unchanged t e n = rw (ne_eqb (edit_refusal t e) 0 (λ z. n ((done_exactly t e).1 z)))

-- Done or not.
pub done_or : {C : Type 0} (t : List ℕ) (e : Edit) → (edited t e ≡ Ok tt → C) → ((edited t e ≡ Ok tt → ⊥) → C) → C
done_or t e f g =
    let done = done_exactly t e in
    whether (eqb (edit_refusal t e) 0)
    (λ z. f (done.1 (eqb-true (edit_refusal t e) 0 z)))
    (λ z. g (λ d. true≢false (sym (eq-eqb (edit_refusal t e) 0 (done.0 d)) ∙ z)))

-- ---- The inner number

-- A number that is given is no lower than every row's.
refusal_above : (k : ℕ) (rows : List Rule) → any (λ (r : Rule). ltb (number r) k) rows ≡ false → (refusal rows ≡ 0 → ⊥) → k ≤ refusal rows
unfolding refusal any
refusal_above k [] a n = absurd (n refl)
refusal_above k (m when true ∷ rows) a n =
    ltb-false m k (or_parts (ltb m k) (any (λ (r : Rule). ltb (number r) k) rows) a).0
refusal_above k (m when false ∷ rows) a n =
    refusal_above k rows (or_parts (ltb m k) (any (λ (r : Rule). ltb (number r) k) rows) a).1 n

inner_late : (t : List ℕ) (e : Edit) → table_refusal t ≡ 0 → Shaped t e → (inner_refusal t e ≡ 0 → ⊥)
    → (14 ≤ inner_refusal t e) × (inner_refusal t e < 19)
unfolding inner_refusal table_rules any
inner_late t e a h n =
    let u = edited_table t e in
    let rows = drop 9 (table_rules u) in
    let r = sound_rest u (replaced_sound t e (sound t a) h) in
    (rw r (refusal_above 14 rows refl (λ z. n (r ∙ z))), rw r (refusal_below 19 rows (omega arith) refl))

-- The edited table passes 5 to 13 again, so that the number which 23 gives too is one of 14 to 18.
pub inner_number_lem : (t : List ℕ) (e : Edit) (r : Refusal) → edited t e ≡ Err (Inner r) → (14 ≤ number_of_refusal r) × (number_of_refusal r < 19)
unfolding edit_rules test_rules table_rules among each
inner_number_lem t e r d =
    let k = (inner_exactly t e r).0 d in
    let g = (given_23 t e).0 k.0 in
    let p = passed_tests t e ((refusal_none (test_rules t e) refl).1 g.0) in
    rw k.1 at (inner_late t e p.table p.shaped (λ z. true≢false (sym g.1 ∙ rw (eq-eqb (inner_refusal t e) 0 z))))
