-- Document 02, ask 2: "an ID shared with an enabled processor is no longer a fault; two enabled I/O APICs with one ID still are."
-- When 16 is given, by the entries at places of the table, and that processors have no part in it. Assumes nothing.
use Rattle.std.specs.Prelude.{Ok, Err}
use Prim.Native.Nat.{ℕ, zero, suc, ◌<◌}
use mathlib.Core.Path.{◌≡◌, sym, ◌∙◌}
use mathlib.Core.Bool.{Bool, true, false, ◌||◌, ◌&&◌, true≢false, or-true}
use mathlib.Core.List.{List, [], ◌∷◌}
use mathlib.Core.Logic.{◌↔◌, ◌⊎◌, inl, inr}
use native.Mathlib.Omega.{arith}
use lib.ListN.{get_or, take}
use lib.Dec.{eqb}
use borrow.Author.Tests.{eq-eqb, eqb-true}
use Rattle.mps.specs.Words.{among, any, twice, keep, each}
use Rattle.mps.specs.Layout.{Entry, of_type, io_apic_type, id_of, enabled, everyone, base_entries}
use Rattle.mps.specs.Rules.{enabled_of, enabled_ids, misplaced, wrong_io_apics}
use Rattle.mps.specs.Judge.{table_rules, judged}
use Rattle.mps.specs.Refusals.{inner_number}
use Rattle.mps.specs.Edits.{Edit, edited_table, inner_refusal, edit_refusal, edited}
use Rattle.mps.specs.declared.refusals.Refusal.TheVariants.{IoApics}
use Rattle.mps.specs.declared.refusals.EditRefusal.TheVariants.{Inner}
use Rattle.laws.proofs.Tests.{whether, either, and_parts}
use Rattle.laws.proofs.Lists.{any_none, any_keep, keep_keep, keep_in, keep_out, among_each}
use Rattle.laws.proofs.Refusals.{so}
use Rattle.promises.specs.Declared.{target}
use Rattle.promises.specs.IoApics.{IoApicAt, WrongAlone, TwoOfOneId}
use Rattle.promises.proofs.Given.{given_16}
use Rattle.promises.proofs.Judge.{refused_exactly}
use Rattle.promises.proofs.Edits.{inner_exactly}

-- The enabled I/O APICs.
abbrev ons : List Entry → List Entry
ons es = keep (target io_apic_type) es

enabled_ons : (es : List Entry) → enabled_of io_apic_type es ≡ ons es
unfolding enabled_of target
enabled_ons es = keep_keep enabled (of_type io_apic_type) es

-- ---- One at a place

later : {es : List Entry} (e : Entry) {i : ℕ} → IoApicAt es i → IoApicAt (e ∷ es) (suc i)
later e h = record { there = omega (arith, h.there); on = h.on }

sooner : {es : List Entry} (e : Entry) {i : ℕ} → IoApicAt (e ∷ es) (suc i) → IoApicAt es i
sooner e h = record { there = omega (arith, h.there); on = h.on }

-- Some one passes a test.
module _ (test : Entry → Bool) where
  abbrev passes : Entry → Bool
  passes e = target io_apic_type e && test e

  place_found : (es : List Entry) → any passes es ≡ true → (i : ℕ) × IoApicAt es i × (test (get_or es i []) ≡ true)
  unfolding any
  place_found [] a = absurd (true≢false (sym a))
  place_found (e ∷ es) a =
      either (passes e) (any passes es) a
      (λ h. let p = and_parts (target io_apic_type e) (test e) h in (0, record { there = omega arith; on = p.0 }, p.1))
      (λ r. let f = place_found es r in (suc f.0, later e f.1, f.2))

  one_found : (es : List Entry) → any test (ons es) ≡ true → (i : ℕ) × IoApicAt es i × (test (get_or es i []) ≡ true)
  one_found es a = place_found es (sym (any_keep test (target io_apic_type) es) ∙ a)

  one_finds : (es : List Entry) (i : ℕ) → IoApicAt es i → test (get_or es i []) ≡ true → any test (ons es) ≡ true
  one_finds es i here t =
      whether (any test (ons es)) (λ a. a)
      (λ n.
      let none = any_none passes [] es (sym (any_keep test (target io_apic_type) es) ∙ n) i here.there in
      absurd (true≢false (rw (here.on, t) at none)))

-- ---- Two of one ID

two_found : (es : List Entry) → twice (each id_of (ons es)) ≡ true → TwoOfOneId es
unfolding twice keep each
two_found [] t = absurd (true≢false (sym t))
two_found (e ∷ es) t =
    whether (target io_apic_type e)
    (λ on.
    either (among (id_of e) (each id_of (ons es))) (twice (each id_of (ons es))) (rw (keep_in (target io_apic_type) e es on) at t)
    (λ a.
    let f = one_found (λ (x : Entry). eqb (id_of e) (id_of x)) es (sym (among_each (id_of e) id_of (ons es)) ∙ a) in
    record {
      one = 0;
      other = suc f.0;
      apart = omega arith;
      one_apic = record { there = omega arith; on = on };
      other_apic = later e f.1;
      same_id = eqb-true (id_of e) (id_of (get_or es f.0 [])) f.2;
    })
    (λ r. behind (two_found es r)))
    (λ off. behind (two_found es (rw (keep_out (target io_apic_type) e es off) at t)))
  where
    behind : TwoOfOneId es → TwoOfOneId (e ∷ es)
    behind f = record {
      one = suc f.one;
      other = suc f.other;
      apart = omega (arith, f.apart);
      one_apic = later e f.one_apic;
      other_apic = later e f.other_apic;
      same_id = f.same_id;
    }

two_finds :
    (es : List Entry) (i j : ℕ) → i < j → IoApicAt es i → IoApicAt es j → id_of (get_or es i []) ≡ id_of (get_or es j [])
    → twice (each id_of (ons es)) ≡ true
unfolding twice keep each
two_finds [] i j l a b q = absurd (omega (arith, a.there))
two_finds (e ∷ es) i zero l a b q = absurd (omega (arith, l))
two_finds (e ∷ es) zero (suc j) l a b q =
    let found = one_finds (λ (x : Entry). eqb (id_of e) (id_of x)) es j (sooner e b) (eq-eqb (id_of e) (id_of (get_or es j [])) q) in
    rw (keep_in (target io_apic_type) e es a.on, among_each (id_of e) id_of (ons es), found)
two_finds (e ∷ es) (suc i) (suc j) l a b q =
    let rest = two_finds es i j (omega (arith, l)) (sooner e a) (sooner e b) q in
    whether (target io_apic_type e)
    (λ on. rw (keep_in (target io_apic_type) e es on, rest) (or-true (among (id_of e) (each id_of (ons es)))))
    (λ off. rw (keep_out (target io_apic_type) e es off) rest)

-- ---- Number 16

module _ (es : List Entry) where
  abbrev ids : List ℕ
  ids = each id_of (ons es)

  row_16 : wrong_io_apics es ≡ (among everyone ids || twice ids || any misplaced (ons es))
  unfolding wrong_io_apics enabled_ids
  row_16 = rw (enabled_ons es)

  alone :
      (test : Entry → Bool) → ((e : Entry) → test e ≡ true → (eqb everyone (id_of e) || misplaced e) ≡ true)
      → any test (ons es) ≡ true → WrongAlone es
  alone test f a = let p = one_found test es a in record { place = p.0; apic = p.1; wrong = f (get_or es p.0 []) p.2 }

  -- The row, by places,
  pub wrong_16 : (wrong_io_apics es ≡ true) ↔ (WrongAlone es ⊎ TwoOfOneId es)
  wrong_16 = (to, from)
    where
      to : wrong_io_apics es ≡ true → WrongAlone es ⊎ TwoOfOneId es
      to w =
          either (among everyone ids || twice ids) (any misplaced (ons es)) (sym row_16 ∙ w)
          (λ i. either (among everyone ids) (twice ids) i
          (λ a. inl (alone (λ (e : Entry). eqb everyone (id_of e)) (λ e t. rw t) (sym (among_each everyone id_of (ons es)) ∙ a)))
          (λ t. inr (two_found es t)))
          (λ m. inl (alone misplaced (λ e t. rw t (or-true (eqb everyone (id_of e)))) m))

      from : WrongAlone es ⊎ TwoOfOneId es → wrong_io_apics es ≡ true
      from (inl w) =
          let e = get_or es w.place [] in
          either (eqb everyone (id_of e)) (misplaced e) w.wrong
          (λ h. row_16 ∙ rw (among_each everyone id_of (ons es), one_finds (λ (x : Entry). eqb everyone (id_of x)) es w.place w.apic h))
          (λ h. row_16 ∙ rw (one_finds misplaced es w.place w.apic h) (or-true (among everyone ids || twice ids)))
      from (inr w) =
          row_16 ∙ rw (two_finds es w.one w.other w.apart w.one_apic w.other_apic w.same_id, or-true)

  -- which asks nothing of any other entry: two lists of the same I/O APICs are both wrong or both right, whatever processors they
  -- have.
  pub processors_aside : (fs : List Entry) → keep (of_type io_apic_type) es ≡ keep (of_type io_apic_type) fs → wrong_io_apics es ≡ wrong_io_apics fs
  unfolding wrong_io_apics enabled_ids enabled_of
  processors_aside fs e = rw e

-- The judge refuses with 16 exactly when no row before is so, and an enabled I/O APIC is wrong by itself or two have one ID.
pub refused_16 :
    (t : List ℕ)
    → (judged t ≡ Err IoApics)
    ↔ ((any so (take 11 (table_rules t)) ≡ false) × (WrongAlone (base_entries t) ⊎ TwoOfOneId (base_entries t)))
refused_16 t =
    let answer = refused_exactly t IoApics in
    let given = given_16 t in
    let row = wrong_16 (base_entries t) in (
      λ e. let g = given.0 (answer.0 e) in (g.0, row.0 g.1),
      λ g. answer.1 (given.1 (g.0, row.1 g.1)),
    )

-- "Edits judge by the amended rule.": the inner number is 16 exactly when an edit is refused by its table, and that table's
-- I/O APICs are wrong so.
pub inner_16 :
    (t : List ℕ) (e : Edit)
    → (edited t e ≡ Err (Inner IoApics))
    ↔ ((edit_refusal t e ≡ inner_number)
    × (any so (take 11 (table_rules (edited_table t e))) ≡ false)
    × (WrongAlone (base_entries (edited_table t e)) ⊎ TwoOfOneId (base_entries (edited_table t e))))
unfolding inner_refusal
inner_16 t e =
    let answer = inner_exactly t e IoApics in
    let given = given_16 (edited_table t e) in
    let row = wrong_16 (base_entries (edited_table t e)) in (
      λ d. let k = answer.0 d in let g = given.0 k.1 in (k.0, g.0, row.0 g.1),
      λ h. answer.1 (h.0, given.1 (h.1, row.1 h.2)),
    )
