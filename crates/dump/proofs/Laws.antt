-- What a caller may use of the dump reader's answers. Assumes nothing.
use Prim.Native.Nat.{ℕ, ◌-◌, ◌≤◌, ◌<◌}
use mathlib.Core.Path.{◌≡◌, refl, ap, sym, ◌∙◌}
use mathlib.Core.Bool.{true, false, not}
use mathlib.Core.List.{List}
use native.Mathlib.Omega.{arith}
use lib.ListN.{length, get_or}
use borrow.Author.Tests.{not-false}
use Rattle.mps.specs.Words.{part, among, each, only, first}
use Rattle.mps.specs.Layout.{dump_most, feature1}
use Rattle.mps.specs.Refusals.{refusal}
use Rattle.std.specs.Prelude.{Ok, Err}
use Rattle.mps.specs.Reasons.{refusal_numbered}
use Rattle.mps.specs.Answers.{held_values}
use Rattle.mps.specs.declared.refusals.Refusal.{Refusal}
use Rattle.laws.proofs.Answers.{answered_ok, answered_err, given_ok, given_err}
use Rattle.mps.specs.Dump.{sound_dump}
use Rattle.mps.specs.Pointer.{pointer, pointer_bytes, imcr_of, is_default, table_address, table_start, table_end, table_in}
use Rattle.mps.specs.Judge.{pointer_rules, table_rules, dump_rules, told, pointed, held, dump_refusal, table_refusal}
use Rattle.mps.specs.declared.Held.{Held}
use Rattle.mps.specs.declared.Held.TheVariants.{Default, Table}
use Rattle.laws.proofs.Tests.{whether}
use Rattle.laws.proofs.Refusals.{first_some, first_none, refusal_append, refusal_pass, refusal_end}
use Rattle.contents.proofs.Rules.{sound_parts}
use Rattle.contents.proofs.Laws.{holding_inside, holding_shorter}

-- ---- What is held, taken apart

-- The value at place k of what is held; a default has two values and a table five.
value_at : ℕ → Held → ℕ
value_at k h = get_or (held_values h) k 0

value_count : Held → ℕ
value_count h = length (held_values h)

told_default : (d : List ℕ) → is_default d ≡ true → told d ≡ Default (feature1 (pointer_bytes d)) (imcr_of d)
unfolding told
told_default d t = rw t

told_table :
    (d : List ℕ) → is_default d ≡ false
    → told d ≡ Table (pointer d).address (imcr_of d) (table_address d) (table_start d) (table_end d)
unfolding told
told_table d f = rw f

-- ---- The dump's number, from the pointer's and the table's

dump_number :
    (d : List ℕ)
    → dump_refusal d ≡ first (refusal (pointer_rules d)) (refusal (only (not (is_default d)) (table_rules (table_in d))))
unfolding dump_refusal dump_rules pointer_rules among each
dump_number d = refusal_append (pointer_rules d) (only (not (is_default d)) (table_rules (table_in d))) refl

-- A dump that is not refused has passed 1 to 4.
pub held_none : (d : List ℕ) → dump_refusal d ≡ 0 → refusal (pointer_rules d) ≡ 0
held_none d e = (first_none (refusal (pointer_rules d)) _ (sym (dump_number d) ∙ e)).0

-- ---- What the pointer's answer says of the dump

-- A refusal is the dump's, whose number is not 0.
pub pointed_refused : (d : List ℕ) {r : Refusal} → pointed d ≡ Err r → (dump_refusal d ≡ 0 → ⊥) × (r ≡ refusal_numbered (dump_refusal d))
unfolding pointed
pointed_refused d e =
    let q = given_err (refusal (pointer_rules d)) (told d) (sym e) in
    let number = dump_number d ∙ first_some (refusal (pointer_rules d)) _ q.0 in
    (λ z. q.0 (sym number ∙ z), rw number q.1)

-- What is told is told of a dump that has passed 1 to 4.
pointed_told : (d : List ℕ) {h : Held} → pointed d ≡ Ok h → (refusal (pointer_rules d) ≡ 0) × (h ≡ told d)
unfolding pointed
pointed_told d e = given_ok (refusal (pointer_rules d)) (told d) (sym e)

pub pointed_default :
    (d : List ℕ) (n b : ℕ) → pointed d ≡ Ok (Default n b)
    → (dump_refusal d ≡ 0) × (is_default d ≡ true) × (n ≡ feature1 (pointer_bytes d)) × (b ≡ imcr_of d)
unfolding value_at value_count
pointed_default d n b e =
    let q = pointed_told d e in
    whether (is_default d)
    (λ t.
    let same = q.1 ∙ told_default d t in
    (dump_number d ∙ rw (q.0, t) refusal_end, t, ap (value_at 0) same, ap (value_at 1) same))
    (λ f. absurd (omega (arith, ap value_count (q.1 ∙ told_table d f))))

-- A pointer that names a table: the table is the dump's bytes from s to e, and what it is refused with the dump is.
pub record Pointed (d : List ℕ) (p b a s e : ℕ) : Type 0 where
  pub rules : dump_refusal d ≡ table_refusal (part s e d)
  pub table : is_default d ≡ false
  pub place : p ≡ (pointer d).address
  pub bit : b ≡ imcr_of d
  pub address : a ≡ table_address d
  pub bytes : table_in d ≡ part s e d
  pub order : s ≤ e
  pub inside : e ≤ length d
  pub shorter : e - s < length d
  pub most : length d ≤ dump_most

-- Its place, where the dump is sound.
table_order : (d : List ℕ) → sound_dump d ≡ true → table_start d ≤ table_end d
unfolding table_start table_end
table_order d s = omega (arith, holding_inside d (table_address d) s)

table_inside : (d : List ℕ) → sound_dump d ≡ true → table_end d ≤ length d
unfolding table_end
table_inside d s = (holding_inside d (table_address d) s).0

table_shorter : (d : List ℕ) → sound_dump d ≡ true → table_end d - table_start d < length d
unfolding table_start table_end
table_shorter d s = omega (arith, holding_shorter d (table_address d) s)

pub passed_sound : (d : List ℕ) → refusal (pointer_rules d) ≡ 0 → sound_dump d ≡ true
unfolding pointer_rules
passed_sound d e = not-false (sound_dump d) (refusal_pass 1 (not (sound_dump d)) _ (omega arith) e).0

pub pointed_table : (d : List ℕ) (p b a s e : ℕ) → pointed d ≡ Ok (Table p b a s e) → Pointed d p b a s e
unfolding value_at value_count table_in table_refusal
pointed_table d p b a s e w =
    let q = pointed_told d w in
    let sound = passed_sound d q.0 in
    whether (is_default d)
    (λ t. absurd (omega (arith, ap value_count (q.1 ∙ told_default d t))))
    (λ f.
    let same = sym (q.1 ∙ told_table d f) in
    let start = ap (value_at 3) same in
    let end = ap (value_at 4) same in
    record {
      rules = dump_number d ∙ rw (q.0, f, ← start, ← end);
      table = f;
      place = sym (ap (value_at 0) same);
      bit = sym (ap (value_at 1) same);
      address = sym (ap (value_at 2) same);
      bytes = rw (← start, ← end);
      order = rw (← start, ← end) (table_order d sound);
      inside = rw (← end) (table_inside d sound);
      shorter = rw (← start, ← end) (table_shorter d sound);
      most = (sound_parts d sound).most;
    })

-- ---- The reader's answer, from the dump's number

pub held_refused : (d : List ℕ) {r : Refusal} → (dump_refusal d ≡ 0 → ⊥) → r ≡ refusal_numbered (dump_refusal d) → Err r ≡ held d
unfolding held
held_refused d z e = answered_err (dump_refusal d) (told d) z e

pub held_accepted : (d : List ℕ) {h : Held} → dump_refusal d ≡ 0 → Ok h ≡ pointed d → Ok h ≡ held d
unfolding held
held_accepted d e q = ap Ok (pointed_told d (sym q)).1 ∙ answered_ok (dump_refusal d) (told d) e

-- ---- The dump, from the reader's answer

pub held_number : (d : List ℕ) {r : Refusal} → held d ≡ Err r → (dump_refusal d ≡ 0 → ⊥) × (r ≡ refusal_numbered (dump_refusal d))
unfolding held
held_number d e = given_err (dump_refusal d) (told d) (sym e)

held_pointed : (d : List ℕ) {h : Held} → held d ≡ Ok h → (dump_refusal d ≡ 0) × (pointed d ≡ Ok h)
unfolding held pointed
held_pointed d e =
    let q = given_ok (dump_refusal d) (told d) (sym e) in
    (q.0, sym (answered_ok (refusal (pointer_rules d)) (told d) (held_none d q.0)) ∙ ap Ok (sym q.1))

pub held_default :
    (d : List ℕ) (n b : ℕ) → held d ≡ Ok (Default n b)
    → (dump_refusal d ≡ 0) × (is_default d ≡ true) × (n ≡ feature1 (pointer_bytes d)) × (b ≡ imcr_of d)
held_default d n b e = pointed_default d n b (held_pointed d e).1

pub held_table : (d : List ℕ) (p b a s e : ℕ) → held d ≡ Ok (Table p b a s e) → (dump_refusal d ≡ 0) × Pointed d p b a s e
held_table d p b a s e q =
    let h = held_pointed d q in
    (h.0, pointed_table d p b a s e h.1)
