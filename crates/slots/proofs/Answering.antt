-- The ways out of the listing: what the code has found there, and the answer. Assumes nothing.
use Prim.Native.Nat.{ℕ, ◌*◌, ◌/◌, ◌≤◌}
use mathlib.Core.Path.{◌≡◌, refl, sym, ap, ◌∙◌}
use mathlib.Core.Bool.{Bool, true, false, ◌||◌, or-false}
use mathlib.Core.List.{List}
use native.Mathlib.Omega.{arith}
use lib.Dec.{leb}
use Rattle.std.specs.Prelude.{Result, Ok, Err}
use lib.ListN.{length}
use lib.Seq.{sets}
use borrow.Author.Tests.{leb-true, leb-false}
use Rattle.mps.specs.Words.{among, keep, joined, below}
use Rattle.mps.specs.Refusals.{refusal}
use Rattle.mps.specs.Layout.{Entry, source_bus, source_irq}
use Rattle.mps.specs.Judge.{table_rules, table_refusal, examined}
use Rattle.mps.specs.Rooms.{too_small, fitted, fit_left}
use Rattle.mps.specs.Slots.{slot_size, slots_of, slots_refusal, slots_listed, slots_left}
use Rattle.mps.specs.declared.Sections.{Sections}
use Rattle.mps.specs.declared.refusals.Refusal.{Refusal}
use Rattle.mps.specs.declared.refusals.Refusal.TheVariants.{RoomTooSmall}
use Rattle.laws.proofs.Answers.{answered_err}
use Rattle.laws.proofs.Lists.{length_each, keep_most}
use Rattle.laws.proofs.Rising.{keep_rising}
use Rattle.laws.proofs.Lent.{lent_early, left_kept, fit_put, fit_short, fit_late}
use Rattle.judge.proofs.Laws.{refused_table, table_some}
use Rattle.roll.specs.Roll.{bus_bit, marked}
use Rattle.sets.specs.Sets.{holds, members}
use Rattle.sets.proofs.Laws.{members_all}
use Rattle.slots.specs.Sets.{slots_most, set_words, slot_number, named_on, listed_on, slot_bytes}
use Rattle.slots.proofs.Sets.{among_few}
use Rattle.slots.proofs.Writing.{length_slots}

-- What answers it, and what is left in the room.
abbrev pub Answers : List ℕ → List ℕ → Result ℕ Refusal → List ℕ → Type 0
Answers t room r u = (r ≡ slots_listed t room) × (u ≡ slots_left t room)

-- A refused table.
pub examined_refused : (t room : List ℕ) {found : Result Sections Refusal} {r : Refusal} → found ≡ examined t → found ≡ Err r → Answers t room (Err r) room
unfolding slots_listed slots_left slots_refusal table_refusal
examined_refused t room e k =
    let g = refused_table t e k in
    let n = refusal (table_rules t) in
    let early = lent_early (table_rules t) (table_some t) {n = n} (too_small (length (slots_of t)) room) refl g.0 in
    (rw early (answered_err n _ g.0 g.1), rw early (sym (left_kept n _ room g.0)))

-- An accepted one's answer goes into the room as any does.
pub listed_late :
    (t room : List ℕ) {answer : List ℕ} → table_refusal t ≡ 0 → slots_of t ≡ answer
    → {r : Result ℕ Refusal} {u : List ℕ} → (r ≡ fitted answer (length answer / slot_size) room) × (u ≡ fit_left answer room) → Answers t room r u
unfolding slots_listed slots_left slots_refusal table_refusal fitted fit_left
listed_late t room a is e =
    let k = fit_late (table_rules t) (table_some t) (slots_of t) room a in
    (rw (k, is) e.0, rw (k, is) e.1)

-- ---- The slots of a set

module _ (roll : List ℕ) (es : List Entry) (empty words : List ℕ) (size : length words ≤ set_words) (none : (n : ℕ) → holds empty n ≡ false)
    (noted : (n : ℕ) → holds words n ≡ (among n (named_on roll es) || holds empty n)) where
  in_set : keep (λ (n : ℕ). among n (named_on roll es)) (below slots_most) ≡ members words
  in_set =
      keep_rising _ _ slots_most 0 (λ n a h. sym (noted n ∙ rw (none n) (or-false (among n (named_on roll es)))))
      ∙ members_all words slots_most (omega (arith, size))

  -- No more than entries.
  pub set_few : length (members words) ≤ length es
  unfolding named_on
  set_few =
      omega (
        arith,
        ap length in_set,
        among_few (named_on roll es) slots_most,
        length_each (λ (e : Entry). slot_number (source_bus e) (source_irq e)) (keep (λ (e : Entry). marked bus_bit roll (source_bus e)) es),
        keep_most (λ (e : Entry). marked bus_bit roll (source_bus e)) es,
      )

  abbrev answer : List ℕ
  answer = listed_on roll es

  is : answer ≡ joined slot_bytes (members words)
  unfolding listed_on
  is = ap (joined slot_bytes) in_set

  total : length answer ≡ length (members words) * 3
  total = ap length is ∙ length_slots (members words)

  module _ (room : List ℕ) {r : Bool} (told : r ≡ leb (length (members words)) (length room / 3)) where
    pub set_short : r ≡ false → (Err RoomTooSmall ≡ fitted answer (length answer / slot_size) room) × (room ≡ fit_left answer room)
    set_short f = fit_short answer (length answer / slot_size) room (omega (arith, total, leb-false (length (members words)) (length room / 3) (sym told ∙ f)))

    pub set_fits : r ≡ true → length (members words) * 3 ≤ length room
    set_fits t = omega (arith, leb-true (length (members words)) (length room / 3) (sym told ∙ t))

    pub set_put :
        r ≡ true → {q : ℕ} {u : List ℕ} → q ≡ length (joined slot_bytes (members words)) → u ≡ sets room 0 (joined slot_bytes (members words))
        → (Ok (q / slot_size) ≡ fitted answer (length answer / slot_size) room) × (u ≡ fit_left answer room)
    set_put t {q} e g = fit_put answer (length answer / slot_size) room (ap (λ k. k / slot_size) (e ∙ sym (ap length is))) (omega (arith, total, set_fits t)) (rw is g)
