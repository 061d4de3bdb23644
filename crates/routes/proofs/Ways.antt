-- The ways out of the queries: what the code has found there, and the answer. Assumes nothing.
use Prim.Native.Nat.{ℕ, ◌+◌, ◌*◌, ◌≤◌, ◌<◌}
use mathlib.Core.Path.{◌≡◌, refl, sym, ◌∙◌}
use mathlib.Core.Bool.{Bool, true, false, not, ◌||◌, or-true}
use mathlib.Core.List.{List, [], ◌∷◌}
use native.Mathlib.Omega.{arith}
use lib.Dec.{leb}
use Rattle.std.specs.Prelude.{Result, Err}
use borrow.Author.Tests.{lt-ltb, le-ltb, leb-false}
use Rattle.mps.specs.Words.{keep, each, among, part}
use Rattle.mps.specs.Refusals.{Rule, ◌when◌, refusal, query_number}
use Rattle.mps.specs.Layout.{Entry, entry_size, interrupt_type_most, vectored, pins, devices, id_of, base_entries}
use Rattle.mps.specs.Rules.{io_side, is_listed}
use Rattle.mps.specs.Sections.{rows}
use Rattle.mps.specs.Judge.{table_refusal}
use Rattle.mps.specs.Routes.{Question, question, routes_of, wrong_line}
use Rattle.mps.specs.Slots.{Slot, slot, is_pci, slot_routes_of, wrong_slot}
use Rattle.mps.specs.declared.Sections.{Sections}
use Rattle.mps.specs.Reasons.{refusal_numbered}
use Rattle.mps.specs.declared.refusals.Refusal.{Refusal}
use Rattle.mps.specs.declared.refusals.Refusal.TheVariants.{Query, Slot as BadSlot}
use Rattle.laws.proofs.Tests.{whether, or_parts}
use Rattle.laws.proofs.Lists.{among_first, among_rest, among_cases}
use Rattle.laws.proofs.Refusals.{number, refusal_stop, refusal_go, refusal_end}
use Rattle.judge.specs.Placed.{Placed}
use Rattle.judge.proofs.Laws.{placed_listed, placed_pci}
use Rattle.routes.specs.declared.Side.{Side as Asked}
use Rattle.routes.specs.Pairs.{side_of, wired, pairs_of}
use Rattle.routes.proofs.Laws.{line_pairs, slot_pairs}
use Rattle.routes.proofs.Numbers.{Answers, own_refused, own_passed, line_own, line_some, AnswersLine, line_answers, slot_own, slot_some, AnswersSlot, slot_answers}
use Rattle.routes.proofs.Answering.{Gives}

-- What a side gives is the answer, where neither the table is refused nor the query by its own rows.
own_gives : (t : List ℕ) (own : List Rule) → among 0 (each number own) ≡ false → (pairs room : List ℕ) → table_refusal t ≡ 0 → refusal own ≡ 0
    → {r : Result ℕ Refusal} {u : List ℕ} → Gives pairs room r u → Answers t own pairs room r u
own_gives t own some pairs room a z g = own_passed t own some pairs room a z g.0 g.1

-- What passes 25 has a device and a pin.
pub slot_inside : (device pin : ℕ) → (leb devices device || leb pins pin) ≡ false → (device < devices) × (pin < pins)
slot_inside device pin w =
    let h = or_parts (leb devices device) (leb pins pin) w in
    (leb-false devices device h.0, leb-false pins pin h.1)

-- A bus among the IDs of some entries is among those of all.
among_kept : (x : ℕ) (q : Entry → Bool) (es : List Entry) → among x (each id_of (keep q es)) ≡ true → among x (each id_of es) ≡ true
unfolding each keep
among_kept x q [] a = a
among_kept x q (e ∷ es) a =
    whether (q e)
    (λ t. among_cases x (id_of e) (each id_of (keep q es)) (rw (t, keep) at a)
    (among_first x (id_of e) (each id_of es)) (λ b. among_rest x (id_of e) (each id_of es) (among_kept x q es b)))
    (λ f. among_rest x (id_of e) (each id_of es) (among_kept x q es (rw (f, keep) at a)))

module _ (t : List ℕ) (p : Sections) (a : table_refusal t ≡ 0) (placed : Placed t p) where
  listed : (bus : ℕ) {found : Bool} → found ≡ among bus (each id_of (rows entry_size (part p.buses p.ioapics t)))
      → is_listed (base_entries t) bus ≡ found
  listed bus e = placed_listed t p placed bus ∙ sym e

  -- ---- By a question

  module _ (side : Asked) (itype bus irq : ℕ) (room : List ℕ) where
    abbrev q : Question
    q = question (side_of side) itype bus irq

    line_wrong : wrong_line q t ≡ true → AnswersLine q t room (Err Query) room
    unfolding refusal_numbered
    line_wrong w =
        line_answers t room q
        (own_refused t (line_own q t) (line_some q t) (routes_of q t) room a (refusal_stop query_number [] w) (λ z. omega (arith, z)) refl)

    -- 24.
    pub wrong_type : interrupt_type_most < itype → AnswersLine q t room (Err Query) room
    unfolding wrong_line
    wrong_type h = line_wrong (rw (lt-ltb interrupt_type_most itype h) (or-true (not (is_listed (base_entries t) bus))))

    module _ {found : Bool} (e : found ≡ among bus (each id_of (rows entry_size (part p.buses p.ioapics t)))) where
      pub wrong_bus : found ≡ false → AnswersLine q t room (Err Query) room
      unfolding wrong_line
      wrong_bus h = line_wrong (rw (listed bus e, h))

      pub right_line : found ≡ true → itype ≤ interrupt_type_most
          → {r : Result ℕ Refusal} {u : List ℕ} → Gives (pairs_of (side_of side) (wired itype bus irq false) t) room r u
          → AnswersLine q t room r u
      unfolding wrong_line
      right_line h i g =
          let w : wrong_line q t ≡ false = rw (listed bus e, h, le-ltb interrupt_type_most itype i) in
          let z : refusal (line_own q t) ≡ 0 = refusal_go query_number [] w ∙ refusal_end in
          line_answers t room q
          (own_gives t (line_own q t) (line_some q t) (routes_of q t) room a z (rw (line_pairs (side_of side) itype bus irq t) g))

  -- ---- By a slot

  module _ (bus device pin : ℕ) (room : List ℕ) {pci : Bool} (f : pci ≡ among bus (each id_of (keep is_pci (rows entry_size (part p.buses p.ioapics t))))) where
    abbrev s : Slot
    s = slot bus device pin

    slot_refused : {n : ℕ} → refusal (slot_own s t) ≡ n → (n ≡ 0 → ⊥) → {r : Refusal} → r ≡ refusal_numbered n → AnswersSlot s t room (Err r) room
    slot_refused k z e = slot_answers t room s (own_refused t (slot_own s t) (slot_some s t) (slot_routes_of s t) room a k z e)

    behind_24 : is_listed (base_entries t) bus ≡ true → refusal (slot_own s t) ≡ refusal (25 when wrong_slot s t ∷ [])
    behind_24 l = refusal_go query_number _ (rw l)

    wrong_is : wrong_slot s t ≡ (not pci || leb devices device || leb pins pin)
    unfolding wrong_slot
    wrong_is = rw (placed_pci t p placed bus, f)

    -- No PCI bus: 24 where it is not listed, else 25.
    module _ (h : pci ≡ false) {found : Bool} (e : found ≡ among bus (each id_of (rows entry_size (part p.buses p.ioapics t)))) where
      pub not_listed : found ≡ false → AnswersSlot s t room (Err Query) room
      unfolding refusal_numbered
      not_listed k = slot_refused (refusal_stop query_number _ (rw (listed bus e, k))) (λ z. omega (arith, z)) refl

      pub not_pci : found ≡ true → AnswersSlot s t room (Err BadSlot) room
      unfolding refusal_numbered
      not_pci k = slot_refused (behind_24 (listed bus e ∙ k) ∙ refusal_stop 25 [] (wrong_is ∙ rw h)) (λ z. omega (arith, z)) refl

    -- A PCI bus is listed: 25 by the device or the pin, or the answer.
    module _ (h : pci ≡ true) where
      its_25 : refusal (slot_own s t) ≡ refusal (25 when wrong_slot s t ∷ [])
      its_25 =
          let es = rows entry_size (part p.buses p.ioapics t) in
          behind_24 (placed_listed t p placed bus ∙ among_kept bus is_pci es (sym f ∙ h))

      pub wrong_slot_lem : (leb devices device || leb pins pin) ≡ true → AnswersSlot s t room (Err BadSlot) room
      unfolding refusal_numbered
      wrong_slot_lem w = slot_refused (its_25 ∙ refusal_stop 25 [] (wrong_is ∙ rw h w)) (λ z. omega (arith, z)) refl

      pub right_slot : (leb devices device || leb pins pin) ≡ false
          → {r : Result ℕ Refusal} {u : List ℕ} → Gives (pairs_of io_side (wired vectored bus (device * pins + pin) true) t) room r u
          → AnswersSlot s t room r u
      right_slot w g =
          let z : refusal (slot_own s t) ≡ 0 = its_25 ∙ refusal_go 25 [] (wrong_is ∙ rw h w) ∙ refusal_end in
          let i = slot_inside device pin w in
          slot_answers t room s
          (own_gives t (slot_own s t) (slot_some s t) (slot_routes_of s t) room a z (rw (slot_pairs bus device pin i.0 i.1 t) g))
