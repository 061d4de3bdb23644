-- Document 02, ask 1, "Existing routes still compare the whole byte": how the pairs of a PCI slot stand to those of a route
-- query. Assumes nothing.
use Prim.Native.Nat.{ℕ, zero, suc, ◌/◌, ◌%◌, ◌<◌}
use mathlib.Core.Path.{◌≡◌, refl, sym, ap, ◌∙◌}
use mathlib.Core.Bool.{Bool, true, false, not, ◌&&◌, or-false}
use mathlib.Core.List.{List, [], ◌∷◌}
use native.Mathlib.Omega.{arith}
use lib.ListN.{get_or, set}
use lib.Seq.{get_or-set_other}
use lib.Dec.{eqb}
use borrow.Author.Tests.{eqb-true, eqb-false, lt-leb}
use Rattle.mps.specs.Words.{byte, bit, any, keep, each, joined}
use Rattle.mps.specs.Layout.{Entry, type, of_type, enabled, io_apic_type, io_interrupt_type, id_of, destination, input, interrupt_type, vectored, source_bus, source_irq, pins, devices, base_entries}
use Rattle.mps.specs.Refusals.{refusal}
use Rattle.mps.specs.Rooms.{room_rules, lent_refusal}
use Rattle.mps.specs.Rules.{enabled_of, is_listed}
use Rattle.mps.specs.Judge.{table_rules}
use Rattle.mps.specs.Routes.{asked, matches, names, pair, pairs_to, routes, routes_of, wrong_line, line_rules, route_refusal, routed, routes_left}
use Rattle.mps.specs.Slots.{Slot, on_pci, wired_from, slot_routes, slot_routes_of, wrong_slot, slot_rules, slot_refusal, slot_routed, slot_routes_left}
use Rattle.laws.proofs.Tests.{whether}
use Rattle.laws.proofs.Lists.{any_none, keep_agree, keep_each}
use Rattle.laws.proofs.Joined.{joined_same, joined_each}
use Rattle.laws.proofs.Small.{Bytes, small_at, small_base}
use Rattle.routes.proofs.Laws.{slot_low}
use Rattle.promises.specs.Slots.{InRange, irq_of, as_route, low_seven, low_asked, seven_set, cleared}

module _ (s : Slot) (h : InRange s) where
  wired_low : (e : Entry) → wired_from s e ≡ low_asked s.bus (irq_of s) e
  unfolding low_asked
  wired_low e = sym (slot_low s.bus s.device s.pin h.device_low h.pin_low e)

  -- "bit 7 ignored": the pairs are those of the type 3 entries of type INT whose source is the bus and, in bits 0 to 6, the
  -- slot's device and pin.
  pub slot_low_seven : (es : List Entry)
      → slot_routes s es ≡ joined (pairs_to (enabled_of io_apic_type es)) (keep (low_asked s.bus (irq_of s)) es)
  unfolding slot_routes
  slot_low_seven es =
      ap (joined (pairs_to (enabled_of io_apic_type es))) (keep_agree (wired_from s) (low_asked s.bus (irq_of s)) [] es (λ i l. wired_low (get_or es i [])))

  low_whole : (e : Entry) → source_irq e < 256 → seven_set s.bus e ≡ false → low_asked s.bus (irq_of s) e ≡ matches (as_route s) e
  unfolding low_asked matches asked seven_set bit
  low_whole e small f =
      whether (of_type io_interrupt_type e)
      (λ a. whether (eqb (source_bus e) s.bus)
      (λ c. let g = eqb-false (source_irq e / 128 % 2) 1 (rw (a, c) at f) in
      let k : low_seven e ≡ source_irq e = omega arith in
      rw (a, c, k))
      (λ c. rw (a, c) (no_third (eqb (interrupt_type e) vectored) (eqb (low_seven e) (irq_of s)) (eqb (source_irq e) (irq_of s)))))
      (λ a. rw a)
    where
      no_third : (x y z : Bool) → (x && false && y) ≡ (x && false && z)
      no_third true y z = refl
      no_third false y z = refl

  -- Where bit 7 is clear in the type 3 entries of the bus, the slot's pairs are those of the route query for its source.
  pub slot_as_routes : (t : List ℕ) → Bytes t → any (seven_set s.bus) (base_entries t) ≡ false → slot_routes_of s t ≡ routes_of (as_route s) t
  unfolding slot_routes_of slot_routes routes_of routes
  slot_as_routes t b clear =
      ap (joined (pairs_to (enabled_of io_apic_type (base_entries t))))
      (keep_agree (wired_from s) (matches (as_route s)) [] (base_entries t) (λ i l.
      let e = get_or (base_entries t) i [] in
      wired_low e ∙ low_whole e (small_at (small_base t b) i 5) (any_none (seven_set s.bus) [] (base_entries t) clear i l)))

  -- Of a PCI bus that is the whole answer: the number, the count and what is left in the room.
  module _ (t room : List ℕ) (b : Bytes t) (pci : on_pci (base_entries t) s.bus ≡ true) (clear : any (seven_set s.bus) (base_entries t) ≡ false) where
    right : wrong_slot s t ≡ false
    unfolding wrong_slot
    right = rw (pci, lt-leb devices s.device h.device_low, lt-leb pins s.pin h.pin_low)

    listed : wrong_line (as_route s) t ≡ not (is_listed (base_entries t) s.bus)
    unfolding wrong_line
    listed = or-false (not (is_listed (base_entries t) s.bus))

    same_number : slot_refusal s t room ≡ route_refusal (as_route s) t room
    unfolding slot_refusal route_refusal lent_refusal room_rules slot_rules line_rules table_rules refusal
    same_number = rw (slot_as_routes t b clear, right, listed)

    pub slot_answers_as_routes : (slot_routed s t room ≡ routed (as_route s) t room) × (slot_routes_left s t room ≡ routes_left (as_route s) t room)
    unfolding slot_routed slot_routes_left routed routes_left
    slot_answers_as_routes = (rw (same_number, slot_as_routes t b clear), rw (same_number, slot_as_routes t b clear))

-- ---- With bit 7 taken out

cleared_other : (e : Entry) (j : ℕ) → (j ≡ 5 → ⊥) → byte (cleared e) j ≡ byte e j
unfolding cleared
cleared_other e j n = whether (of_type io_interrupt_type e) (λ a. rw a (get_or-set_other e 5 j (low_seven e) 0 n)) (λ a. rw a)

stored_low : (l : List ℕ) (i : ℕ) → byte (set l i (byte l i % 128)) i ≡ byte l i % 128
stored_low [] i = refl
stored_low (x ∷ l) zero = refl
stored_low (x ∷ l) (suc i) = stored_low l i

cleared_irq : (e : Entry) → of_type io_interrupt_type e ≡ true → source_irq (cleared e) ≡ low_seven e
unfolding cleared
cleared_irq e a = rw a (stored_low e 5)

low_cleared : (s : Slot) (e : Entry) → low_asked s.bus (irq_of s) e ≡ matches (as_route s) (cleared e)
unfolding low_asked matches asked
low_cleared s e =
    rw (cleared_other e 0 (λ q. omega arith), cleared_other e 1 (λ q. omega arith), cleared_other e 4 (λ q. omega arith))
    (whether (of_type io_interrupt_type e) (λ a. rw (a, cleared_irq e a)) (λ a. rw a))

pairs_same : (apics : List Entry) (d e : Entry) → destination d ≡ destination e → input d ≡ input e → pairs_to apics d ≡ pairs_to apics e
unfolding pairs_to pair names
pairs_same apics d e p q =
    joined_same (pair d) (pair e) (λ id. rw q) (each id_of (keep (names d) apics))
    ∙ ap (λ (l : List Entry). joined (pair e) (each id_of l)) (keep_agree (names d) (names e) [] apics (λ i h. rw p))

apic_cleared : (e : Entry) → of_type io_apic_type e ≡ true → cleared e ≡ e
unfolding cleared
apic_cleared e a = rw (eqb-true (type e) io_apic_type a)

apics_cleared : (es : List Entry) → keep (of_type io_apic_type) (each cleared es) ≡ keep (of_type io_apic_type) es
unfolding keep each
apics_cleared [] = refl
apics_cleared (e ∷ es) =
    whether (of_type io_apic_type e)
    (λ a. rw (cleared_other e 0 (λ q. omega arith), a, apics_cleared es, apic_cleared e a))
    (λ a. rw (cleared_other e 0 (λ q. omega arith), a, apics_cleared es))

-- The slot's pairs are those of the route query for its source in the entries with bit 7 of each type 3 source IRQ taken out.
pub slot_as_cleared : (s : Slot) → InRange s → (es : List Entry) → slot_routes s es ≡ routes (as_route s) (each cleared es)
unfolding routes enabled_of
slot_as_cleared s h es =
    let q = as_route s in
    let apics = enabled_of io_apic_type es in
    let kept = keep (λ (e : Entry). matches q (cleared e)) es in
    slot_low_seven s h es
    ∙ ap (joined (pairs_to apics)) (keep_agree (low_asked s.bus (irq_of s)) (λ (e : Entry). matches q (cleared e)) [] es (λ i l. low_cleared s (get_or es i [])))
    ∙ joined_same (pairs_to apics) (λ (e : Entry). pairs_to apics (cleared e))
    (λ e. sym (pairs_same apics (cleared e) e (cleared_other e 6 (λ j. omega arith)) (cleared_other e 7 (λ j. omega arith)))) kept
    ∙ sym (joined_each (pairs_to apics) cleared kept)
    ∙ ap (joined (pairs_to apics)) (sym (keep_each cleared (matches q) es))
    ∙ ap (λ (l : List Entry). joined (pairs_to (keep enabled l)) (keep (matches q) (each cleared es))) (sym (apics_cleared es))
