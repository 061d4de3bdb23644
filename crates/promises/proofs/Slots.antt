-- Document 02, ask 1, "a query by bus, device 0 to 31 and pin 0 to 3 that gives the route pairs of interrupt type INT, bit 7
-- ignored": which pairs it gives, and its numbers, "given exactly when". How they stand to those of a route query is in
-- SlotRoutes. Assumes nothing.
use Prim.Native.Nat.{ℕ, ◌+◌, ◌*◌, ◌<◌}
use mathlib.Core.Path.{◌≡◌, refl, sym, ◌∙◌}
use mathlib.Core.Bool.{true, false, not, ◌||◌}
use mathlib.Core.Logic.{◌↔◌}
use mathlib.Core.List.{List, [], ◌∷◌, ◌++◌}
use native.Mathlib.Omega.{arith}
use lib.ListN.{length, drop}
use lib.Dec.{leb}
use borrow.Author.Tests.{leb-false, not-false}
use Rattle.mps.specs.Words.{byte, among, any, each}
use Rattle.mps.specs.Layout.{Entry, io_apic_type, everyone, pins, devices, base_entries}
use Rattle.mps.specs.Rules.{enabled_ids, is_listed}
use Rattle.mps.specs.Judge.{table_rules, table_refusal}
use Rattle.mps.specs.Refusals.{◌when◌}
use Rattle.mps.specs.Rooms.{too_small, room_rules, lent_refusal}
use Rattle.mps.specs.Routes.{pair_size}
use Rattle.mps.specs.Slots.{Slot, on_pci, wired_from, slot_routes, slot_routes_of, wrong_slot, slot_rules, slot_refusal, slot_routed, slot_routes_left}
use Rattle.std.specs.Prelude.{Ok}
use Rattle.laws.proofs.Tests.{or_parts}
use Rattle.laws.proofs.Lists.{any_append}
use Rattle.laws.proofs.Refusals.{so, refusal_none, given_before, given_exactly}
use Rattle.laws.proofs.Lent.{lent_19}
use Rattle.accepted.proofs.Obeyed.{obeyed}
use Rattle.promises.specs.Declared.{slot_declared, SlotRoute, Stands}
use Rattle.promises.specs.Slots.{SlotAnswered}
use Rattle.promises.proofs.Given.{Exactly, given_none}
use Rattle.promises.proofs.Pairs.{pairs_declared_lem, pairs_count, pairs_in_order, pairs_exactly, pair_own, no_everyone}

-- ---- The pairs

pub slot_routes_declared : (s : Slot) (es : List Entry) → slot_routes s es ≡ slot_declared s es
unfolding slot_routes
slot_routes_declared s es = pairs_declared_lem (wired_from s) io_apic_type es

module _ (s : Slot) (t room : List ℕ) {n : ℕ} (r : slot_routed s t room ≡ Ok n) where
  -- The count is that of the pairs.
  pub slot_routes_count : length (slot_declared s (base_entries t)) ≡ n * pair_size
  unfolding slot_routed slot_routes_of
  slot_routes_count =
      pairs_count (wired_from s) io_apic_type (base_entries t) (slot_refusal s t room) room (rw (slot_routes_declared s (base_entries t)) at r)

  -- They stand from the room's first byte on, in the order of the table; what lies past them stays.
  pub slot_routes_in_order : slot_routes_left s t room ≡ slot_declared s (base_entries t) ++ drop (n * pair_size) room
  unfolding slot_routed slot_routes_left slot_routes_of
  slot_routes_in_order =
      rw (slot_routes_declared s (base_entries t))
      (pairs_in_order (wired_from s) io_apic_type (base_entries t) (slot_refusal s t room) room (rw (slot_routes_declared s (base_entries t)) at r))

  -- "gives the route pairs of interrupt type INT, bit 7 ignored": a pair is in the answer exactly when some type 3 entry of
  -- type INT that names the slot names that enabled I/O APIC with that input.
  pub slot_routes_exactly : (id into : ℕ) → Stands n (slot_routes_left s t room) id into ↔ SlotRoute s (base_entries t) id into
  unfolding slot_routed slot_routes_left slot_routes_of
  slot_routes_exactly =
      rw (slot_routes_declared s (base_entries t))
      (pairs_exactly (wired_from s) io_apic_type (base_entries t) (slot_refusal s t room) room (rw (slot_routes_declared s (base_entries t)) at r))

  -- It names the table's numbers, as the route queries do.
  pub slot_own_numbers : (i : ℕ) → i < n
      → among (byte (slot_routes_left s t room) (i * pair_size)) (enabled_ids io_apic_type (base_entries t)) ≡ true
  slot_own_numbers i h =
      pair_own (wired_from s) io_apic_type (base_entries t) _ _
      ((slot_routes_exactly (byte (slot_routes_left s t room) (i * pair_size)) (byte (slot_routes_left s t room) (i * pair_size + 1))).0
      (record { place = i; there = h; first = refl; second = refl }))

-- "255 names all": the ID is the I/O APIC's own.
pub slot_never_255 :
    (s : Slot) (t : List ℕ) → table_refusal t ≡ 0 → (id into : ℕ) → SlotRoute s (base_entries t) id into → id ≡ everyone → ⊥
slot_never_255 s t a = no_everyone (wired_from s) io_apic_type (base_entries t) (obeyed t a).ioapics_not_255

-- ---- The numbers: "Refusals: 25, bus listed but not PCI, or device or pin out of range, after 24 and before 19."

module _ (s : Slot) (t room : List ℕ) where
  -- Answered: no row is so.
  pub slot_none : (slot_refusal s t room ≡ 0) ↔ (any so (room_rules (slot_rules s t) (too_small (length (slot_routes_of s t)) room)) ≡ false)
  unfolding slot_refusal lent_refusal room_rules slot_rules table_rules among each
  slot_none = refusal_none (room_rules (slot_rules s t) (too_small (length (slot_routes_of s t)) room)) refl

  -- The table's own, before all else.
  pub slot_table : (n : ℕ) → 0 < n → among n (24 ∷ 25 ∷ 19 ∷ []) ≡ false → (slot_refusal s t room ≡ n) ↔ (table_refusal t ≡ n)
  unfolding slot_refusal lent_refusal room_rules slot_rules table_refusal table_rules among each
  slot_table n p h =
      given_before (table_rules t)
      (24 when not (is_listed (base_entries t) s.bus) ∷ 25 when wrong_slot s t ∷ 19 when too_small (length (slot_routes_of s t)) room ∷ []) refl n p h

  -- 24: "query: bus not listed"
  pub slot_24 : Exactly (slot_refusal s t room) 24 (table_rules t) (not (is_listed (base_entries t) s.bus))
  unfolding slot_refusal lent_refusal room_rules slot_rules table_rules among each
  slot_24 =
      given_exactly (table_rules t) 24 (not (is_listed (base_entries t) s.bus))
      (25 when wrong_slot s t ∷ 19 when too_small (length (slot_routes_of s t)) room ∷ []) (omega arith) refl refl

  -- 25, behind 24;
  pub slot_25 : Exactly (slot_refusal s t room) 25 (table_rules t ++ (24 when not (is_listed (base_entries t) s.bus) ∷ [])) (wrong_slot s t)
  unfolding slot_refusal lent_refusal room_rules slot_rules table_rules among each
  slot_25 =
      given_exactly (table_rules t ++ (24 when not (is_listed (base_entries t) s.bus) ∷ [])) 25 (wrong_slot s t)
      (19 when too_small (length (slot_routes_of s t)) room ∷ []) (omega arith) refl refl

  -- that is, the table is accepted, the bus is listed, and it is no PCI bus, or the device is over 31, or the pin over 3.
  pub slot_25_when : (slot_refusal s t room ≡ 25)
      ↔ ((table_refusal t ≡ 0)
      × (is_listed (base_entries t) s.bus ≡ true)
      × ((not (on_pci (base_entries t) s.bus) || leb devices s.device || leb pins s.pin) ≡ true))
  unfolding wrong_slot any
  slot_25_when =
      let no = not (is_listed (base_entries t) s.bus) in
      let both = any_append so (table_rules t) (24 when no ∷ []) in (
        λ e.
            let g = slot_25.0 e in
            let p = or_parts (any so (table_rules t)) (no || false) (sym both ∙ g.0) in
            let q = or_parts no false p.1 in
            ((given_none t).1 p.0, not-false (is_listed (base_entries t) s.bus) q.0, g.1),
        λ h. slot_25.1 (both ∙ rw ((given_none t).0 h.0, h.1), h.2),
      )

  -- 19: "answer longer than the lent room"
  pub slot_19 : Exactly (slot_refusal s t room) 19 (slot_rules s t) (too_small (length (slot_routes_of s t)) room)
  unfolding slot_refusal slot_rules table_rules among each
  slot_19 = lent_19 (slot_rules s t) (too_small (length (slot_routes_of s t)) room) refl

  -- An answer is of an accepted table, a PCI bus, "device 0 to 31 and pin 0 to 3".
  pub slot_answered : slot_refusal s t room ≡ 0 → SlotAnswered s t
  unfolding room_rules slot_rules wrong_slot any
  slot_answered z =
      let es = base_entries t in
      let no = not (is_listed es s.bus) in
      let other = not (on_pci es s.bus) in
      let small = too_small (length (slot_routes_of s t)) room in
      let high = leb devices s.device in
      let over = leb pins s.pin in
      let all = or_parts (any so (slot_rules s t)) (small || false) (sym (any_append so (slot_rules s t) (19 when small ∷ [])) ∙ slot_none.0 z) in
      let own = or_parts (any so (table_rules t)) (no || (wrong_slot s t || false)) (sym (any_append so (table_rules t) (24 when no ∷ 25 when wrong_slot s t ∷ [])) ∙ all.0) in
      let wrong = (or_parts (wrong_slot s t) false (or_parts no (wrong_slot s t || false) own.1).1).0 in
      let pins-right = or_parts (other || high) over wrong in
      let devices-right = or_parts other high pins-right.0 in
      record {
        accepted = (given_none t).1 own.0;
        bus_pci = not-false (on_pci es s.bus) devices-right.0;
        range = record { device_low = leb-false devices s.device devices-right.1; pin_low = leb-false pins s.pin pins-right.1 };
      }
