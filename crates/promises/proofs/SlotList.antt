-- Document 02, ask 1, "a listing of every bus, device and pin on a PCI bus that a type 3 entry names, whatever its interrupt
-- type, each once, three bytes, in that order rising": which slots it gives, their order and number, and the listing's numbers,
-- "given exactly when". Where a bus ID must be a byte, the table is of bytes, as every lent buffer is. Assumes nothing.
use Prim.Native.Nat.{ℕ, ◌-◌, ◌*◌, ◌/◌, ◌≤◌, ◌<◌}
use mathlib.Core.Path.{◌≡◌, refl, sym, ◌∙◌}
use mathlib.Core.Bool.{true, false, false≢true}
use mathlib.Core.Logic.{◌↔◌}
use mathlib.Core.List.{List, [], ◌∷◌, ◌++◌}
use native.Mathlib.Omega.{arith}
use lib.ListN.{length, get_or, drop}
use lib.Dec.{ltb, eqb}
use borrow.Author.Tests.{ltb-true, ltb-false, le-ltb}
use Rattle.mps.specs.Words.{byte, among, any, keep, each}
use Rattle.mps.specs.Layout.{of_type, io_interrupt_type, header_size, part_most, entry_size, interrupt_type, vectored, base_entries}
use Rattle.mps.specs.Judge.{table_rules, table_refusal}
use Rattle.mps.specs.Refusals.{◌when◌}
use Rattle.mps.specs.Rooms.{too_small, room_rules, lent_refusal}
use Rattle.mps.specs.Slots.{Slot, names_slot, on_pci, wired_from, slot_routed, slot_routes_left, slot_size, slots_of, slots_refusal, slots_listed, slots_left}
use Rattle.std.specs.Prelude.{Ok}
use Rattle.laws.proofs.Tests.{whether, and_parts}
use Rattle.laws.proofs.Lists.{any_none, any_append, keep_most}
use Rattle.laws.proofs.Small.{Bytes}
use Rattle.laws.proofs.Refusals.{so, refusal_none}
use Rattle.laws.proofs.Lent.{lent_19, lent_before, left_put}
use Rattle.laws.proofs.Answers.{given_ok}
use Rattle.accepted.proofs.Sound.{sound, entries_least}
use Rattle.slots.specs.Sets.{slot_of}
use Rattle.promises.specs.Declared.{declares}
use Rattle.promises.specs.Slots.{slot_at, SlotStands, earlier}
use Rattle.promises.proofs.Given.{Exactly, given_none}
use Rattle.promises.proofs.Slots.{slot_routes_exactly, slot_answered}
use Rattle.promises.proofs.SlotCodes.{codes, slots_length, slot_there, codes_rise, not_earlier, pci_byte, coded_named, named_coded, codes_most}

-- ---- The call: it answers `slots_listed` and leaves `slots_left`

module _ (t room : List ℕ) {n : ℕ} (r : slots_listed t room ≡ Ok n) where
  counted : (slots_refusal t room ≡ 0) × (n ≡ length (slots_of t) / slot_size)
  unfolding slots_listed
  counted = given_ok _ _ (sym r)

  coded : n ≡ length (codes (base_entries t))
  unfolding slots_of
  coded = omega (arith, counted.1, slots_length (base_entries t))

  -- The count is that of the slots, "three bytes" each.
  pub slots_count : length (slots_of t) ≡ n * slot_size
  unfolding slots_of
  slots_count = omega (arith, coded, slots_length (base_entries t))

  -- They stand from the room's first byte on; what lies past them stays.
  pub slots_in_order : slots_left t room ≡ slots_of t ++ drop (n * slot_size) room
  unfolding slots_left
  slots_in_order = rw (counted.0, left_put (slots_of t) room, slots_count)

  slot_here : (i : ℕ) → i < n → slot_at (slots_left t room) i ≡ slot_of (byte (codes (base_entries t)) i)
  unfolding slots_of
  slot_here i h = rw slots_in_order (slot_there (base_entries t) (drop (n * slot_size) room) i (omega (arith, coded)))

  -- "every bus, device and pin on a PCI bus that a type 3 entry names, whatever its interrupt type": a slot is in the answer
  -- exactly when its bus is a PCI bus of the table and some type 3 entry names it. Bit 7 of a source IRQ names nothing.
  pub slot_listed_exactly : Bytes t → (s : Slot)
      → SlotStands n (slots_left t room) s ↔ ((on_pci (base_entries t) s.bus ≡ true) × (any (names_slot s) (base_entries t) ≡ true))
  slot_listed_exactly b s =
      let es = base_entries t in (
        λ h. coded_named es h.place (omega (arith, coded, h.there)) s (sym (slot_here h.place h.there) ∙ h.is),
        λ h.
            let c = named_coded es s (pci_byte t b s.bus h.0) h.0 h.1 in
            let there : c.0 < n = omega (arith, coded, c.1) in
            record { place = c.0; there = there; is = slot_here c.0 there ∙ c.2 },
      )

  -- "in that order rising": of two places the earlier has the earlier slot, by bus, then device, then pin.
  pub slots_rise : (i j : ℕ) → i < j → j < n → earlier (slot_at (slots_left t room) i) (slot_at (slots_left t room) j) ≡ true
  slots_rise i j h k = rw (slot_here i (omega arith), slot_here j k) (codes_rise (base_entries t) i j h (omega (arith, coded)))

  -- "each once": no slot stands at two places.
  pub slots_once : (i j : ℕ) → i < n → j < n → slot_at (slots_left t room) i ≡ slot_at (slots_left t room) j → i ≡ j
  slots_once i j h k e =
      let at = slot_at (slots_left t room) in
      whether (ltb i j)
      (λ l. absurd (not_earlier (at j) (rw e at (slots_rise i j (ltb-true i j l) k))))
      (λ l. whether (ltb j i)
      (λ m. absurd (not_earlier (at j) (rw e at (slots_rise j i (ltb-true j i m) h))))
      (λ m. omega (arith, ltb-false i j l, ltb-false j i m)))

  -- No more than there are type 3 entries.
  pub slots_most_lem : n ≤ length (keep (of_type io_interrupt_type) (base_entries t))
  slots_most_lem = omega (arith, coded, codes_most (base_entries t))

-- ---- The numbers: the table's and 19

module _ (t room : List ℕ) where
  -- Answered: no row is so.
  pub slots_none : (slots_refusal t room ≡ 0) ↔ (any so (room_rules (table_rules t) (too_small (length (slots_of t)) room)) ≡ false)
  unfolding slots_refusal lent_refusal room_rules table_rules among each
  slots_none = refusal_none (room_rules (table_rules t) (too_small (length (slots_of t)) room)) refl

  -- The table's own, before all else.
  pub slots_table : (n : ℕ) → 0 < n → eqb n 19 ≡ false → (slots_refusal t room ≡ n) ↔ (table_refusal t ≡ n)
  unfolding slots_refusal table_refusal table_rules among each
  slots_table = lent_before (table_rules t) (too_small (length (slots_of t)) room) refl

  -- 19: "answer longer than the lent room"
  pub slots_19 : Exactly (slots_refusal t room) 19 (table_rules t) (too_small (length (slots_of t)) room)
  unfolding slots_refusal table_rules among each
  slots_19 = lent_19 (table_rules t) (too_small (length (slots_of t)) room) refl

  -- A base of at most 4,096 bytes has room for 506 entries behind its header, so there are at most 506 slots,
  pub slots_limit : table_refusal t ≡ 0 → length (slots_of t) ≤ (part_most - header_size) / entry_size * slot_size
  unfolding slots_of
  slots_limit a =
      let es = base_entries t in
      let least = entries_least t a in
      let most = (sound t a).most in
      omega (arith, slots_length es, codes_most es, keep_most (of_type io_interrupt_type) es)

  -- and a room of 1,518 bytes holds the listing of any accepted table.
  pub slots_room : table_refusal t ≡ 0 → (part_most - header_size) / entry_size * slot_size ≤ length room → slots_refusal t room ≡ 0
  unfolding too_small any room_rules
  slots_room a h =
      let fits : length (slots_of t) ≤ length room = omega (arith, slots_limit a, h) in
      slots_none.1
      (any_append so (table_rules t) (19 when too_small (length (slots_of t)) room ∷ [])
      ∙ rw ((given_none t).0 a, le-ltb (length room) (length (slots_of t)) fits))

-- ---- A slot that has a pair is listed

pub slot_with_pair_listed : (s : Slot) (t room rooms : List ℕ) {n m : ℕ} → Bytes t → slot_routed s t room ≡ Ok n → 0 < n
    → slots_listed t rooms ≡ Ok m → SlotStands m (slots_left t rooms) s
unfolding declares wired_from slot_routed
slot_with_pair_listed s t room rooms b r some l =
    let es = base_entries t in
    let left = slot_routes_left s t room in
    let pair = (slot_routes_exactly s t room r (byte left 0) (byte left 1)).0 (record { place = 0; there = some; first = refl; second = refl }) in
    let e = get_or es pair.line [] in
    let wired = (and_parts (wired_from s e) _ pair.route).0 in
    let named = (and_parts (eqb (interrupt_type e) vectored) (names_slot s e) wired).1 in
    let pci = (slot_answered s t room (given_ok _ _ (sym r)).0).bus_pci in
    (slot_listed_exactly t rooms l b s).1 (
      pci,
      whether (any (names_slot s) es) (λ y. y)
          (λ no. absurd (false≢true (sym (any_none (names_slot s) [] es no pair.line pair.line_there) ∙ named))),
    )
