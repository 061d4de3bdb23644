-- Demand 2: "The listing, the routes and the addresses seen by a bus are those the table declares", of the routes: a pair is
-- in the answer exactly when two entries of the table declare it, and the pairs stand in the order of the table. The numbers
-- of a route query, "given exactly when". Assumes nothing.
use Prim.Native.Nat.{ℕ, ◌+◌, ◌*◌, ◌<◌}
use mathlib.Core.Path.{◌≡◌, refl}
use mathlib.Core.Bool.{true, false}
use mathlib.Core.Logic.{◌↔◌}
use mathlib.Core.List.{List, [], ◌∷◌, ◌++◌}
use native.Mathlib.Omega.{arith}
use lib.ListN.{length, drop}
use Rattle.mps.specs.Words.{byte, among, any, each}
use Rattle.mps.specs.Layout.{Entry, processor_type, io_apic_type, everyone, base_entries}
use Rattle.mps.specs.Rules.{io_side, local_side, enabled_ids}
use Rattle.mps.specs.Judge.{table_rules, table_refusal}
use Rattle.mps.specs.Refusals.{◌when◌}
use Rattle.mps.specs.Rooms.{too_small, room_rules, lent_refusal}
use Rattle.mps.specs.Routes.{Question, question, matches, pair_size, routes, routes_of, wrong_line, line_rules, route_refusal, routed, routes_left}
use Rattle.std.specs.Prelude.{Ok}
use Rattle.laws.proofs.Refusals.{so, refusal_none, given_before, given_exactly}
use Rattle.laws.proofs.Lent.{lent_19}
use Rattle.accepted.proofs.Obeyed.{obeyed}
use Rattle.promises.specs.Declared.{declared, Route, Stands}
use Rattle.promises.proofs.Given.{Exactly}
use Rattle.promises.proofs.Pairs.{pairs_declared_lem, pairs_count, pairs_in_order, pairs_exactly, pair_own, no_everyone}

pub routes_declared : (q : Question) (es : List Entry) → routes q es ≡ declared q es
unfolding routes
routes_declared q es = pairs_declared_lem (matches q) q.side.targets es

-- ---- The calls: each that a contract allows answers `routed` and leaves `routes_left`

module _ (q : Question) (t room : List ℕ) {n : ℕ} (r : routed q t room ≡ Ok n) where
  -- The count is that of the pairs.
  pub routes_count : length (declared q (base_entries t)) ≡ n * pair_size
  unfolding routed routes_of
  routes_count = pairs_count (matches q) q.side.targets (base_entries t) (route_refusal q t room) room (rw (routes_declared q (base_entries t)) at r)

  -- The pairs of an answer stand from the room's first byte on, in the order of the table; what lies past them stays.
  pub routes_in_order : routes_left q t room ≡ declared q (base_entries t) ++ drop (n * pair_size) room
  unfolding routed routes_left routes_of
  routes_in_order =
      rw (routes_declared q (base_entries t))
      (pairs_in_order (matches q) q.side.targets (base_entries t) (route_refusal q t room) room (rw (routes_declared q (base_entries t)) at r))

  -- A pair is in the answer exactly when some matching entry names that enabled one with that input.
  pub routes_exactly : (id into : ℕ) → Stands n (routes_left q t room) id into ↔ Route q (base_entries t) id into
  unfolding routed routes_left routes_of
  routes_exactly =
      rw (routes_declared q (base_entries t))
      (pairs_exactly (matches q) q.side.targets (base_entries t) (route_refusal q t room) room (rw (routes_declared q (base_entries t)) at r))

  -- "Routes keep naming the table's numbers" (document 02, ask 2): at each place stands the ID of an enabled one, as the table
  -- states it.
  pub routes_own_numbers : (i : ℕ) → i < n
      → among (byte (routes_left q t room) (i * pair_size)) (enabled_ids q.side.targets (base_entries t)) ≡ true
  routes_own_numbers i h =
      pair_own (matches q) q.side.targets (base_entries t) _ _
      ((routes_exactly (byte (routes_left q t room) (i * pair_size)) (byte (routes_left q t room) (i * pair_size + 1))).0
      (record { place = i; there = h; first = refl; second = refl }))

-- ---- "255 names all": no enabled APIC of an accepted table has that ID, so it stands in no pair

module _ (t : List ℕ) (a : table_refusal t ≡ 0) (itype bus irq id into : ℕ) where
  pub io_never_255 : Route (question io_side itype bus irq) (base_entries t) id into → id ≡ everyone → ⊥
  io_never_255 = no_everyone (matches (question io_side itype bus irq)) io_apic_type (base_entries t) (obeyed t a).ioapics_not_255 id into

  pub local_never_255 : Route (question local_side itype bus irq) (base_entries t) id into → id ≡ everyone → ⊥
  local_never_255 = no_everyone (matches (question local_side itype bus irq)) processor_type (base_entries t) (obeyed t a).processors_not_255 id into

-- ---- The numbers

module _ (q : Question) (t room : List ℕ) where
  -- Answered: no row is so.
  pub route_none : (route_refusal q t room ≡ 0) ↔ (any so (room_rules (line_rules q t) (too_small (length (routes_of q t)) room)) ≡ false)
  unfolding route_refusal lent_refusal room_rules line_rules table_rules among each
  route_none = refusal_none (room_rules (line_rules q t) (too_small (length (routes_of q t)) room)) refl

  -- The table's own, before all else.
  pub route_table : (n : ℕ) → 0 < n → among n (24 ∷ 19 ∷ []) ≡ false → (route_refusal q t room ≡ n) ↔ (table_refusal t ≡ n)
  unfolding route_refusal lent_refusal room_rules line_rules table_refusal table_rules among each
  route_table n p h = given_before (table_rules t) (24 when wrong_line q t ∷ 19 when too_small (length (routes_of q t)) room ∷ []) refl n p h

  -- 24: "query: bus not listed .. or interrupt type over 3"
  pub route_24 : Exactly (route_refusal q t room) 24 (table_rules t) (wrong_line q t)
  unfolding route_refusal lent_refusal room_rules line_rules table_rules among each
  route_24 = given_exactly (table_rules t) 24 (wrong_line q t) (19 when too_small (length (routes_of q t)) room ∷ []) (omega arith) refl refl

  -- 19: "answer longer than the lent room"
  pub route_19 : Exactly (route_refusal q t room) 19 (line_rules q t) (too_small (length (routes_of q t)) room)
  unfolding route_refusal line_rules table_rules among each
  route_19 = lent_19 (line_rules q t) (too_small (length (routes_of q t)) room) refl
