-- What an accepted table's routes are, by the IDs of its enabled APICs. Assumes nothing.
use Prim.Native.Nat.{ℕ, ◌+◌, ◌*◌, ◌/◌, ◌%◌, ◌≤◌, ◌<◌}
use mathlib.Core.Path.{◌≡◌, refl, ap, sym, fun_ext}
use mathlib.Core.Bool.{Bool, true, false, ◌&&◌, and_assoc}
use mathlib.Core.List.{List, [], ◌∷◌}
use native.Mathlib.Nat.{mul-le-mul}
use native.Mathlib.Omega.{arith}
use lib.ListN.{length, length-append}
use lib.Dec.{eqb}
use borrow.Author.Tests.{eq-eqb, eqb-true}
use Rattle.mps.specs.Words.{keep, each, joined, among, only, twice, part}
use Rattle.mps.specs.Sums.{total}
use Rattle.mps.specs.Layout.{Entry, of_type, io_apic_type, io_interrupt_type, header_size, processor_size, entry_size, id_of, enabled, interrupt_type, vectored, source_bus, source_irq, pins, devices, destination, everyone, base_entries, bus_slots}
use Rattle.mps.specs.Rules.{io_side, local_side, Side, enabled_of, enabled_ids}
use Rattle.mps.specs.Sections.{rows}
use Rattle.mps.specs.Judge.{table_refusal}
use Rattle.mps.specs.Routes.{question, asked, matches, names, pair, pair_size, pairs_to, routes, routes_of}
use Rattle.mps.specs.Slots.{slot, names_slot, wired_from, slot_routes, slot_routes_of}
use Rattle.mps.specs.declared.Sections.{Sections}
use Rattle.laws.proofs.Tests.{whether, same_test, and_parts, or_parts}
use Rattle.laws.proofs.Lists.{keep_keep, keep_most}
use Rattle.laws.proofs.Joined.{joined_same, joined_most, joined_length}
use Rattle.judge.specs.Placed.{Placed}
use Rattle.accepted.proofs.Obeyed.{obeyed}
use Rattle.apics.specs.Enabled.{enabled_in}
use Rattle.routes.specs.Pairs.{wired, pairs_of, named, pairs_for, pairs_in, count_in}

-- ---- Names: of APICs of which no two have one ID, an entry names all, one, or none

module _ (e : Entry) where
  names_all : (apics : List Entry) → eqb (destination e) everyone ≡ true → keep (names e) apics ≡ apics
  unfolding names keep
  names_all [] h = refl
  names_all (a ∷ apics) h = rw (h, keep, names_all apics h)

  names_one : (apics : List Entry) → eqb (destination e) everyone ≡ false → twice (each id_of apics) ≡ false
      → each id_of (keep (names e) apics) ≡ only (among (destination e) (each id_of apics)) (destination e ∷ [])
  unfolding names keep each among twice
  names_one [] h d = refl
  names_one (a ∷ apics) h d =
      let apart = or_parts (among (id_of a) (each id_of apics)) (twice (each id_of apics)) d in
      let rest = names_one apics h apart.1 in
      whether (eqb (destination e) (id_of a))
      (λ q. let s = eqb-true (destination e) (id_of a) q in rw (h, keep, q, rest, s, apart.0))
      (λ q. rw (h, keep, q, rest))

pub named_ids : (e : Entry) (apics : List Entry) → twice (each id_of apics) ≡ false
    → each id_of (keep (names e) apics) ≡ named (each id_of apics) (destination e)
unfolding named
named_ids e apics d =
    whether (eqb (destination e) everyone)
    (λ h. rw (h, names_all e apics h))
    (λ h. rw h (names_one e apics h d))

-- ---- Counts

pub length_pairs : (e : Entry) (ids : List ℕ) → length (joined (pair e) ids) ≡ length ids * pair_size
unfolding pair
length_pairs e = joined_length (pair e) pair_size (λ id. refl)

-- How many APICs each of some interrupt entries names, and the pairs of all of them.
counts : List ℕ → List Entry → List ℕ
counts ids = each (λ (e : Entry). length (named ids (destination e)))

length_joined : (ids : List ℕ) (es : List Entry) → length (joined (pairs_for ids) es) ≡ total (counts ids es) * pair_size
unfolding counts joined pairs_for each total
length_joined ids [] = refl
length_joined ids (e ∷ es) =
    let l = named ids (destination e) in
    rw (length-append (joined (pair e) l) (joined (pairs_for ids) es)) (omega (arith, length_pairs e l, length_joined ids es))

pub pairs_count : (ids : List ℕ) (p : Entry → Bool) (es : List Entry) → length (pairs_in ids p es) ≡ count_in ids p es * pair_size
unfolding pairs_in count_in counts
pairs_count ids p es = length_joined ids (keep p es)

-- What is made of the elements that pass a test, of each no more than m.
pub kept_most : {A B : Type 0} (f : A → List B) (m : ℕ) → ((x : A) → length (f x) ≤ m) → (p : A → Bool) (xs : List A)
    → length (joined f (keep p xs)) ≤ length xs * m
kept_most f m h p xs =
    let same : m ≤ m = omega arith in
    omega (arith, joined_most f m h (keep p xs), mul-le-mul (keep_most p xs) same)

-- ---- The routes of a table, between its places

-- The targets of a side stand in one part of the table, and its interrupts in another.
module _ (t : List ℕ) (side : Side) (n : ℕ) (s : List ℕ) (targets : keep (of_type side.targets) (base_entries t) ≡ rows n s)
    (apart : twice (enabled_ids side.targets (base_entries t)) ≡ false) where
  side_apart : twice (enabled_in n s) ≡ false
  unfolding enabled_in enabled_ids enabled_of
  side_apart = rw (← targets) apart

  side_pairs : (u : List ℕ) → keep (of_type side.interrupts) (base_entries t) ≡ rows entry_size u → (p : Entry → Bool)
      → pairs_of side p t ≡ pairs_in (enabled_in n s) p (rows entry_size u)
  unfolding pairs_of pairs_in enabled_in enabled_ids enabled_of pairs_to pairs_for
  side_pairs u interrupts p =
      rw (← interrupts, ← targets, keep_keep p (of_type side.interrupts) (base_entries t))
      (joined_same _ _ (λ e. ap (joined (pair e)) (named_ids e (keep enabled (keep (of_type side.targets) (base_entries t))) apart))
      (keep (λ (e : Entry). of_type side.interrupts e && p e) (base_entries t)))

module _ (t : List ℕ) (p : Sections) (placed : Placed t p) (a : table_refusal t ≡ 0) where
  pub io_apart : twice (enabled_in entry_size (part p.ioapics p.interrupts t)) ≡ false
  io_apart = side_apart t io_side entry_size _ placed.ioapics (obeyed t a).ioapics

  pub local_apart : twice (enabled_in processor_size (part header_size p.buses t)) ≡ false
  local_apart = side_apart t local_side processor_size _ placed.processors (obeyed t a).processors

  module _ (test : Entry → Bool) where
    pub io_pairs :
        pairs_of io_side test t
        ≡ pairs_in (enabled_in entry_size (part p.ioapics p.interrupts t)) test (rows entry_size (part p.interrupts p.locals t))
    io_pairs = side_pairs t io_side entry_size _ placed.ioapics (obeyed t a).ioapics _ placed.interrupts test

    pub local_pairs :
        pairs_of local_side test t
        ≡ pairs_in (enabled_in processor_size (part header_size p.buses t)) test (rows entry_size (part p.locals p.mappings t))
    local_pairs = side_pairs t local_side processor_size _ placed.processors (obeyed t a).processors _ placed.locals test

-- ---- What a query asks of an entry

-- A question compares the whole IRQ.
pub line_pairs : (side : Side) (itype bus irq : ℕ) (t : List ℕ)
    → routes_of (question side itype bus irq) t ≡ pairs_of side (wired itype bus irq false) t
unfolding routes_of routes matches asked pairs_of wired
line_pairs side itype bus irq t = refl

-- Device and pin packed are the IRQ without its bit 7.
module _ (bus device pin : ℕ) (d : device < devices) (p : pin < pins) where
  packed : (x : ℕ) → eqb (x % bus_slots) (device * pins + pin) ≡ (eqb (x / pins % devices) device && eqb (x % pins) pin)
  packed x =
      same_test _ _
      (λ h. let e = eqb-true (x % bus_slots) (device * pins + pin) h in
      rw (eq-eqb (x / pins % devices) device (omega (arith, e, d, p)), eq-eqb (x % pins) pin (omega (arith, e, d, p))))
      (λ h. let s = and_parts (eqb (x / pins % devices) device) (eqb (x % pins) pin) h in
      let e = eqb-true (x / pins % devices) device s.0 in
      let f = eqb-true (x % pins) pin s.1 in
      eq-eqb (x % bus_slots) (device * pins + pin) (omega (arith, e, f, d, p)))

  -- What a slot asks of an entry, by the IRQ without its bit 7.
  pub slot_low : (e : Entry)
      → (of_type io_interrupt_type e && (eqb (interrupt_type e) vectored && eqb (source_bus e) bus && eqb (source_irq e % bus_slots) (device * pins + pin)))
      ≡ wired_from (slot bus device pin) e
  unfolding wired_from names_slot
  slot_low e = rw (packed (source_irq e)) (turned (of_type io_interrupt_type e) (eqb (interrupt_type e) vectored) _ _ _)
    where
      turned : (a b c f g : Bool) → (a && (b && c && (f && g))) ≡ (b && (a && c && f && g))
      turned true true c f g = sym (and_assoc c f g)
      turned true false c f g = refl
      turned false true c f g = refl
      turned false false c f g = refl

  slot_test : (e : Entry)
      → (of_type io_interrupt_type e && wired vectored bus (device * pins + pin) true e) ≡ wired_from (slot bus device pin) e
  unfolding wired
  slot_test = slot_low

  pub slot_pairs : (t : List ℕ) → slot_routes_of (slot bus device pin) t ≡ pairs_of io_side (wired vectored bus (device * pins + pin) true) t
  unfolding slot_routes_of slot_routes pairs_of
  slot_pairs t = ap (λ (test : Entry → Bool). joined (pairs_to (enabled_of io_apic_type (base_entries t))) (keep test (base_entries t))) (sym (fun_ext slot_test))
