-- What the slots of a table are, as numbers, and by its places. Assumes nothing.
use Prim.Native.Nat.{ℕ, ◌+◌, ◌*◌, ◌/◌, ◌%◌, ◌^◌, ◌≤◌, ◌<◌}
use mathlib.Core.Path.{◌≡◌, refl, sym, ap, ◌∙◌, fun_ext}
use mathlib.Core.Bool.{Bool, true, false, true≢false, ◌&&◌, and-false, and_assoc}
use mathlib.Core.List.{List, [], ◌∷◌}
use native.Mathlib.Omega.{arith}
use lib.Dec.{eqb, ltb}
use lib.ListN.{length, replicate}
use borrow.Author.Tests.{eq-eqb, eqb-true, ltb-true, ltb-false}
use Rattle.mps.specs.Words.{among, any, keep, each, only, joined, below, part}
use Rattle.mps.specs.Layout.{Entry, of_type, io_interrupt_type, entry_size, id_of, source_bus, source_irq, pins, devices, pin_of, device_of, base_entries}
use Rattle.mps.specs.Sections.{rows}
use Rattle.mps.specs.Slots.{slot, names_slot, is_pci, on_pci, slot_size, slot_named, slots, slots_of}
use Rattle.mps.specs.declared.Sections.{Sections}
use Rattle.laws.proofs.Tests.{whether, same_test, and_parts}
use Rattle.laws.proofs.Lists.{among_first, among_rest, among_cases, keep_in, keep_out, any_keep, any_and, among_each, keep_most}
use Rattle.laws.proofs.Joined.{joined_keep, only_joined}
use Rattle.laws.proofs.Rising.{length_rising, joined_rising, keep_rising, joined_blocks}
use Rattle.laws.proofs.Small.{Bytes, Small, bytes_part, small_rows, any_same}
use Rattle.roll.specs.Roll.{bus_bit, marked, enrolled, OnRoll}
use Rattle.roll.proofs.Laws.{enrolled_on}
use Rattle.judge.specs.Placed.{Placed}
use Rattle.judge.proofs.Laws.{placed_pci}
use Rattle.slots.specs.Sets.{slots_most, slot_number, named_on, slot_of, is_named, slot_bytes, listed_on, Held}
use Rattle.slots.proofs.Writing.{length_slots}

-- ---- The listing, by numbers

module _ (es : List Entry) where
  abbrev bytes_of : ℕ → List ℕ
  bytes_of n = only (is_named es n) (slot_bytes n)

  only_and : (a b : Bool) (l : List ℕ) → only (a && b) l ≡ only a (only b l)
  only_and true b l = refl
  only_and false b l = refl

  one : (bus device pin : ℕ) → device < 32 → pin < 4
      → bytes_of (bus * 128 + (device * 4 + pin)) ≡ only (on_pci es bus) (slot_named es bus device pin)
  unfolding is_named slot_bytes slot_named
  one bus device pin h k =
      let n = bus * 128 + (device * 4 + pin) in
      let a : n / 128 ≡ bus = omega arith in
      let b : n / 4 % 32 ≡ device = omega arith in
      let c : n % 4 ≡ pin = omega arith in
      rw (a, b, c) (only_and (on_pci es bus) (any (names_slot (slot bus device pin)) es) (bus ∷ device ∷ pin ∷ []))

  abbrev on_bus : ℕ → List ℕ
  on_bus bus = joined (λ (device : ℕ). joined (slot_named es bus device) (below pins)) (below devices)

  bus_numbered : (bus : ℕ) → joined (λ (i : ℕ). bytes_of (bus * 128 + i)) (below 128) ≡ only (on_pci es bus) (on_bus bus)
  bus_numbered bus =
      joined_blocks (λ (i : ℕ). bytes_of (bus * 128 + i)) 4 32
      ∙ joined_rising _ _ 32 0
      (λ device a h. joined_rising _ _ 4 0 (λ pin b k. one bus device pin (omega arith) (omega arith))
      ∙ sym (only_joined (on_pci es bus) (slot_named es bus device) (below 4)))
      ∙ sym (only_joined (on_pci es bus) (λ (device : ℕ). joined (slot_named es bus device) (below pins)) (below 32))

  pub slots_numbered : slots es ≡ joined slot_bytes (keep (is_named es) (below slots_most))
  unfolding slots
  slots_numbered =
      joined_keep on_bus (on_pci es) (below 256)
      ∙ joined_rising _ _ 256 0 (λ bus a h. sym (bus_numbered bus))
      ∙ sym (joined_blocks bytes_of 128 256)
      ∙ sym (joined_keep slot_bytes (is_named es) (below slots_most))

-- There are no more than these, whatever the table.
pub slots_most_lem : (t : List ℕ) → length (slots_of t) / slot_size < 2 ^ 32
unfolding slots_of
slots_most_lem t =
    let es = base_entries t in
    let named = keep (is_named es) (below slots_most) in
    omega (arith, ap length (slots_numbered es), length_slots named, keep_most (is_named es) (below slots_most), length_rising slots_most 0)

-- ---- A source names one number

module _ (n : ℕ) where
  -- The source of an entry is that slot.
  abbrev is_source : Entry → Bool
  is_source e = eqb (source_bus e) (n / 128) && eqb (device_of e) (n / 4 % 32) && eqb (pin_of e) (n % 4)

  source_number : (bus irq : ℕ) → eqb n (slot_number bus irq) ≡ (eqb bus (n / 128) && eqb (irq / 4 % 32) (n / 4 % 32) && eqb (irq % 4) (n % 4))
  unfolding slot_number
  source_number bus irq =
      same_test _ _
      (λ t. let e = eqb-true n (bus * 128 + irq % 128) t in
      rw (eq-eqb bus (n / 128) (omega (arith, e)), eq-eqb (irq / 4 % 32) (n / 4 % 32) (omega (arith, e)), eq-eqb (irq % 4) (n % 4) (omega (arith, e))))
      (λ t. let p = and_parts (eqb bus (n / 128) && eqb (irq / 4 % 32) (n / 4 % 32)) (eqb (irq % 4) (n % 4)) t in
      let q = and_parts (eqb bus (n / 128)) (eqb (irq / 4 % 32) (n / 4 % 32)) p.0 in
      eq-eqb n (bus * 128 + irq % 128)
      (omega (arith, eqb-true bus (n / 128) q.0, eqb-true (irq / 4 % 32) (n / 4 % 32) q.1, eqb-true (irq % 4) (n % 4) p.1)))

  -- Of type 3 entries among all.
  names_rows : (es rs : List Entry) → keep (of_type io_interrupt_type) es ≡ rs → any (names_slot (slot_of n)) es ≡ any is_source rs
  unfolding names_slot
  names_rows es rs e =
      ap (λ (test : Entry → Bool). any test es) (fun_ext (λ x. ap (λ (k : Bool). k && eqb (pin_of x) (n % 4)) (and_assoc (of_type io_interrupt_type x) (eqb (source_bus x) (n / 128)) (eqb (device_of x) (n / 4 % 32)))
      ∙ and_assoc (of_type io_interrupt_type x) (eqb (source_bus x) (n / 128) && eqb (device_of x) (n / 4 % 32)) (eqb (pin_of x) (n % 4))))
      ∙ sym (any_keep is_source (of_type io_interrupt_type) es) ∙ ap (any is_source) e

-- ---- The slots that are listed

-- What is made of elements that are kept is made of elements.
among_kept : {A : Type 0} (x : ℕ) (f : A → ℕ) (q : A → Bool) (xs : List A) → among x (each f (keep q xs)) ≡ true → among x (each f xs) ≡ true
unfolding keep each
among_kept x f q [] a = a
among_kept x f q (y ∷ xs) a =
    whether (q y)
    (λ t. among_cases x (f y) (each f (keep q xs)) (rw (keep_in q y xs t) at a) (among_first x (f y) (each f xs)) (λ b. among_rest x (f y) (each f xs) (among_kept x f q xs b)))
    (λ t. among_rest x (f y) (each f xs) (among_kept x f q xs (rw (keep_out q y xs t) at a)))

-- The PCI buses are on the roll, and the type 3 entries are the rows.
module _ (roll ids : List ℕ) (on : OnRoll bus_bit roll ids) (rs : List Entry) (small : Small rs) where
  among_named : (n : ℕ) → among n (named_on roll rs) ≡ (among (n / 128) ids && any (is_source n) rs)
  unfolding named_on
  among_named n =
      among_each n (λ (e : Entry). slot_number (source_bus e) (source_irq e)) (keep on_it rs)
      ∙ any_keep (λ (e : Entry). eqb n (slot_number (source_bus e) (source_irq e))) on_it rs
      ∙ any_same _ (λ (e : Entry). among (n / 128) ids && is_source n e) alike small
      ∙ any_and (among (n / 128) ids) (is_source n) rs
    where
      on_it : Entry → Bool
      on_it e = marked bus_bit roll (source_bus e)

      alike : (e : Entry) → Bytes e → (on_it e && eqb n (slot_number (source_bus e) (source_irq e))) ≡ (among (n / 128) ids && is_source n e)
      alike e b =
          rw (on (source_bus e) (b 4), source_number n (source_bus e) (source_irq e))
          (whether (eqb (source_bus e) (n / 128))
          (λ t. rw (t, eqb-true (source_bus e) (n / 128) t))
          (λ f. rw f (and-false (among (source_bus e) ids) ∙ sym (and-false (among (n / 128) ids)))))

module _ (t : List ℕ) (p : Sections) (placed : Placed t p) where
  abbrev pci_ids : List ℕ
  pci_ids = each id_of (keep is_pci (rows entry_size (part p.buses p.ioapics t)))

  abbrev wired : List Entry
  wired = rows entry_size (part p.interrupts p.locals t)

  named_among : (n : ℕ) → is_named (base_entries t) n ≡ (among (n / 128) pci_ids && any (is_source n) wired)
  unfolding is_named
  named_among n =
      rw (placed_pci t p placed (n / 128), names_rows n (base_entries t) wired placed.interrupts)

  -- With these buses on the roll, the slots of the table are those that its type 3 entries name.
  module _ {roll : List ℕ} (full : roll ≡ enrolled bus_bit (replicate 256 0) pci_ids) where
    on : OnRoll bus_bit roll pci_ids
    on = rw full (enrolled_on bus_bit 256 pci_ids refl)

    pub slots_listed_lem : slots_of t ≡ listed_on roll wired
    unfolding slots_of listed_on
    slots_listed_lem =
        slots_numbered (base_entries t)
        ∙ ap (joined slot_bytes) (keep_rising _ _ slots_most 0
        (λ n a h. named_among n
        ∙ sym (among_named roll pci_ids on wired (small_rows entry_size _ (bytes_part p.interrupts p.locals t placed.bytes)) n)))

    -- Two words for each bus ID up to the highest are enough.
    pub buses_held : (top : ℕ) → ((x : ℕ) → top ≤ x → among x (each id_of (rows entry_size (part p.buses p.ioapics t))) ≡ false)
        → {size : ℕ} → size ≡ top * 2 → Held roll size
    buses_held top above e bus h m =
        let is = among_kept bus id_of is_pci (rows entry_size (part p.buses p.ioapics t)) (sym (on bus h) ∙ m) in
        whether (ltb bus top)
        (λ l. omega (arith, e, ltb-true bus top l))
        (λ l. absurd (true≢false (sym is ∙ above bus (ltb-false bus top l))))
