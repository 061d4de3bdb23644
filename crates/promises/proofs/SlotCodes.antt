-- The PCI slots of a table as numbers, by bus, then device, then pin: those that the listing gives are the numbers of a range
-- that pass a test, so they rise and each stands once (Sieve in laws). Assumes nothing.
use Prim.Native.Nat.{ℕ, ◌+◌, ◌*◌, ◌/◌, ◌%◌, ◌≤◌, ◌<◌}
use mathlib.Core.Path.{◌≡◌, refl, sym, ap, ◌∙◌}
use mathlib.Core.Bool.{true, false, ◌&&◌, false≢true}
use mathlib.Core.List.{List, [], ◌∷◌, ◌++◌}
use native.Mathlib.Omega.{arith}
use native.Mathlib.Nat.{add-zero}
use lib.ListN.{length, get_or-append}
use lib.Dec.{ltb, eqb}
use borrow.Author.Tests.{eqb-true, eq-eqb, ltb-false, lt-ltb, le-ltb}
use Rattle.mps.specs.Words.{byte, among, any, keep, each, below}
use Rattle.mps.specs.Layout.{Entry, of_type, bus_type, io_interrupt_type, source_bus, bus_slots, pins, devices, pin_of, device_of, base_entries}
use Rattle.mps.specs.Slots.{Slot, slot, names_slot, is_pci, pci_buses, on_pci, slot_size, slots}
use Rattle.laws.proofs.Tests.{whether, either, and_parts}
use Rattle.laws.proofs.Lists.{among_first, among_rest, at_among, among_at, any_one, length_each}
use Rattle.laws.proofs.Joined.{joined_length, joined_at}
use Rattle.laws.proofs.Sieve.{sieve_in, sieve_has, sieve_rises, rises_apart}
use Rattle.laws.proofs.Pigeons.{apart_most}
use Rattle.laws.proofs.Small.{Bytes, small_keep, below_each, small_base}
use Rattle.slots.specs.Sets.{slots_most, slot_of, is_named, slot_bytes}
use Rattle.slots.proofs.Laws.{slots_numbered}
use Rattle.promises.specs.Slots.{InRange, slot_at, earlier}

-- ---- A slot as one number (crate slots): those of the slots that are listed are the numbers of a range that pass a test

abbrev code_of : Slot → ℕ
code_of s = s.bus * bus_slots + (s.device * pins + s.pin)

abbrev pub codes : List Entry → List ℕ
codes es = keep (is_named es) (below slots_most)

slot_of_code : (s : Slot) → InRange s → slot_of (code_of s) ≡ s
slot_of_code s h =
    let d = h.device_low in
    let p = h.pin_low in
    let bus : code_of s / bus_slots ≡ s.bus = omega arith in
    let device : code_of s / pins % devices ≡ s.device = omega arith in
    let pin : code_of s % pins ≡ s.pin = omega arith in
    rw (bus, device, pin)

module _ (es : List Entry) where
  pub slots_length : length (slots es) ≡ length (codes es) * slot_size
  unfolding slot_bytes
  slots_length = rw (slots_numbered es) (joined_length slot_bytes slot_size (λ c. refl) (codes es))

  -- The bytes at a place, with anything behind them all.
  byte_at : (rest : List ℕ) (i j : ℕ) → i < length (codes es) → j < slot_size
      → byte (slots es ++ rest) (i * slot_size + j) ≡ byte (slot_bytes (byte (codes es) i)) j
  unfolding slot_bytes
  byte_at rest i j h k =
      let l = slots_length in
      get_or-append (slots es) rest 0 (i * slot_size + j) (omega arith)
      ∙ rw (slots_numbered es) (joined_at slot_bytes slot_size (λ c. refl) 0 (codes es) i j h k)

  pub slot_there : (rest : List ℕ) (i : ℕ) → i < length (codes es) → slot_at (slots es ++ rest) i ≡ slot_of (byte (codes es) i)
  unfolding slot_bytes
  slot_there rest i h =
      three
      (ap (byte (slots es ++ rest)) (sym (add-zero (i * slot_size))) ∙ byte_at rest i 0 h (omega arith))
      (byte_at rest i 1 h (omega arith))
      (byte_at rest i 2 h (omega arith))
    where
      three : {a b c d e f : ℕ} → a ≡ d → b ≡ e → c ≡ f → slot a b c ≡ slot d e f
      three p q r = rw (p, q, r)

-- ---- The order

earlier_of : (a b : ℕ) → a < b → earlier (slot_of a) (slot_of b) ≡ true
unfolding earlier
earlier_of a b h =
    whether (ltb (a / bus_slots) (b / bus_slots)) (λ t. rw t) λ f.
    let bus : a / bus_slots ≡ b / bus_slots = omega (arith, ltb-false (a / bus_slots) (b / bus_slots) f) in
    rw (f, eq-eqb (a / bus_slots) (b / bus_slots) bus)
    (whether (ltb (a / pins % devices) (b / pins % devices)) (λ t. rw t) λ g.
    let device : a / pins % devices ≡ b / pins % devices = omega (arith, ltb-false (a / pins % devices) (b / pins % devices) g) in
    rw (g, eq-eqb (a / pins % devices) (b / pins % devices) device) (lt-ltb (a % pins) (b % pins) (omega arith)))

pub codes_rise : (es : List Entry) (i j : ℕ) → i < j → j < length (codes es)
    → earlier (slot_of (byte (codes es) i)) (slot_of (byte (codes es) j)) ≡ true
codes_rise es i j h k = earlier_of (byte (codes es) i) (byte (codes es) j) (sieve_rises (is_named es) slots_most 0 i j h k)

pub not_earlier : (s : Slot) → earlier s s ≡ true → ⊥
unfolding earlier
not_earlier s e =
    let no : (x : ℕ) → ltb x x ≡ false = λ x. le-ltb x x (omega arith) in
    let same : (x : ℕ) → eqb x x ≡ true = λ x. eq-eqb x x refl in
    false≢true (rw (no s.bus, same s.bus, no s.device, same s.device, no s.pin) at e)

-- ---- A slot that some entry names is in range, and a PCI bus of bytes is a byte

names_parts : (s : Slot) (e : Entry) → names_slot s e ≡ true
    → (of_type io_interrupt_type e ≡ true) × (source_bus e ≡ s.bus) × (device_of e ≡ s.device) × (pin_of e ≡ s.pin)
unfolding names_slot
names_parts s e h =
    let a = of_type io_interrupt_type e in
    let b = eqb (source_bus e) s.bus in
    let c = eqb (device_of e) s.device in
    let d = eqb (pin_of e) s.pin in
    let three = and_parts (a && b && c) d h in
    let two = and_parts (a && b) c three.0 in
    let one = and_parts a b two.0 in
    (one.0, eqb-true (source_bus e) s.bus one.1, eqb-true (device_of e) s.device two.1, eqb-true (pin_of e) s.pin three.1)

named_range : (s : Slot) (es : List Entry) → any (names_slot s) es ≡ true → InRange s
named_range s es a =
    let e = any_one (names_slot s) es a in
    let p = names_parts s e.0 e.1 in
    record { device_low = omega (arith, p.2); pin_low = omega (arith, p.3) }

pub pci_byte : (t : List ℕ) → Bytes t → (bus : ℕ) → on_pci (base_entries t) bus ≡ true → bus < 256
unfolding on_pci pci_buses
pci_byte t b bus a =
    let p = among_at bus (pci_buses (base_entries t)) a in
    rw p.2 at (below_each 1 (small_keep is_pci (small_keep (of_type bus_type) (small_base t b))) p.0)

-- ---- Exactly those that are named, on a PCI bus

code_is : (es : List Entry) (c : ℕ) → among c (codes es) ≡ true → (on_pci es (c / bus_slots) ≡ true) × (any (names_slot (slot_of c)) es ≡ true)
unfolding is_named
code_is es c a = and_parts (on_pci es (c / bus_slots)) (any (names_slot (slot_of c)) es) (sieve_in (is_named es) slots_most 0 c a).2

pub coded_named : (es : List Entry) (i : ℕ) → i < length (codes es) → (s : Slot) → slot_of (byte (codes es) i) ≡ s
    → (on_pci es s.bus ≡ true) × (any (names_slot s) es ≡ true)
coded_named es i h s q =
    let is = code_is es (byte (codes es) i) (at_among (codes es) i h) in
    (ap (λ (x : Slot). on_pci es x.bus) (sym q) ∙ is.0, ap (λ (x : Slot). any (names_slot x) es) (sym q) ∙ is.1)

pub named_coded : (es : List Entry) (s : Slot) → s.bus < 256 → on_pci es s.bus ≡ true → any (names_slot s) es ≡ true
    → (i : ℕ) × (i < length (codes es)) × (slot_of (byte (codes es) i) ≡ s)
unfolding is_named
named_coded es s low pci named =
    let c = code_of s in
    let range = named_range s es named in
    let same = slot_of_code s range in
    let passes : is_named es c ≡ true = ap (λ (x : Slot). on_pci es x.bus && any (names_slot x) es) same ∙ rw pci named in
    let small : c < slots_most = omega (arith, low, range.device_low, range.pin_low) in
    let at = among_at c (codes es) (sieve_has (is_named es) slots_most 0 c (omega arith) small passes) in
    (at.0, at.1, ap slot_of at.2 ∙ same)

-- ---- No more slots than type 3 entries

abbrev code_from : Entry → ℕ
code_from e = source_bus e * bus_slots + (device_of e * pins + pin_of e)

named_among : (c : ℕ) (es : List Entry) → any (names_slot (slot_of c)) es ≡ true → among c (each code_from (keep (of_type io_interrupt_type) es)) ≡ true
unfolding any keep each
named_among c [] a = absurd (false≢true a)
named_among c (e ∷ es) a =
    either (names_slot (slot_of c) e) (any (names_slot (slot_of c)) es) a
    (λ h. let p = names_parts (slot_of c) e h in
    rw p.0 (among_first c (code_from e) (each code_from (keep (of_type io_interrupt_type) es)) (omega (arith, p.1, p.2, p.3))))
    (λ h. let r = named_among c es h in
    whether (of_type io_interrupt_type e) (λ t. rw t (among_rest c (code_from e) (each code_from (keep (of_type io_interrupt_type) es)) r)) (λ f. rw f r))

pub codes_most : (es : List Entry) → length (codes es) ≤ length (keep (of_type io_interrupt_type) es)
codes_most es =
    let interrupts = keep (of_type io_interrupt_type) es in
    rw (length_each code_from interrupts) at
    (apart_most (codes es) (each code_from interrupts)
    (λ c a. named_among c es (code_is es c a).1)
    (rises_apart (codes es) (sieve_rises (is_named es) slots_most 0)))
