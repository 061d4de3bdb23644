-- How long each line of an entry is, from its words. Assumes nothing.
use Prim.Native.Nat.{ℕ, zero, suc, ◌+◌, ◌/◌, ◌%◌, ◌≤◌, ◌<◌, min}
use mathlib.Core.Path.{◌≡◌, refl, sym, ◌∙◌}
use mathlib.Core.Bool.{Bool, true, false}
use mathlib.Core.List.{List, [], ◌∷◌}
use native.Mathlib.Omega.{arith}
use native.Mathlib.Nat.{div-one}
use lib.ListN.{length, drop, length-take}
use borrow.Author.Tests.{ne_eqb, lt-ltb}
use Rattle.mps.specs.Words.{text, bit, flag, byte, part, each}
use Rattle.mps.specs.Sums.{total}
use Rattle.mps.specs.Numbers.{le}
use Rattle.mps.specs.Layout.{Entry, polarity, trigger}
use Rattle.mps.specs.Listing.{decimal, decimal_width, hex, unpadded, on_off, boot_ap, interrupt_name}
use Rattle.mps.specs.Listing.{cpu_line, bus_line, io_apic_line, interrupt_line, base_line}
use Rattle.mps.specs.Listing.{map_line, tree_line, mod_line, skip_line, extended_line}
use Rattle.laws.proofs.Parts.{part_inside}
use Rattle.text.proofs.Laws.{length_decimal, length_hex, length_unpadded, length_line}

-- ---- Words

pub field_is : {x w : ℕ} (n : ℕ) → x ≡ n → w ≡ decimal_width x → w ≡ length (decimal n)
field_is n e f = rw e at f ∙ sym (length_decimal n)

one_digit : (n : ℕ) → n < 10 → length (decimal n) ≡ 1
unfolding decimal_width
one_digit n h = length_decimal n ∙ rw (lt-ltb n 10 h)

flag_digit : (b : Bool) → length (decimal (flag b)) ≡ 1
flag_digit true = one_digit 1 (omega arith)
flag_digit false = one_digit 0 (omega arith)

module _ (n : ℕ) where
  pub on_is : n % 2 ≡ 1 → 2 ≡ length (on_off (bit 0 n))
  unfolding text on_off bit
  on_is h = rw (div-one, h)

  pub off_is : n % 2 ≡ 0 → 3 ≡ length (on_off (bit 0 n))
  unfolding text on_off bit
  off_is h = rw (div-one, h)

  pub boot_is : n / 2 % 2 ≡ 1 → 4 ≡ length (boot_ap (bit 1 n))
  unfolding text boot_ap bit
  boot_is h = rw h

  pub ap_is : n / 2 % 2 ≡ 0 → 2 ≡ length (boot_ap (bit 1 n))
  unfolding text boot_ap bit
  ap_is h = rw h

pub short_name : (n : ℕ) → n < 3 → 3 ≡ length (interrupt_name n)
unfolding text interrupt_name
short_name zero h = refl
short_name (suc zero) h = refl
short_name (suc (suc zero)) h = refl
short_name (suc (suc (suc n))) h = absurd (omega (arith, h))

pub long_name : (n : ℕ) → 3 ≤ n → 6 ≡ length (interrupt_name n)
unfolding text interrupt_name
long_name n h =
    rw (ne_eqb n 0 (λ e. omega (arith, e)), ne_eqb n 1 (λ e. omega (arith, e)), ne_eqb n 2 (λ e. omega (arith, e)))

-- ---- Lines of base entries

module _ (e : Entry) {a b : ℕ} where
  pub cpu_is :
      {c d flags : ℕ} → flags ≡ byte e 3 → a ≡ length (decimal (byte e 1)) → b ≡ length (decimal (byte e 2))
      → c ≡ length (on_off (bit 0 flags)) → d ≡ length (boot_ap (bit 1 flags)) → 8 + a + b + c + d ≡ length (cpu_line e)
  unfolding cpu_line text total each
  cpu_is f h i j k =
      let x = rw f at j in
      let y = rw f at k in
      omega (
        arith,
        length_line (text "cpu")
            (decimal (byte e 1) ∷ decimal (byte e 2) ∷ on_off (bit 0 (byte e 3)) ∷ boot_ap (bit 1 (byte e 3)) ∷ []),
        x,
        y,
      )

  pub bus_is :
      {from to : ℕ} → from ≡ min 2 (length e) → to ≡ min 8 (length e) → a ≡ length (decimal (byte e 1))
      → b ≡ length (unpadded (part from to e)) → 6 + a + b ≡ length (bus_line e)
  unfolding bus_line text total each
  bus_is f g h i =
      let x = rw (f, g, part_inside 2 8 e) at i in
      omega (arith, length_line (text "bus") (decimal (byte e 1) ∷ unpadded (part 2 8 e) ∷ []), x)

  pub io_apic_is :
      {c flags : ℕ} → flags ≡ byte e 3 → a ≡ length (decimal (byte e 1)) → b ≡ length (decimal (byte e 2))
      → c ≡ length (on_off (bit 0 flags)) → 19 + a + b + c ≡ length (io_apic_line e)
  unfolding io_apic_line text total each
  io_apic_is f h i j =
      let x = rw f at j in
      omega (
        arith,
        length_line (text "ioapic")
            (decimal (byte e 1) ∷ decimal (byte e 2) ∷ on_off (bit 0 (byte e 3)) ∷ hex 8 (le 4 e 4) ∷ []),
        length_hex 8 (le 4 e 4),
        x,
      )

length_interrupt :
    (e : Entry) (word : List ℕ)
    → length (interrupt_line word e)
    ≡ length word + 10 + length (interrupt_name (byte e 1)) + length (decimal (byte e 4)) + length (decimal (byte e 5))
    + length (decimal (byte e 6)) + length (decimal (byte e 7))
unfolding interrupt_line total each
length_interrupt e word =
    omega (
      arith,
      length_line word
          (interrupt_name (byte e 1)
          ∷ decimal (byte e 4)
          ∷ decimal (byte e 5)
          ∷ decimal (polarity e)
          ∷ decimal (trigger e)
          ∷ decimal (byte e 6)
          ∷ decimal (byte e 7)
          ∷ []),
      one_digit (polarity e) (omega arith),
      one_digit (trigger e) (omega arith),
    )

pub interrupt_is :
    (e : Entry) {kind name a b c d : ℕ} → kind ≡ byte e 1 → name ≡ length (interrupt_name kind)
    → a ≡ length (decimal (byte e 4)) → b ≡ length (decimal (byte e 5)) → c ≡ length (decimal (byte e 6))
    → d ≡ length (decimal (byte e 7)) → 10 + name + (a + b) + c + d ≡ length (interrupt_line [] e)
interrupt_is e k n f g h i =
    let x = rw k at n in
    omega (arith, length_interrupt e [], x)

-- A name has at most six bytes.
pub name_most :
    (e : Entry) {from to n : ℕ} → from ≡ min 2 (length e) → to ≡ min 8 (length e)
    → n ≡ length (unpadded (part from to e)) → n ≤ 6
name_most e f g h =
    let x = rw (f, g, part_inside 2 8 e) at h in
    omega (arith, x, length_unpadded (part 2 8 e), length-take 6 (drop 2 e))

-- ---- By their type

module _ (e : Entry) {kind : ℕ} (is : kind ≡ byte e 0) where
  pub cpu_type : {r : ℕ} → kind ≡ 0 → r ≡ length (cpu_line e) → r ≡ length (base_line e)
  unfolding base_line
  cpu_type h q = rw (← is, h) q

  pub bus_type_lem : {r : ℕ} → kind ≡ 1 → r ≡ length (bus_line e) → r ≡ length (base_line e)
  unfolding base_line
  bus_type_lem h q = rw (← is, h) q

  pub io_apic_type_lem : {r : ℕ} → kind ≡ 2 → r ≡ length (io_apic_line e) → r ≡ length (base_line e)
  unfolding base_line
  io_apic_type_lem h q = rw (← is, h) q

  pub int_type : {r : ℕ} → kind ≡ 3 → r ≡ length (interrupt_line [] e) → 3 + r ≡ length (base_line e)
  unfolding base_line text
  int_type h q = rw (← is, h) (omega (arith, length_interrupt e [], length_interrupt e (text "int"), q))

  pub lint_type :
      {r : ℕ} → (kind ≡ 0 → ⊥) → (kind ≡ 1 → ⊥) → (kind ≡ 2 → ⊥) → (kind ≡ 3 → ⊥) → r ≡ length (interrupt_line [] e)
      → 4 + r ≡ length (base_line e)
  unfolding base_line text
  lint_type a b c d q =
      rw (← is, ne_eqb _ _ a, ne_eqb _ _ b, ne_eqb _ _ c, ne_eqb _ _ d)
      (omega (arith, length_interrupt e [], length_interrupt e (text "lint"), q))

  -- .. and of extended entries.

  skipped : (kind ≡ 128 → ⊥) → (kind ≡ 129 → ⊥) → (kind ≡ 130 → ⊥) → extended_line e ≡ skip_line e
  unfolding extended_line
  skipped a b h = rw (← is, ne_eqb _ _ a, ne_eqb _ _ b, ne_eqb _ _ h)

  module _ {a b : ℕ} where
    pub map_type :
        kind ≡ 128 → a ≡ length (decimal (byte e 2)) → b ≡ length (decimal (byte e 3))
        → 40 + a + b ≡ length (extended_line e)
    unfolding extended_line map_line text total each
    map_type h f g =
        rw (← is, h)
        (omega (
          arith,
          length_line (text "map")
              (decimal (byte e 2) ∷ decimal (byte e 3) ∷ hex 16 (le 8 e 4) ∷ hex 16 (le 8 e 12) ∷ []),
          length_hex 16 (le 8 e 4),
          length_hex 16 (le 8 e 12),
          f,
          g,
        ))

    pub tree_type :
        kind ≡ 129 → a ≡ length (decimal (byte e 2)) → b ≡ length (decimal (byte e 4))
        → 9 + a + b ≡ length (extended_line e)
    unfolding extended_line tree_line text total each
    tree_type h f g =
        rw (← is, h)
        (omega (
          arith,
          length_line (text "tree") (decimal (byte e 2) ∷ decimal (byte e 4) ∷ decimal (flag (bit 0 (byte e 3))) ∷ []),
          flag_digit (bit 0 (byte e 3)),
          f,
          g,
        ))

    pub mod_type :
        {list : ℕ} → kind ≡ 130 → a ≡ length (decimal (byte e 2)) → list ≡ le 4 e 4 → b ≡ decimal_width list
        → 8 + a + b ≡ length (extended_line e)
    unfolding extended_line mod_line text total each
    mod_type h f l g =
        let x = field_is (le 4 e 4) l g in
        rw (← is, h)
        (omega (
          arith,
          length_line (text "mod") (decimal (byte e 2) ∷ decimal (flag (bit 0 (byte e 3))) ∷ decimal (le 4 e 4) ∷ []),
          flag_digit (bit 0 (byte e 3)),
          f,
          x,
        ))

    pub skip_type :
        (kind ≡ 128 → ⊥) → (kind ≡ 129 → ⊥) → (kind ≡ 130 → ⊥) → a ≡ length (decimal (byte e 0))
        → b ≡ length (decimal (byte e 1)) → 7 + a + b ≡ length (extended_line e)
    unfolding skip_line text total each
    skip_type x y z f g =
        rw (skipped x y z) (omega (arith, length_line (text "skip") (decimal (byte e 0) ∷ decimal (byte e 1) ∷ []), f, g))
