-- Laws of the two tables. A rule of a whole table is one test that antt computes. Assumes nothing.
use Prim.Native.Nat.{ℕ, zero, suc, ◌+◌, ◌*◌, ◌%◌, ◌<◌, ◌≤◌}
use mathlib.Core.Path.{◌≡◌, refl, ap, sym, ◌∙◌}
use mathlib.Core.Bool.{Bool, true, false, true≢false}
use mathlib.Core.List.{List, [], ◌∷◌}
use native.Mathlib.Omega.{arith}
use native.Mathlib.Nat.{zero-add, add-zero, add-suc, suc-add, not-suc-le-zero, le_of_suc-le-suc, mod-mod}
use lib.ListN.{length, get_or, take, drop, get_or-replicate, get_or-map}
use lib.Dec.{eqb}
use borrow.Author.Tests.{eq-eqb, eqb-true}
use Rattle.mps.specs.Words.{text, bit, flag, same, any, every}
use Rattle.mps.specs.Numbers.{le, bytes}
use Rattle.mps.specs.Buses.{bus_names, is_bus_name}
use Rattle.mps.specs.Ranges.{isa, vga, ranges_at, printed_isa, printed_vga}
use Rattle.laws.proofs.Tests.{same_test, and_parts, either}
use Rattle.laws.proofs.Small.{Bytes}
use Rattle.numbers.proofs.Laws.{le_row, bytes_le}
use Rattle.slices.proofs.Laws.{same_is, same_true}
use Rattle.tables.specs.Quick.{pci_name, quick_names, quick_name}

-- ---- values: a function written out as a table

module _ {A : Type 0} where
  -- The n values of a function from i on.
  unfoldable pub values : (ℕ → A) → ℕ → ℕ → List A
  values f i zero = []
  values f i (suc n) = f i ∷ values f (suc i) n

  pub values_from : (f : ℕ → A) (i n k : ℕ) (d : A) → k < n → get_or (values f i n) k d ≡ f (i + k)
  unfolding values
  values_from f i zero k d h = absurd (not-suc-le-zero h)
  values_from f i (suc n) zero d h = rw add-zero
  values_from f i (suc n) (suc k) d h =
      values_from f (suc i) n k d (le_of_suc-le-suc h) ∙ rw (suc-add, add-suc)

  -- A table of a function's values holds the value at each place.
  pub values_at : (f : ℕ → A) (n k : ℕ) (d : A) → k < n → get_or (values f 0 n) k d ≡ f k
  values_at f n k d h = values_from f 0 n k d h ∙ ap f (zero-add k)

  -- Two functions with the same table are equal at each place.
  pub values_same : (f g : ℕ → A) (n k : ℕ) → values f 0 n ≡ values g 0 n → k < n → f k ≡ g k
  values_same f g n k e h = sym (values_at f n k (f 0) h) ∙ rw e (values_at g n k (f 0) h)

-- ---- bus_names

pub names_six : (k : ℕ) → k < 18 → length (get_or bus_names k []) ≡ 6
unfolding bus_names text
names_six k h = sym (get_or-map length bus_names k []) ∙ get_or-replicate 18 k 6 0 h

-- ---- Names as numbers

-- Six bytes have the number of "PCI   " exactly where they are that name.
pub pci_is_name :
    (s : List ℕ) (at : ℕ) → at + 6 ≤ length s → Bytes s → pci_name (le 6 s at) ≡ same (take 6 (drop at s)) (text "PCI   ")
unfolding pci_name text le bytes
pci_is_name s at h b =
    let name = text "PCI   " in
    let piece = take 6 (drop at s) in
    let whole : le 6 piece 0 ≡ le 6 s at = rw (add-zero at) at (le_row 6 6 s at 0 (omega arith)) in
    same_test _ _
    (λ t. same_is piece name (sym (bytes_le 6 s at h b) ∙ ap (bytes 6) (eqb-true (le 6 s at) (le 6 name 0) t)))
    (λ t. eq-eqb (le 6 s at) (le 6 name 0) (sym whole ∙ ap (λ (l : List ℕ). le 6 l 0) (same_true piece name t)))

-- Six bytes that have the number of a quick name are one of the names.
pub quick_is_name :
    (s : List ℕ) (at : ℕ) → at + 6 ≤ length s → Bytes s → quick_name (le 6 s at) ≡ true → is_bus_name (take 6 (drop at s)) ≡ true
unfolding quick_name quick_names is_bus_name bus_names text le bytes any every same
quick_is_name s at h b q = rw (← bytes_le 6 s at h b) (found (le 6 s at) quick_names refl q)
  where
    found :
        (n : ℕ) (names : List (List ℕ)) → every (λ (name : List ℕ). is_bus_name (bytes 6 (le 6 name 0))) names ≡ true
        → any (λ (name : List ℕ). eqb n (le 6 name 0)) names ≡ true → is_bus_name (bytes 6 n) ≡ true
    found n [] a q = absurd (true≢false (sym q))
    found n (name ∷ names) a q =
        let p = and_parts (is_bus_name (bytes 6 (le 6 name 0))) _ a in
        either (eqb n (le 6 name 0)) _ q (λ e. rw (eqb-true n (le 6 name 0) e) p.0) (found n names p.1)

-- ---- isa, vga

pub isa_low : (address : ℕ) → isa address ≡ isa (address % 1024)
unfolding isa
isa_low address = rw (mod-mod address 1024)

pub vga_low : (address : ℕ) → vga address ≡ vga (address % 1024)
unfolding vga
vga_low address = rw (mod-mod address 1024)

-- ---- ranges_at

-- Two flags in one number, and how each is read.
pub flags_bits : (p q : Bool) → (bit 0 (flag p + 2 * flag q) ≡ p) × (bit 1 (flag p + 2 * flag q) ≡ q)
unfolding bit
flags_bits true true = (refl, refl)
flags_bits true false = (refl, refl)
flags_bits false true = (refl, refl)
flags_bits false false = (refl, refl)

pub ranges_isa : (address : ℕ) → bit 0 (ranges_at address) ≡ isa address
unfolding ranges_at
ranges_isa address = (flags_bits (isa address) (vga address)).0

pub ranges_vga : (address : ℕ) → bit 1 (ranges_at address) ≡ vga address
unfolding ranges_at
ranges_vga address = (flags_bits (isa address) (vga address)).1

pub ranges_low : (address : ℕ) → ranges_at (address % 1024) ≡ ranges_at address
unfolding ranges_at
ranges_low address = rw (← isa_low address, ← vga_low address)

-- ---- printed_isa, printed_vga: what Intel prints and document 01's rule are the same

pub printed_isa_lem : (x : ℕ) → x < 4096 → isa x ≡ printed_isa x
unfolding values isa printed_isa
printed_isa_lem x h = values_same isa printed_isa 4096 x refl h

pub printed_vga_lem : (x : ℕ) → x < 4096 → vga x ≡ printed_vga x
unfolding values vga printed_vga
printed_vga_lem x h = values_same vga printed_vga 4096 x refl h

-- What reads the low ten bits reads the low twelve.
pub low_twelve : (f : ℕ → Bool) → ((a : ℕ) → f a ≡ f (a % 1024)) → (a : ℕ) → f a ≡ f (a % 4096)
low_twelve f low a =
    let e : a % 1024 ≡ a % 4096 % 1024 = omega arith in
    low a ∙ ap f e ∙ sym (low (a % 4096))

-- At every address.
pub isa_printed : (address : ℕ) → isa address ≡ printed_isa (address % 4096)
isa_printed address = low_twelve isa isa_low address ∙ printed_isa_lem (address % 4096) (omega arith)

pub vga_printed : (address : ℕ) → vga address ≡ printed_vga (address % 4096)
vga_printed address = low_twelve vga vga_low address ∙ printed_vga_lem (address % 4096) (omega arith)
