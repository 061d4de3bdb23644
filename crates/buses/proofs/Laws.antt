-- Laws of the buses called over the roll: of one, of the pieces that a loop has left, and what comes of it in the words of rule
-- 15; and of the search for one bus, listed or of PCI, and of the PCI buses put on a roll. Assumes nothing.
use Prim.Native.Nat.{ℕ, suc, ◌/◌, ◌<◌}
use mathlib.Core.Path.{◌≡◌, refl, sym, ◌∙◌}
use mathlib.Core.Bool.{Bool, true, false, ◌||◌, ◌&&◌, not, and-true, and-false, or-false}
use mathlib.Core.List.{List, [], ◌∷◌, ◌++◌}
use native.Mathlib.Omega.{arith}
use lib.ListN.{length, get_or}
use lib.Dec.{eqb}
use Rattle.mps.specs.Words.{bit, among, any, each, keep, twice}
use Rattle.mps.specs.Numbers.{le}
use Rattle.mps.specs.Layout.{Entry, id_of, name_of}
use Rattle.mps.specs.Buses.{is_bus_name}
use Rattle.mps.specs.Rules.{unknown_name}
use Rattle.mps.specs.Sections.{rows}
use Rattle.mps.specs.Slots.{is_pci}
use Rattle.laws.proofs.Tests.{whether}
use Rattle.laws.proofs.Small.{Bytes, Small, below_each}
use Rattle.numbers.proofs.Laws.{le_split, le_below}
use Rattle.tables.specs.Quick.{pci_name, quick_name}
use Rattle.tables.proofs.Laws.{pci_is_name, quick_is_name}
use Rattle.roll.specs.Roll.{marked, with_marks, Shows, enrolled}
use Rattle.roll.specs.Calls.{wrong_one, called}
use Rattle.roll.proofs.Pieces.{call_next, enrol_on}
use Rattle.roll.proofs.Laws.{called_wrong, called_all, called_other, keep_every}
use Rattle.buses.specs.Buses.{bus_call}

-- ---- One bus

module _ (roll e : List ℕ) {a : Bool} (p : a ≡ marked 3 roll (get_or e 1 0)) where
  pub bus_taken : a ≡ true → a ≡ wrong_one bus_call roll e
  unfolding bus_call wrong_one
  bus_taken t = rw (← p, t)

  pub bus_free : a ≡ false → {b : Bool} → b ≡ is_bus_name (name_of e) → not b ≡ wrong_one bus_call roll e
  unfolding bus_call wrong_one unknown_name
  bus_free f q = rw (← p, f, q)

pub bus_fine :
    (roll e : List ℕ) {a : Bool} → a ≡ marked 3 roll (get_or e 1 0) → a ≡ false → is_bus_name (name_of e) ≡ true → wrong_one bus_call roll e ≡ false
unfolding bus_call wrong_one unknown_name
bus_fine roll e p f q = rw (← p, f, q)

pub ruleset bus_steps = (bus_taken, bus_free)

pub bus_next :
    (roll rest e left next : List ℕ) → length e ≡ 8 → rest ≡ e ++ left → wrong_one bus_call roll e ≡ false
    → next ≡ with_marks 8 roll (get_or e 1 0) → called bus_call roll (rows 8 rest) ≡ called bus_call next (rows 8 left)
unfolding bus_call
bus_next roll rest e left next h c w q = call_next bus_call roll 8 rest e left (omega arith) h c w ∙ rw q

-- The name of an entry that is read as one number.
name_number : (e : Entry) → Bytes e → le 8 e 0 / 65536 ≡ le 6 e 2
name_number e b = omega (arith, le_split 2 6 e 0, le_below 2 e 0 b)

pub quick_is :
    (e : Entry) → length e ≡ 8 → Bytes e → {n : ℕ} → n ≡ le 8 e 0 → {b : Bool} → b ≡ quick_name (n / 65536) → b ≡ true
    → is_bus_name (name_of e) ≡ true
quick_is e l small p q t = quick_is_name e 2 (omega (arith, l)) small (rw (p, name_number e small) at (sym q ∙ t))

-- ---- In the words of the rule

module _ (roll : List ℕ) (size : length roll ≡ 256) (es : List Entry) where
  -- Over a roll with no bus on it.
  pub buses_wrong :
      Small es → Shows 3 roll (λ (y : ℕ). false) → (called bus_call roll es).wrong ≡ (twice (each id_of es) || any unknown_name es)
  unfolding bus_call bit keep any
  buses_wrong small free =
      rw (
        called_wrong bus_call (λ (e : Entry). refl) roll size es small,
        keep_every es,
        none (each id_of es) (below_each 1 small),
      )
    where
      none : (ids : List ℕ) → Bytes ids → any (marked 3 roll) ids ≡ false
      none [] b = refl
      none (x ∷ ids) b = rw (free x (b 0)) (none ids (λ i. b (suc i)))

  -- The roll behind buses of which none is wrong.
  module _ (fine : (called bus_call roll es).wrong ≡ false) (y : ℕ) (h : y < 256) where
    pub buses_listed : Shows 3 roll (λ (y : ℕ). false) → marked 3 (called bus_call roll es).roll y ≡ among y (each id_of es)
    unfolding bus_call bit
    buses_listed free =
        called_all bus_call 3 roll es fine y (rw size h) (λ (e : Entry). refl)
        ∙ rw (free y h) (or-false (among y (each id_of es)))

    -- Another bit.
    pub buses_keep : (j : ℕ) → bit j 8 ≡ false → marked j (called bus_call roll es).roll y ≡ marked j roll y
    unfolding bus_call
    buses_keep j o = called_other bus_call j roll es fine y (rw size h) (λ (e : Entry). o)

-- ---- One bus of those asked for

-- Whether an entry has this ID.
abbrev pub has_id : ℕ → Entry → Bool
has_id bus e = eqb bus (id_of e)

pub ids_among : (bus : ℕ) (es : List Entry) → any (has_id bus) es ≡ among bus (each id_of es)
unfolding any among each
ids_among bus [] = refl
ids_among bus (e ∷ es) = rw (ids_among bus es)

-- ---- PCI buses

pub pci_named : (e : Entry) → length e ≡ 8 → Bytes e → pci_name (le 8 e 0 / 65536) ≡ is_pci e
unfolding is_pci
pci_named e l b = rw (name_number e b) (pci_is_name e 2 (omega (arith, l)) b)

-- Whether an entry is of a PCI bus with this ID.
abbrev pub pci_with_id : ℕ → Entry → Bool
pci_with_id bus e = has_id bus e && is_pci e

pub pci_among : (bus : ℕ) (es : List Entry) → any (pci_with_id bus) es ≡ among bus (each id_of (keep is_pci es))
unfolding any keep each among
pci_among bus [] = refl
pci_among bus (e ∷ es) =
    whether (is_pci e)
    (λ t. rw (t, and-true (has_id bus e), pci_among bus es))
    (λ f. rw (f, and-false (has_id bus e)) (pci_among bus es))

-- What the loop that puts them on a roll does at one.
pub enrol_next :
    (roll rest e left next : List ℕ) → length e ≡ 8 → rest ≡ e ++ left → is_pci e ≡ true → next ≡ with_marks 8 roll (get_or e 1 0)
    → enrolled 3 roll (each id_of (keep is_pci (rows 8 rest))) ≡ enrolled 3 next (each id_of (keep is_pci (rows 8 left)))
enrol_next roll rest e left next h c t q = enrol_on 3 is_pci roll 8 rest e left (omega arith) h c t ∙ rw q
