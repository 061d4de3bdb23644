-- The entries one by one, and stored one behind the other. Assumes nothing.
use Prim.Native.Nat.{ℕ, ◌+◌, ◌≤◌, ◌<◌}
use mathlib.Core.Path.{◌≡◌, refl}
use mathlib.Core.Bool.{◌||◌}
use mathlib.Core.Logic.{◌⊎◌, inl, inr}
use mathlib.Core.List.{List, ◌∷◌, ◌++◌, append-nil}
use native.Mathlib.Omega.{arith}
use lib.ListN.{length, length-append}
use lib.Seq.{sets}
use lib.Dec.{ltb, eqb}
use borrow.Author.Tests.{ne_eqb, lt-ltb, le-ltb}
use Rattle.mps.specs.Words.{text, part, joined, rising}
use Rattle.mps.specs.Numbers.{bytes}
use Rattle.mps.specs.Defaults.{ISA, EISA, MCA, PCI, processor_entry, io_apic_entry, interrupt_entry}
use Rattle.laws.proofs.Tests.{whether}
use Rattle.laws.proofs.Stores.{sets_behind}
use Rattle.defaults.specs.Laid.{apic_of, first_bus, buses_laid, input_entry, all_inputs, inputs_of2, inputs_of7, inputs_laid, locals_laid, front_laid, laid}

-- ---- The first bus

pub bus_isa : (n : ℕ) → (n ≡ 1) ⊎ (n ≡ 5) → 0x01 ∷ 0x00 ∷ ISA ≡ first_bus n
unfolding first_bus
bus_isa n (inl e) = rw e
bus_isa n (inr e) = rw e

pub bus_mca : (n : ℕ) → (n ≡ 4) ⊎ (n ≡ 7) → 0x01 ∷ 0x00 ∷ MCA ≡ first_bus n
unfolding first_bus
bus_mca n (inl e) = rw e
bus_mca n (inr e) = rw e

pub bus_eisa : (n : ℕ) → ((n ≡ 1) ⊎ (n ≡ 5) → ⊥) → ((n ≡ 4) ⊎ (n ≡ 7) → ⊥) → 0x01 ∷ 0x00 ∷ EISA ≡ first_bus n
unfolding first_bus
bus_eisa n a b =
    rw (ne_eqb n 1 (λ e. a (inl e)), ne_eqb n 5 (λ e. a (inr e)), ne_eqb n 4 (λ e. b (inl e)), ne_eqb n 7 (λ e. b (inr e)))

-- ---- Entries stored one behind the other

-- Bytes that are stored, and the place behind them.
pub record Put (out : List ℕ) (at : ℕ) (w u : List ℕ) (end : ℕ) : Type 0 where
  pub place : end ≡ at + length w
  pub text : u ≡ sets out at w

-- Bytes that are those of a definition.
pub put_as : {out u v : List ℕ} {at end : ℕ} (w : List ℕ) → v ≡ w → end ≡ at + length v → u ≡ sets out at v → Put out at w u end
put_as w e f g = record { place = rw e at f; text = rw e at g }

pub then : {out u x : List ℕ} {at a b : ℕ} (v w : List ℕ) → Put out at v u a → Put u a w x b → Put out at (v ++ w) x b
then {out} {at = at} v w p q =
    record { place = omega (arith, p.place, q.place, length-append v w); text = sets_behind out at v w (omega (arith, p.place)) p.text q.text }

processor_twenty : (apic boot id : ℕ) → length (processor_entry apic boot id) ≡ 20
unfolding processor_entry
processor_twenty apic boot id = refl

pub first_eight : (n : ℕ) → length (first_bus n) ≡ 8
unfolding first_bus text ISA EISA MCA
first_eight n = whether (eqb n 1 || eqb n 5) (λ e. rw e) (λ e. rw e (whether (eqb n 4 || eqb n 7) (λ f. rw f) (λ f. rw f)))

buses_one : (n : ℕ) → n < 5 → buses_laid n ≡ first_bus n
unfolding buses_laid
buses_one n h = rw (lt-ltb n 5 h) (append-nil (first_bus n))

buses_two : (n : ℕ) → 5 ≤ n → buses_laid n ≡ first_bus n ++ (0x01 ∷ 0x01 ∷ PCI)
unfolding buses_laid
buses_two n h = rw (le-ltb n 5 h)

module _ (n : ℕ) {out u : List ℕ} {at a : ℕ} (p : Put out at (first_bus n) u a) where
  pub one_bus : n < 5 → Put out at (buses_laid n) u a
  one_bus h = rw (buses_one n h) p

  pub two_buses : 5 ≤ n → {x : List ℕ} {b : ℕ} → Put u a (0x01 ∷ 0x01 ∷ PCI) x b → Put out at (buses_laid n) x b
  two_buses h q = rw (buses_two n h) (then (first_bus n) (0x01 ∷ 0x01 ∷ PCI) p q)

-- ---- All of them

-- Configuration 2 in three pieces.
pub two_laid :
    {out u v x : List ℕ} {at a b c : ℕ} → Put out at (part 0 16 all_inputs) u a → Put u a (part 24 104 all_inputs) v b
    → Put v b (part 112 128 all_inputs) x c → Put out at inputs_of2 x c
unfolding inputs_of2
two_laid p q r =
    then (part 0 16 all_inputs) (part 24 104 all_inputs ++ part 112 128 all_inputs) p
    (then (part 24 104 all_inputs) (part 112 128 all_inputs) q r)

-- By the configuration.
module _ (n : ℕ) where
  pub laid_2 : n ≡ 2 → inputs_of2 ≡ inputs_laid n
  unfolding inputs_laid
  laid_2 e = rw e

  pub laid_7 : n ≡ 7 → inputs_of7 ≡ inputs_laid n
  unfolding inputs_laid
  laid_7 e = rw e

  pub laid_other : (n ≡ 2 → ⊥) → (n ≡ 7 → ⊥) → all_inputs ≡ inputs_laid n
  unfolding inputs_laid
  laid_other a b = rw (ne_eqb n 2 a, ne_eqb n 7 b)

-- No place is past the longest.
pub inputs_bound : (n : ℕ) → length (inputs_laid n) ≤ 128
unfolding inputs_laid inputs_of2 inputs_of7 all_inputs input_entry interrupt_entry joined rising
inputs_bound n =
    whether (eqb n 2) (λ e. rw e (omega arith)) (λ e.
    rw e (whether (eqb n 7) (λ f. rw f (omega arith)) (λ f. rw f (omega arith))))

pub buses_bound : (n : ℕ) → length (buses_laid n) ≤ 16
unfolding buses_laid text PCI
buses_bound n =
    whether (ltb n 5)
    (λ e. rw (e, append-nil (first_bus n)) (omega (arith, first_eight n)))
    (λ e. rw e (omega (arith, length-append (first_bus n) (0x01 ∷ 0x01 ∷ PCI), first_eight n)))

chip_eight : (apic : ℕ) → length (io_apic_entry apic) ≡ 8
unfolding io_apic_entry bytes
chip_eight apic = refl

pub front_laid_lem :
    (n boot : ℕ) {out u v x y : List ℕ} {a b c d apic : ℕ} → apic ≡ apic_of n
    → Put out 0 (processor_entry apic boot 0) u a → Put u a (processor_entry apic boot 1) v b
    → Put v b (buses_laid n) x c → Put x c (io_apic_entry apic) y d
    → Put out 0 (front_laid n boot) y d × (d ≤ 64)
unfolding front_laid
front_laid_lem n boot {d = d} e p q r s =
    let apic = apic_of n in
    let first = processor_entry apic boot 0 in
    let second = processor_entry apic boot 1 in
    let chip = io_apic_entry apic in
    let all = then (first ++ second) (buses_laid n ++ chip) (then first second (rw e at p) (rw e at q)) (then (buses_laid n) chip r (rw e at s)) in
    let short : d ≤ 64 =
    omega (
      arith,
      all.place,
      length-append (first ++ second) (buses_laid n ++ chip),
      length-append first second,
      length-append (buses_laid n) chip,
      processor_twenty apic boot 0,
      processor_twenty apic boot 1,
      chip_eight apic,
      buses_bound n,
    ) in
    (all, short)

pub all_laid :
    (n boot : ℕ) {out u v x : List ℕ} {a b c : ℕ} → Put out 0 (front_laid n boot) u a
    → Put u a (inputs_laid n) v b → Put v b locals_laid x c → Put out 0 (laid n boot) x c
unfolding laid
all_laid n boot p q r = then (front_laid n boot) (inputs_laid n ++ locals_laid) p (then (inputs_laid n) locals_laid q r)
