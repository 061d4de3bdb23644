-- What is computed of all fourteen holds of each, and what the code lays is what Intel's tables say. Assumes nothing.
use Prim.Native.Nat.{ℕ, suc, ◌≤◌, ◌<◌}
use mathlib.Core.Path.{◌≡◌, refl}
use mathlib.Core.Bool.{true}
use mathlib.Core.List.{List}
use native.Mathlib.Omega.{arith}
use lib.ListN.{length}
use lib.Dec.{leb}
use borrow.Author.Tests.{leb-true}
use Rattle.mps.specs.Words.{text, keep, each, joined, rising, below}
use Rattle.mps.specs.Numbers.{bytes}
use Rattle.mps.specs.Layout.{Entry, default_most, boot_most}
use Rattle.mps.specs.Judge.{table_refusal}
use Rattle.mps.specs.Defaults.{ISA, EISA, MCA, PCI, configuration, table5_1, table5_2, table5_3, cell, processor_entry, bus_entries, io_apic_entry, interrupt_entry, wired, inputs, default_entries}
use Rattle.mps.specs.Defaults.{default_parts, default_table}
use Rattle.laws.proofs.Rising.{each_rising}
use Rattle.board.proofs.Defaults.{of_each, defaults_accepted, defaults_most}
use Rattle.defaults.specs.Laid.{apic_of, first_bus, buses_laid, input_entry, all_inputs, inputs_of2, inputs_of7, inputs_laid, locals_laid, front_laid, laid}

-- ---- One of the fourteen

-- A configuration and a boot processor that there are.
pub record There (n boot : ℕ) : Type 0 where
  pub some : 0 < n
  pub most : n ≤ default_most
  pub boots : boot ≤ boot_most

-- What is computed of all fourteen holds of each.
pub of_each_lem : {A : Type 0} (f g : ℕ → ℕ → A) {n boot : ℕ} → of_each f ≡ of_each g → There n boot → f n boot ≡ g n boot
of_each_lem f g {n} {boot} e h =
    each_rising (f n) (g n) (suc boot_most) 0 boot
    (each_rising (λ (k : ℕ). each (f k) (below (suc boot_most))) (λ (k : ℕ). each (g k) (below (suc boot_most))) default_most 1 n e (omega (arith, h.some)) (omega (arith, h.most)))
    (omega arith) (omega (arith, h.boots))

pub there_accepted : {n boot : ℕ} → There n boot → table_refusal (default_table n boot) ≡ 0
there_accepted = of_each_lem (λ (k b : ℕ). table_refusal (default_table k b)) (λ (k b : ℕ). 0) defaults_accepted

pub there_most : {n boot : ℕ} → There n boot → length (default_table n boot) ≤ 252
there_most h = leb-true _ 252 (of_each_lem (λ (k b : ℕ). leb (length (default_table k b)) 252) (λ (k b : ℕ). true) defaults_most h)

-- ---- What is laid

entries_of : ℕ → ℕ → List ℕ
entries_of n boot = joined (λ (e : Entry). e) (default_entries n boot)

each_laid : of_each laid ≡ of_each entries_of
unfolding each entries_of laid front_laid apic_of first_bus buses_laid input_entry all_inputs inputs_of2 inputs_of7 inputs_laid locals_laid joined rising bytes text ISA EISA MCA PCI keep default_entries configuration table5_1 table5_2 table5_3 cell processor_entry bus_entries io_apic_entry interrupt_entry wired inputs
each_laid = refl

-- The base entries as the code lays them are those of Intel's tables.
pub laid_is : {n boot : ℕ} → There n boot → laid n boot ≡ (default_parts n boot).base
unfolding entries_of default_parts
laid_is = of_each_lem laid entries_of each_laid
