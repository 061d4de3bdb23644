-- How long a table is that is written: what passes 7, 13 and 19. Assumes nothing.
use Prim.Native.Nat.{ℕ, ◌≤◌}
use mathlib.Core.Path.{◌≡◌, refl}
use mathlib.Core.List.{List}
use native.Mathlib.Omega.{arith}
use lib.ListN.{length}
use lib.Dec.{ltb}
use borrow.Author.Tests.{ltb-false}
use Rattle.mps.specs.Words.{among, each}
use Rattle.mps.specs.Refusals.{base_number, extended_number}
use Rattle.mps.specs.Rooms.{too_small}
use Rattle.mps.specs.Layout.{part_most}
use Rattle.mps.specs.Judge.{table_refusal}
use Rattle.mps.specs.Writing.{Parts, base_size, image, image_size, part_rules, early_refusal, write_refusal}
use Rattle.laws.proofs.Refusals.{first_none, refusal_pass}
use Rattle.laws.proofs.Lent.{lent_none}

-- What is not refused before the image is judged.
pub record Fits (p : Parts) (room : List ℕ) : Type 0 where
  pub base : base_size p ≤ part_most
  pub extended : length p.extended ≤ part_most
  pub whole : image_size p ≤ length room

module _ (p : Parts) (room : List ℕ) where
  pub early_fits : early_refusal p room ≡ 0 → Fits p room
  unfolding early_refusal part_rules among each too_small
  early_fits e =
      let n = lent_none (part_rules p) refl (too_small (image_size p) room) e in
      let b = refusal_pass base_number (ltb part_most (base_size p)) _ (omega arith) n.0 in
      let x = refusal_pass extended_number (ltb part_most (length p.extended)) _ (omega arith) b.1 in
      record { base = ltb-false _ _ b.0; extended = ltb-false _ _ x.0; whole = ltb-false _ _ n.1 }

  -- Two parts of at most 4,096 bytes.
  pub written_most : write_refusal p room ≡ 0 → image_size p ≤ 8192
  unfolding write_refusal
  written_most e =
      let f = early_fits (first_none (early_refusal p room) (table_refusal (image p)) e).0 in
      omega (arith, f.base, f.extended)
