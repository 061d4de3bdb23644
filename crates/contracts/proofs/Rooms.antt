-- What `ruxtajma_write` leaves of its room, by its own postcondition. Assumes nothing.
use Prim.Native.Nat.{ℕ}
use mathlib.Core.Path.{◌≡◌, ap, ◌∙◌}
use mathlib.Core.List.{List, ◌++◌}
use lib.ListN.{drop, replicate}
use Rattle.mps.specs.Judge.{table_refusal}
use Rattle.mps.specs.Writing.{Parts, image, image_size, early_refusal, written}
use Rattle.writer.specs.Laid.{parts_given}
use Rattle.mps.specs.Answers.{lent_numbers}
use Rattle.exports.specs.Codes.{count_row, lent_code, refusal_in, fields_given}
use Rattle.exports.proofs.Told.{refused_in}
use Rattle.exports.proofs.ruxtajma_write.Reads as ruxtajma_write
use Rattle.promises.proofs.Kept.{write_kept, write_cleared, write_leaves}
use Rattle.contracts.proofs.Forms.{Call}

module _ (c : Call ruxtajma_write.Post) where
  -- The parts, from the arguments in their order; the room as it was lent, and as it was left.
  abbrev pub parts_for_c : Parts
  parts_for_c =
      let a = c.given in
      let b = a.1.1.1.1.1.1 in
      parts_given (fields_given a.0.now a.1.0.now a.1.1.0 a.1.1.1.0 a.1.1.1.1.0 a.1.1.1.1.1.0) b.0.now b.1.0.now

  abbrev pub room_for_c : List ℕ
  room_for_c = c.given.1.1.1.1.1.1.1.1.0.now

  abbrev pub left_for_c : List ℕ
  left_for_c = c.ends.1.1.1.1.1.1.1.1.0.now

  -- "A refusal writes nothing into lent memory, ..
  pub c_write_kept : (early_refusal parts_for_c room_for_c ≡ 0 → ⊥) → left_for_c ≡ room_for_c
  c_write_kept h = c.allowed.1 ∙ write_kept parts_for_c room_for_c h

  -- .. with one exception: a newly assembled table that fails its rules leaves its own stretch zero."
  pub c_write_cleared : early_refusal parts_for_c room_for_c ≡ 0 → (table_refusal (image parts_for_c) ≡ 0 → ⊥)
      → left_for_c ≡ replicate (image_size parts_for_c) 0 ++ drop (image_size parts_for_c) room_for_c
  c_write_cleared e h = c.allowed.1 ∙ write_cleared parts_for_c room_for_c e h

  -- As C sees it: a code with a number in its low byte is one of the two.
  pub c_write_leaves : {C : Type 0} → (refusal_in c.answer ≡ 0 → ⊥) → (left_for_c ≡ room_for_c → C)
      → (left_for_c ≡ replicate (image_size parts_for_c) 0 ++ drop (image_size parts_for_c) room_for_c → C) → C
  unfolding lent_code
  c_write_leaves h kept cleared =
      let z = refused_in count_row (lent_numbers (written parts_for_c room_for_c)) (λ e. h (ap refusal_in c.allowed.0 ∙ e)) in
      write_leaves parts_for_c room_for_c z (λ e. kept (c.allowed.1 ∙ e)) (λ e. cleared (c.allowed.1 ∙ e))
