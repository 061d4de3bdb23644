-- Demand 1, "A refusal writes nothing into lent memory, with one exception: a newly assembled table that fails its rules
-- leaves its own stretch zero.": what each call that is lent a room or a table leaves of it, refused and answered. Assumes
-- nothing.
use Prim.Native.Nat.{ℕ}
use mathlib.Core.Path.{◌≡◌, sym, ◌∙◌}
use mathlib.Core.List.{List, ◌++◌}
use lib.ListN.{length, drop, replicate, length-replicate}
use lib.Dec.{eqb}
use borrow.Author.Tests.{ne_eqb, eqb-true, eqb-false}
use Rattle.mps.specs.Words.{put}
use Rattle.mps.specs.Answers.{number_of, lent_numbers, renumbered_numbers}
use Rattle.mps.specs.Rooms.{room_refusal, fitted, fit_left}
use Rattle.mps.specs.Judge.{table_refusal}
use Rattle.mps.specs.Listing.{listing, list_refusal, listed, list_left, program_output, printed, print_left}
use Rattle.mps.specs.Writing.{Parts, image, image_size, early_refusal, write_refusal, written, finished, write_left}
use Rattle.mps.specs.Routes.{Question, routes_of, route_refusal, routed, routes_left}
use Rattle.mps.specs.Slots.{Slot, slot_routes_of, slot_refusal, slot_routed, slot_routes_left, slots_of, slots_refusal, slots_listed, slots_left}
use Rattle.mps.specs.Renumber.{new_numbers_of, renumber_refusal, renumbered, renumber_left}
use Rattle.std.specs.Prelude.{Ok}
use Rattle.laws.proofs.Tests.{whether}
use Rattle.laws.proofs.Refusals.{first_none}
use Rattle.laws.proofs.Lent.{left_kept, left_put, lent_kept, lent_shown}
use Rattle.laws.proofs.Answers.{given_ok}
use Rattle.promises.proofs.Numbered.{write_number, write_judged, renumber_number}

-- ---- "A refusal writes nothing into lent memory"

module _ (d room : List ℕ) where
  pub list_kept : (number_of (lent_numbers (listed d room)) ≡ 0 → ⊥) → list_left d room ≡ room
  unfolding listed list_left
  list_kept = lent_kept (list_refusal d room) _ (listing d) room

  pub print_kept : (number_of (lent_numbers (printed d room)) ≡ 0 → ⊥) → print_left d room ≡ room
  unfolding printed print_left fitted fit_left
  print_kept = lent_kept (room_refusal (program_output d) room) _ (program_output d) room

pub routes_kept : (q : Question) (t room : List ℕ) → (number_of (lent_numbers (routed q t room)) ≡ 0 → ⊥) → routes_left q t room ≡ room
unfolding routed routes_left
routes_kept q t room = lent_kept (route_refusal q t room) _ (routes_of q t) room

pub slot_kept : (s : Slot) (t room : List ℕ) → (number_of (lent_numbers (slot_routed s t room)) ≡ 0 → ⊥) → slot_routes_left s t room ≡ room
unfolding slot_routed slot_routes_left
slot_kept s t room = lent_kept (slot_refusal s t room) _ (slot_routes_of s t) room

pub slots_kept : (t room : List ℕ) → (number_of (lent_numbers (slots_listed t room)) ≡ 0 → ⊥) → slots_left t room ≡ room
unfolding slots_listed slots_left
slots_kept t room = lent_kept (slots_refusal t room) _ (slots_of t) room

pub renumber_kept : (t room : List ℕ) → (number_of (renumbered_numbers (renumbered t room)) ≡ 0 → ⊥) → renumber_left t room ≡ room
unfolding renumber_left
renumber_kept t room z = left_kept (renumber_refusal t room) (new_numbers_of t) room (λ e. z (renumber_number t room ∙ e))

-- Of an edit that is Edits' refused-unchanged: whatever is answered but Done.

module _ (p : Parts) (room : List ℕ) where
  -- The writer: "It refuses 7 .., 13 .., then 19, all unwritten"
  pub write_kept : (early_refusal p room ≡ 0 → ⊥) → write_left p room ≡ room
  unfolding write_left
  write_kept = left_kept (early_refusal p room) (finished p) room

  -- ".. with one exception: a newly assembled table that fails its rules leaves its own stretch zero."
  pub write_cleared : early_refusal p room ≡ 0 → (table_refusal (image p) ≡ 0 → ⊥)
      → write_left p room ≡ replicate (image_size p) 0 ++ drop (image_size p) room
  unfolding write_left finished
  write_cleared e h =
      rw (e, ne_eqb (table_refusal (image p)) 0 h, left_put (replicate (image_size p) 0) room, length-replicate {A = ℕ} (image_size p) 0)

  -- By the answer: refused, the room is as it was, or the stretch of a judged image is zero and the rest as it was.
  pub write_leaves : {C : Type 0} → (number_of (lent_numbers (written p room)) ≡ 0 → ⊥)
      → (write_left p room ≡ room → C) → (write_left p room ≡ replicate (image_size p) 0 ++ drop (image_size p) room → C) → C
  write_leaves z kept cleared =
      whether (eqb (early_refusal p room) 0)
      (λ e.
      let none = eqb-true (early_refusal p room) 0 e in
      cleared (write_cleared none (λ j. z (write_number p room ∙ write_judged p room none ∙ j))))
      (λ e. kept (write_kept (eqb-false (early_refusal p room) 0 e)))

-- ---- "Answers and images start at their room's first byte; what lies past them stays."

module _ (d room : List ℕ) {n : ℕ} where
  pub list_shown : listed d room ≡ Ok n → (n ≡ length (listing d)) × (list_left d room ≡ put (listing d) room)
  unfolding listed list_left
  list_shown = lent_shown (list_refusal d room) _ (listing d) room

  pub print_shown : printed d room ≡ Ok n → (n ≡ length (program_output d)) × (print_left d room ≡ put (program_output d) room)
  unfolding printed print_left fitted fit_left
  print_shown = lent_shown (room_refusal (program_output d) room) _ (program_output d) room

pub write_shown : (p : Parts) (room : List ℕ) {n : ℕ} → written p room ≡ Ok n → (n ≡ image_size p) × (write_left p room ≡ put (image p) room)
unfolding written write_refusal write_left finished
write_shown p room e =
    let g = given_ok (write_refusal p room) (image_size p) (sym e) in
    let z = first_none (early_refusal p room) (table_refusal (image p)) g.0 in
    (g.1, rw (z.0, z.1, left_put (image p) room))
