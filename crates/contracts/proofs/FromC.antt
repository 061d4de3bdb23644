-- Demand 1 as C sees it: a call whose code has a number in its low byte has written nothing into what it was lent. (What the
-- writer leaves is in Rooms.) Assumes nothing.
use Rattle.std.specs.Prelude.{Result}
use Prim.Native.Nat.{ℕ}
use mathlib.Core.Path.{◌≡◌, ap}
use mathlib.Core.List.{List}
use Rattle.packs.specs.Packs.{packed}
use Rattle.mps.specs.Answers.{lent_numbers, renumbered_numbers, booked_numbers}
use Rattle.mps.specs.Listing.{listed, list_left}
use Rattle.mps.specs.Routes.{Question, routed, routes_left}
use Rattle.mps.specs.Defaults.{made, make_left, full_listed, full_left}
use Rattle.mps.specs.Slots.{Slot, slot_routed, slot_routes_left, slots_listed, slots_left}
use Rattle.mps.specs.Renumber.{renumbered, renumber_left}
use Rattle.mps.specs.Edits.{Edit, edited, edit_left}
use Rattle.mps.specs.Book.{BookLayout}
use Rattle.mps.specs.History.{history_told, history_left}
use Rattle.mps.specs.Saving.{Ask, added, add_left}
use Rattle.mps.specs.declared.refusals.EditRefusal.{EditRefusal}
use Rattle.exports.specs.Codes.{count_row, pair_row, refusal_in, lent_code, renumbered_code, edited_code, booked_code}
use Rattle.exports.proofs.Told.{refused_in}
use Rattle.promises.proofs.Kept.{list_kept, routes_kept, slot_kept, slots_kept, renumber_kept}
use Rattle.promises.proofs.Defaults.{make_kept}
use Rattle.promises.proofs.FullLists.{full_kept}
use Rattle.promises.proofs.BookNumbers.{history_kept, add_kept}
use Rattle.promises.proofs.Edits.{refused_unchanged}

pub list_kept_c : (d room : List ℕ) → (refusal_in (lent_code (listed d room)) ≡ 0 → ⊥) → list_left d room ≡ room
unfolding lent_code
list_kept_c d room h = list_kept d room (refused_in count_row (lent_numbers (listed d room)) h)

pub full_kept_c : (d : List ℕ) (boot : ℕ) (room : List ℕ) → (refusal_in (lent_code (full_listed d boot room)) ≡ 0 → ⊥) → full_left d boot room ≡ room
unfolding lent_code
full_kept_c d boot room h = full_kept d boot room (refused_in count_row (lent_numbers (full_listed d boot room)) h)

pub make_kept_c : (n boot : ℕ) (room : List ℕ) → (refusal_in (lent_code (made n boot room)) ≡ 0 → ⊥) → make_left n boot room ≡ room
unfolding lent_code
make_kept_c n boot room h = make_kept n boot room (refused_in count_row (lent_numbers (made n boot room)) h)

pub routes_kept_c : (q : Question) (t room : List ℕ) → (refusal_in (lent_code (routed q t room)) ≡ 0 → ⊥) → routes_left q t room ≡ room
unfolding lent_code
routes_kept_c q t room h = routes_kept q t room (refused_in count_row (lent_numbers (routed q t room)) h)

pub slot_kept_c : (s : Slot) (t room : List ℕ) → (refusal_in (lent_code (slot_routed s t room)) ≡ 0 → ⊥) → slot_routes_left s t room ≡ room
unfolding lent_code
slot_kept_c s t room h = slot_kept s t room (refused_in count_row (lent_numbers (slot_routed s t room)) h)

pub slots_kept_c : (t room : List ℕ) → (refusal_in (lent_code (slots_listed t room)) ≡ 0 → ⊥) → slots_left t room ≡ room
unfolding lent_code
slots_kept_c t room h = slots_kept t room (refused_in count_row (lent_numbers (slots_listed t room)) h)

pub renumber_kept_c : (t room : List ℕ) → (refusal_in (renumbered_code (renumbered t room)) ≡ 0 → ⊥) → renumber_left t room ≡ room
unfolding renumbered_code
renumber_kept_c t room h = renumber_kept t room (refused_in pair_row (renumbered_numbers (renumbered t room)) h)

pub edit_kept_c : (t : List ℕ) (e : Edit) → (refusal_in (edited_code (edited t e)) ≡ 0 → ⊥) → edit_left t e ≡ t
unfolding edited_code packed
edit_kept_c t e h = refused_unchanged t e (λ d. h (ap (λ (r : Result (Unit {0}) EditRefusal). refusal_in (edited_code r)) d))

pub history_kept_c : (l : BookLayout) (s room : List ℕ) → (refusal_in (lent_code (history_told l s room)) ≡ 0 → ⊥) → history_left l s room ≡ room
unfolding lent_code
history_kept_c l s room h = history_kept l s room (refused_in count_row (lent_numbers (history_told l s room)) h)

-- A save and a restore.
pub add_kept_c : (l : BookLayout) (s : List ℕ) (ask : Ask) → (refusal_in (booked_code (added l s ask)) ≡ 0 → ⊥) → add_left l s ask ≡ s
unfolding booked_code
add_kept_c l s ask h = add_kept l s ask (refused_in pair_row (booked_numbers (added l s ask)) h)
