-- Laws of an answer in a lent room: what number the call gives, and what the room holds then. Assumes nothing.
use Prim.Native.Nat.{ℕ, zero, suc, ◌≤◌, ◌<◌}
use mathlib.Core.Path.{◌≡◌, refl, sym, ◌∙◌}
use mathlib.Core.Bool.{Bool, true, false}
use mathlib.Core.Logic.{◌↔◌}
use mathlib.Core.List.{List, [], ◌∷◌}
use native.Mathlib.Omega.{arith}
use Rattle.std.specs.Prelude.{Ok, Err}
use lib.ListN.{length}
use lib.Seq.{sets}
use lib.Dec.{eqb}
use borrow.Author.Tests.{lt-ltb, le-ltb, ne_eqb}
use Rattle.mps.specs.Words.{among, any, each, put, first}
use Rattle.mps.specs.Refusals.{Rule, ◌when◌, refusal, room_number}
use Rattle.mps.specs.Reasons.{refusal_numbered}
use Rattle.mps.specs.Answers.{number_of, lent_numbers, answered}
use Rattle.mps.specs.Rooms.{too_small, room_rules, lent_refusal, lent_left, room_refusal, fitted, fit_left}
use Rattle.mps.specs.declared.refusals.Refusal.TheVariants.{RoomTooSmall}
use Rattle.laws.proofs.Refusals.{number, so, first_some, first_none, refusal_append, refusal_pass}
use Rattle.laws.proofs.Refusals.{given_exactly, given_before}
use Rattle.laws.proofs.Answers.{given_ok}
use Rattle.laws.proofs.Stores.{sets_at_start}

-- ---- The number

module _ (rows : List Rule) (some : among 0 (each number rows) ≡ false) where
  lent_number : (small : Bool) → lent_refusal rows small ≡ first (refusal rows) (refusal (room_number when small ∷ []))
  unfolding lent_refusal room_rules
  lent_number small = refusal_append rows (room_number when small ∷ []) some

  -- What the rows refuse is refused whatever the room.
  pub lent_early : {n : ℕ} (small : Bool) → refusal rows ≡ n → (n ≡ 0 → ⊥) → lent_refusal rows small ≡ n
  lent_early {n} small e z = lent_number small ∙ rw e (first_some n _ z)

  -- Where they refuse nothing, the room alone decides.
  lent_late : (small : Bool) → refusal rows ≡ 0 → lent_refusal rows small ≡ lent_refusal [] small
  unfolding lent_refusal room_rules
  lent_late small e = lent_number small ∙ rw e

  pub lent_none : (small : Bool) → lent_refusal rows small ≡ 0 → (refusal rows ≡ 0) × (small ≡ false)
  lent_none small e =
      let h = first_none (refusal rows) _ (sym (lent_number small) ∙ e) in
      (h.0, (refusal_pass room_number small [] (omega arith) h.1).0)

-- 19, given exactly when the room is too small and no row before is so; any other number, exactly when the rows give it.
pub lent_19 : (rows : List Rule) (small : Bool) → among room_number (each number rows) ≡ false
    → (lent_refusal rows small ≡ room_number) ↔ ((any so rows ≡ false) × (small ≡ true))
unfolding lent_refusal room_rules among each
lent_19 rows small a = given_exactly rows room_number small [] (omega arith) a refl

pub lent_before : (rows : List Rule) (small : Bool) → among 0 (each number rows) ≡ false → (n : ℕ) → 0 < n → eqb n room_number ≡ false
    → (lent_refusal rows small ≡ n) ↔ (refusal rows ≡ n)
unfolding lent_refusal room_rules among each
lent_before rows small z n h k = given_before rows (room_number when small ∷ []) z n h (rw k)

-- ---- The answer, and what is left

-- A refusal leaves the room as it was, and an answer stands at its first byte.
pub left_kept : (n : ℕ) (answer room : List ℕ) → (n ≡ 0 → ⊥) → lent_left n answer room ≡ room
unfolding lent_left
left_kept n answer room z = rw (ne_eqb n 0 z)

pub left_put : (answer room : List ℕ) → lent_left 0 answer room ≡ put answer room
unfolding lent_left
left_put answer room = refl

-- What is refused leaves the room as it was,
pub lent_kept : (n count : ℕ) (answer room : List ℕ) → (number_of (lent_numbers (answered n count)) ≡ 0 → ⊥) → lent_left n answer room ≡ room
lent_kept zero count answer room z = absurd (z refl)
lent_kept (suc n) count answer room z = left_kept (suc n) answer room (λ e. absurd (omega (arith, e)))

-- and what is counted stands at its first byte.
pub lent_shown : (m count : ℕ) (answer room : List ℕ) {n : ℕ} → answered m count ≡ Ok n → (n ≡ count) × (lent_left m answer room ≡ put answer room)
lent_shown m count answer room e =
    let g = given_ok m count (sym e) in
    (g.1, rw g.0 (left_put answer room))

-- ---- An answer that nothing but its room can refuse

pub fits : (answer room : List ℕ) → length answer ≤ length room → room_refusal answer room ≡ 0
unfolding room_refusal lent_refusal room_rules refusal too_small
fits answer room h = rw (le-ltb (length room) (length answer) h)

module _ (answer : List ℕ) (count : ℕ) (room : List ℕ) where
  pub fit_put : {n : ℕ} {u : List ℕ} → n ≡ count → length answer ≤ length room → u ≡ sets room 0 answer
      → (Ok n ≡ fitted answer count room) × (u ≡ fit_left answer room)
  unfolding fitted fit_left
  fit_put e h k = let z = fits answer room h in (rw (z, e), rw (z, left_put answer room) (k ∙ sets_at_start room answer h))

  pub fit_short : length room < length answer → (Err RoomTooSmall ≡ fitted answer count room) × (room ≡ fit_left answer room)
  unfolding fitted fit_left room_refusal lent_refusal room_rules lent_left refusal too_small refusal_numbered
  fit_short h = let t = lt-ltb (length room) (length answer) h in (rw t, rw t)

-- Where a call's rows refuse nothing, its answer goes into the room as any does.
pub fit_late : (rows : List Rule) → among 0 (each number rows) ≡ false → (answer room : List ℕ) → refusal rows ≡ 0
    → lent_refusal rows (too_small (length answer) room) ≡ room_refusal answer room
unfolding room_refusal
fit_late rows some answer room e = lent_late rows some (too_small (length answer) room) e
