-- What the calls answer, and what they leave. Assumes nothing.
use Prim.Native.Nat.{ℕ, ◌+◌, ◌≤◌, ◌<◌}
use mathlib.Core.Path.{◌≡◌, refl, sym, ap, ◌∙◌}
use mathlib.Core.Bool.{Bool}
use mathlib.Core.List.{List, [], ◌++◌}
use native.Mathlib.Omega.{arith}
use lib.ListN.{length, drop, replicate, length-append, length-replicate}
use lib.Dec.{eqb}
use lib.Seq.{sets, drop_at}
use borrow.Author.Tests.{lt-ltb, le-ltb, ne_eqb}
use Rattle.std.specs.Prelude.{Result, Ok, Err}
use Rattle.mps.specs.Refusals.{refusal}
use Rattle.mps.specs.Layout.{part_most, base_length, extended_length}
use Rattle.mps.specs.Judge.{table_refusal, judged}
use Rattle.mps.specs.Rooms.{too_small, room_rules, lent_refusal}
use Rattle.mps.specs.Writing.{Parts, base_size, image, image_size, part_rules, early_refusal, write_refusal, written, finished, write_left, parted}
use Rattle.mps.specs.Reasons.{refusal_numbered}
use Rattle.mps.specs.Answers.{answered}
use Rattle.mps.specs.declared.refusals.Refusal.{Refusal}
use Rattle.mps.specs.declared.refusals.Refusal.TheVariants.{BaseLength, ExtendedPart, RoomTooSmall}
use Rattle.laws.proofs.Answers.{answered_err, given_ok, given_err}
use Rattle.laws.proofs.Tests.{whether}
use Rattle.laws.proofs.Refusals.{first_some}
use Rattle.laws.proofs.Stores.{sets_at_start}
use Rattle.laws.proofs.Lent.{left_kept, left_put}
use Rattle.writer.proofs.Laws.{length_image}

-- ---- The writer

-- Whether the image stays or becomes 0, it has its size.
pub length_finished : (p : Parts) → length (finished p) ≡ image_size p
unfolding finished
length_finished p =
    whether (eqb (table_refusal (image p)) 0)
    (λ z. rw z (length_image p))
    (λ z. rw z (length-replicate {A = ℕ} (image_size p) 0))

module _ (p : Parts) (room : List ℕ) where
  -- What is refused before anything is written.
  early :
      {n : ℕ} {r : Refusal} → early_refusal p room ≡ n → (n ≡ 0 → ⊥) → r ≡ refusal_numbered n → (Err r ≡ written p room) × (room ≡ write_left p room)
  unfolding written write_left write_refusal
  early {n} e z q = (rw (e, first_some n (table_refusal (image p)) z) (answered_err n _ z q), rw e (sym (left_kept n _ room z)))

  pub write_base : part_most < base_size p → (Err BaseLength ≡ written p room) × (room ≡ write_left p room)
  unfolding early_refusal part_rules lent_refusal room_rules refusal refusal_numbered
  write_base h = early {n = 7} (rw (lt-ltb part_most (base_size p) h)) (λ z. omega (arith, z)) refl

  module _ (b : base_size p ≤ part_most) where
    pub write_extended : part_most < length p.extended → (Err ExtendedPart ≡ written p room) × (room ≡ write_left p room)
    unfolding early_refusal part_rules lent_refusal room_rules refusal refusal_numbered
    write_extended h =
        early {n = 13} (rw (le-ltb part_most (base_size p) b, lt-ltb part_most (length p.extended) h)) (λ z. omega (arith, z)) refl

    module _ (x : length p.extended ≤ part_most) where
      -- What its room decides.
      by_room : {small : Bool} → too_small (image_size p) room ≡ small → early_refusal p room ≡ lent_refusal [] small
      unfolding early_refusal part_rules lent_refusal room_rules refusal
      by_room e = rw (le-ltb part_most (base_size p) b, le-ltb part_most (length p.extended) x, e)

      pub write_room : length room < image_size p → (Err RoomTooSmall ≡ written p room) × (room ≡ write_left p room)
      unfolding lent_refusal room_rules refusal too_small refusal_numbered
      write_room h = early {n = 19} (by_room (lt-ltb (length room) (image_size p) h)) (λ z. omega (arith, z)) refl

      pub write_none : image_size p ≤ length room → early_refusal p room ≡ 0
      unfolding lent_refusal room_rules refusal too_small
      write_none h = by_room (le-ltb (length room) (image_size p) h)

      -- What is written, and judged there: it stays, or becomes 0.
      module _ (h : image_size p ≤ length room) {a : Result (Unit {0}) Refusal} {v : List ℕ} (j : a ≡ answered (table_refusal (image p)) tt)
          (w : v ≡ image p) where
        none : early_refusal p room ≡ 0
        none = write_none h

        left : write_left p room ≡ finished p ++ drop (image_size p) room
        unfolding write_left
        left = rw (none, left_put (finished p) room, length_finished p)

        pub write_done : {u : Unit {0}} → a ≡ Ok u → (Ok (image_size p) ≡ written p room) × (v ++ drop (image_size p) room ≡ write_left p room)
        unfolding written write_refusal finished
        write_done i =
            let z = (given_ok (table_refusal (image p)) tt (sym i ∙ j)).0 in
            (rw (none, z), rw left (rw (w, z)))

        zeroed : sets (v ++ drop (image_size p) room) 0 (replicate (image_size p) 0) ≡ replicate (image_size p) 0 ++ drop (image_size p) room
        zeroed =
            let m = image_size p in
            let l : length v ≡ m = ap length w ∙ length_image p in
            let z = length-replicate {A = ℕ} m 0 in
            let a = length-append v (drop m room) in
            rw (sets_at_start (v ++ drop m room) (replicate m 0) (rw z (omega arith)), z, drop_at v (drop m room) m l)

        pub write_refused :
            {r : Refusal} → a ≡ Err r → {y : List ℕ} → y ≡ sets (v ++ drop (image_size p) room) 0 (replicate (image_size p) 0)
            → (Err r ≡ written p room) × (y ≡ write_left p room)
        unfolding written write_refusal finished
        write_refused i y =
            let n = table_refusal (image p) in
            let g = given_err n tt (sym i ∙ j) in
            (rw none (answered_err n _ g.0 g.1), y ∙ zeroed ∙ rw left (rw (ne_eqb n 0 g.0)))

-- ---- The parts of a table

module _ (t : List ℕ) {a : Result (Unit {0}) Refusal} (e : a ≡ judged t) where
  pub parted_refused : {r : Refusal} → a ≡ Err r → Err r ≡ parted t
  unfolding parted judged
  parted_refused i = let g = given_err (table_refusal t) tt (sym i ∙ e) in answered_err (table_refusal t) _ g.0 g.1

  pub parted_accepted :
      {u : Unit {0}} {base extended : ℕ} → a ≡ Ok u → base ≡ base_length t → extended ≡ extended_length t
      → Ok (record { base = base; end = base + extended }) ≡ parted t
  unfolding parted judged
  parted_accepted i b x = rw ((given_ok (table_refusal t) tt (sym i ∙ e)).0, b, x)
