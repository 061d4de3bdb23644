-- IDs looked for in entries, and the roll that an interrupt is judged by. Assumes nothing.
use Rattle.std.proofs.Common.{◌≡◌, ℕ, ◌<◌, Bool, true, false, ◌&&◌, ◌||◌, eqb, List, [], ◌∷◌, length, replicate, refl, ◌∙◌, eq-eqb}
use mathlib.Core.Bool.{and-true, and-false}
use lib.ListN.{length-replicate}
use Rattle.mps.specs.Words.{bit, among, any, each}
use Rattle.mps.specs.Layout.{Entry, id_of, everyone, source_bus, destination}
use Rattle.laws.proofs.Tests.{eqb_comm, whether}
use Rattle.roll.specs.Roll.{marked}
use Rattle.roll.proofs.Laws.{length_marks, marked_put, marked_none}
use Rattle.editor.specs.Amended.{has, enrolled_if, roll_for}

-- ---- Among the IDs

pub has_among : (id : ℕ) (es : List Entry) → any (has 1 id) es ≡ among id (each id_of es)
unfolding any among each
has_among id [] = refl
has_among id (e ∷ es) = rw (has_among id es, eqb_comm (id_of e) id)

-- ---- The roll of one interrupt

module _ (j marks : ℕ) (es : List Entry) (id : ℕ) (roll : List ℕ) (size : length roll ≡ 256) where
  length_if : length (enrolled_if marks es id roll) ≡ 256
  unfolding enrolled_if
  length_if = whether (any (has 1 id) es) (λ t. rw t (length_marks marks roll id ∙ size)) (λ f. rw f size)

  -- A bit of the marks at an ID: it shows at this one, where an entry has it.
  if_marked : (y : ℕ) → y < 256 → marked j (enrolled_if marks es id roll) y ≡ (any (has 1 id) es && (eqb y id && bit j marks) || marked j roll y)
  unfolding enrolled_if
  if_marked y h =
      whether (any (has 1 id) es) (λ t. rw t (marked_put j marks roll id y (rw size h))) (λ f. rw f)

-- At the bus and at the destination of an entry, over a roll with nothing on it: what 17 asks.
module _ (k marks : ℕ) (bs ts : List Entry) (e : Entry) where
  abbrev none : List ℕ
  none = replicate 256 0

  abbrev some : List ℕ
  some = enrolled_if 8 bs (source_bus e) none

  abbrev both : List ℕ
  both = enrolled_if marks ts (destination e) some

  sized : length none ≡ 256
  sized = length-replicate {A = ℕ} 256 0

  at : (j y : ℕ) → y < 256 → marked j (roll_for marks bs ts e none) y
      ≡ (eqb y everyone && bit j 5
      || (any (has 1 (destination e)) ts && (eqb y (destination e) && bit j marks)
      || (any (has 1 (source_bus e)) bs && (eqb y (source_bus e) && bit j 8) || false)))
  unfolding roll_for
  at j y h =
      let s = length_if j 8 bs (source_bus e) none sized in
      let b = length_if j marks ts (destination e) some s in
      marked_put j 5 both everyone y (rw b h)
      ∙ rw (if_marked j marks ts (destination e) some s y h, if_marked j 8 bs (source_bus e) none sized y h, marked_none j 256 y)

  pub call_bus : source_bus e < 256 → bit 3 marks ≡ false → marked 3 (roll_for marks bs ts e none) (source_bus e) ≡ among (source_bus e) (each id_of bs)
  unfolding bit
  call_bus h m =
      at 3 (source_bus e) h
      ∙ rw (m, and-false (eqb (source_bus e) everyone), and-false (eqb (source_bus e) (destination e)), and-false (any (has 1 (destination e)) ts), eq-eqb (source_bus e) (source_bus e) refl)
      (only (any (has 1 (source_bus e)) bs))
      ∙ has_among (source_bus e) bs
    where
      only : (b : Bool) → (b && true || false) ≡ b
      only true = refl
      only false = refl

  pub call_target :
      destination e < 256 → bit k 5 ≡ true → bit k 8 ≡ false → bit k marks ≡ true
      → marked k (roll_for marks bs ts e none) (destination e) ≡ (eqb (destination e) everyone || among (destination e) (each id_of ts))
  call_target h f g m =
      at k (destination e) h
      ∙ rw (f, g, m, and-true (eqb (destination e) everyone), and-false (eqb (destination e) (source_bus e)), and-false (any (has 1 (source_bus e)) bs), eq-eqb (destination e) (destination e) refl, ← has_among (destination e) ts)
      (only (eqb (destination e) everyone) (any (has 1 (destination e)) ts))
    where
      only : (a b : Bool) → (a || (b && true || false)) ≡ (a || b)
      only true b = refl
      only false true = refl
      only false false = refl
