-- From one entry of an accepted table to the next. Assumes nothing.
use Prim.Native.Nat.{ℕ, ◌+◌, ◌≤◌, ◌<◌}
use mathlib.Core.Path.{◌≡◌, refl, ap, sym, ◌∙◌}
use mathlib.Core.Bool.{Bool, true, false, cond, ◌&&◌}
use mathlib.Core.List.{List}
use native.Mathlib.Omega.{arith}
use native.Mathlib.Nat.{add-zero}
use lib.ListN.{length, get_or, drop, get_or-eq_default}
use lib.Seq.{get_or-drop}
use lib.Dec.{ltb, leb}
use borrow.Author.Tests.{ltb-true, ltb-false, ne_eqb}
use Rattle.mps.specs.Layout.{header_size, type, last_base_type, first_extended_type, least_length, base_length, extended_end, base_entry_length, extended_entry_length}
use Rattle.mps.specs.Reader.{read_base_end, read_extended_end, base_step, extended_step, size_at, next_place}
use Rattle.mps.specs.Judge.{table_refusal}
use Rattle.laws.proofs.Tests.{whether}
use Rattle.accepted.proofs.Sound.{sound}
use Rattle.reader.proofs.Laws.{size_base, size_extended, next_is, next_inside}

-- What is chosen and not 0 is the first.
chosen : (b : Bool) (n : ℕ) {r : ℕ} → r ≡ cond b n 0 → 0 < r → r ≡ n
chosen true n e h = e
chosen false n e h = absurd (omega (arith, e, h))

-- Where an entry stands, at a place inside.
module _
    (t : List ℕ) (place : ℕ) (a : table_refusal t ≡ 0) (high : header_size ≤ place) (below : place < extended_end t)
    (more : place < next_place t place) where
  abbrev here : List ℕ
  here = drop place t

  some : 0 < size_at t place
  unfolding next_place
  some = omega (arith, more)

  type_here : type here ≡ get_or t place 0
  type_here = get_or-drop place t 0 0 ∙ ap (λ (i : ℕ). get_or t i 0) (add-zero place)

  pub step_inside : next_place t place ≤ length t
  step_inside = next_inside t place (omega (arith, below, (sound t a).extended_inside))

  module _ {base : ℕ} (e : base ≡ base_length t) where
    module _ (h : place < base) where
      base_size_lem : size_at t place ≡ base_entry_length here
      unfolding base_step
      base_size_lem =
          let s = sound t a in
          let inside : place < read_base_end t = omega (arith, s.inside, e, h) in
          let w = sym (size_base t place s.long high refl inside refl) in
          chosen (leb (type here) last_base_type) (base_entry_length here) (chosen (leb (place + base_step here) (read_base_end t)) (base_step here) w some) some

      pub step_cpu : get_or t place 0 ≡ 0 → place + 20 ≡ next_place t place
      unfolding base_entry_length
      step_cpu k = next_is t place (sym (rw (type_here, k) at base_size_lem)) refl

      pub step_entry : (get_or t place 0 ≡ 0 → ⊥) → place + 8 ≡ next_place t place
      unfolding base_entry_length
      step_entry k = next_is t place (sym (rw (type_here, ne_eqb (get_or t place 0) 0 k) at base_size_lem)) refl

    pub step_extended : base ≤ place → place + get_or t (place + 1) 0 ≡ next_place t place
    unfolding extended_step
    step_extended h =
        let s = sound t a in
        let past : read_base_end t ≤ place = omega (arith, e, h) in
        let inside : place < read_extended_end t = omega (arith, s.extended_inside, below) in
        let w = sym (size_extended t place s.long high refl refl past inside refl refl) in
        let long = leb first_extended_type (type here) && leb least_length (extended_entry_length here) in
        let n = chosen long (extended_entry_length here) (chosen (leb (place + extended_step here) (read_extended_end t)) (extended_step here) w some) some in
        next_is t place (sym (get_or-drop place t 1 0) ∙ sym n) refl

    -- Its length byte stands in the buffer, since one past the end would be 0.
    pub step_length : base ≤ place → place + 1 < length t
    step_length h =
        whether (ltb (place + 1) (length t))
        (λ y. ltb-true (place + 1) (length t) y)
        (λ n.
        let none : get_or t (place + 1) 0 ≡ 0 = get_or-eq_default t 0 (ltb-false (place + 1) (length t) n) in
        absurd (omega (arith, step_extended h, none, more)))
