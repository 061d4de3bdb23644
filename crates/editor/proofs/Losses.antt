-- Names that an exchange of one entry takes away: which interrupts and extended entries are wrong then that were not before.
-- Assumes nothing.
use Rattle.std.proofs.Common.{◌≡◌, ℕ, ◌+◌, Bool, true, false, not, ◌&&◌, ◌||◌, eqb, ltb, List, sym, refl, ap, ◌∙◌, eqb-true}
use mathlib.Core.Bool.{and-true, and-false, or-false}
use borrow.Author.Tests.{eqb-false, not-false}
use Rattle.mps.specs.Words.{among, any, each, keep, twice}
use Rattle.mps.specs.Layout.{Entry, of_type, everyone, interrupt_type_most, reserved_mode, interrupt_type, polarity, trigger, source_bus, destination}
use Rattle.mps.specs.Layout.{mapping_type, modifier_type, extended_bus, parent_bus, space_kind_most, space_kind, space_end, space_base, space_length, range_list_most, range_list}
use Rattle.mps.specs.Rules.{ids_of, is_listed, links, circle, wrong_interrupt, wrong_mapping, wrong_hierarchy, wrong_modifier, wrong_spaces}
use Rattle.laws.proofs.Tests.{whether, or_parts}
use Rattle.laws.proofs.Lists.{any_and, any_instead}
use Rattle.laws.proofs.Small.{any_or}
use Rattle.editor.specs.Amended.{has}

-- ---- One name

-- Of the names that there were, one may be gone, and no other.
abbrev pub Loses : (ℕ → Bool) → (ℕ → Bool) → Bool → ℕ → Type 0
Loses f g lost old = (y : ℕ) → f y ≡ true → not (g y) ≡ (lost && eqb y old)

pub loses_none : (f g : ℕ → Bool) (old : ℕ) → ((y : ℕ) → g y ≡ f y) → Loses f g false old
loses_none f g old same y t = rw (same y, t)

pub loses_one : (f g : ℕ → Bool) (old : ℕ) → ((y : ℕ) → f y ≡ true → (y ≡ old → ⊥) → g y ≡ true) → Loses f g (not (g old)) old
loses_one f g old kept y t =
    whether (eqb y old)
    (λ e. ap (λ (z : ℕ). not (g z)) (eqb-true y old e) ∙ rw e (sym (and-true (not (g old)))))
    (λ n. rw (n, kept y t (eqb-false y old n)) (sym (and-false (not (g old)))))

-- ---- Interrupts

-- Whether a destination may name an ID.
abbrev pub nameable : List Entry → ℕ → ℕ → Bool
nameable es n y = eqb y everyone || among y (ids_of n es)

module _ (es fs : List Entry) (old : ℕ) (bus : Bool) (b : Loses (is_listed es) (is_listed fs) bus old) where
  module _ (n : ℕ) (to : Bool) (d : Loses (nameable es n) (nameable fs n) to old) where
    one : (e : Entry) → wrong_interrupt es n e ≡ false → wrong_interrupt fs n e ≡ (bus && has 4 old e || to && has 6 old e)
    unfolding wrong_interrupt
    one e w =
        let own = ltb interrupt_type_most (interrupt_type e) || eqb (polarity e) reserved_mode || eqb (trigger e) reserved_mode in
        let from = is_listed es (source_bus e) in
        let at = nameable es n (destination e) in
        let last = or_parts (own || not from) (not at) w in
        let first = or_parts own (not from) last.0 in
        rw (
          first.0,
          b (source_bus e) (not-false from first.1),
          d (destination e) (not-false at last.1),
        )

    pub interrupts_lose :
        (is : List Entry) → any (wrong_interrupt es n) is ≡ false
        → any (wrong_interrupt fs n) is ≡ (bus && any (has 4 old) is || to && any (has 6 old) is)
    interrupts_lose is w =
        any_instead (wrong_interrupt es n) (wrong_interrupt fs n) (λ e. bus && has 4 old e || to && has 6 old e) one is w
        ∙ any_or (λ e. bus && has 4 old e) (λ e. to && has 6 old e) is
        ∙ rw (any_and bus (has 4 old) is, any_and to (has 6 old) is)

  -- ---- Extended entries

  mapping : (e : Entry) → wrong_mapping es e ≡ false → wrong_mapping fs e ≡ (bus && has 2 old e)
  unfolding wrong_mapping
  mapping e w =
      let on = is_listed es (extended_bus e) in
      let kind = ltb space_kind_most (space_kind e) in
      let past = ltb space_end (space_base e + space_length e) in
      let last = or_parts (not on || kind) past w in
      let first = or_parts (not on) kind last.0 in
      rw (first.1, last.1, b (extended_bus e) (not-false on first.0), or-false (bus && has 2 old e)) (or-false (bus && has 2 old e))

  link : (e : Entry) → wrong_hierarchy es e ≡ false → wrong_hierarchy fs e ≡ (bus && has 2 old e || bus && has 4 old e)
  unfolding wrong_hierarchy
  link e w =
      let on = is_listed es (extended_bus e) in
      let above = is_listed es (parent_bus e) in
      let parts = or_parts (not on) (not above) w in
      rw (b (extended_bus e) (not-false on parts.0), b (parent_bus e) (not-false above parts.1))

  modifier : (e : Entry) → wrong_modifier es e ≡ false → wrong_modifier fs e ≡ (bus && has 2 old e)
  unfolding wrong_modifier
  modifier e w =
      let on = is_listed es (extended_bus e) in
      let list = ltb range_list_most (range_list e) in
      let parts = or_parts (not on) list w in
      rw (parts.1, b (extended_bus e) (not-false on parts.0)) (or-false (bus && has 2 old e))

  factor : (x m l p o : Bool) → (x && m || (x && l || x && p) || x && o || false || false) ≡ (x && (m || l || p || o))
  factor true m l p o = factored m l p o
    where
      factored : (m l p o : Bool) → (m || (l || p) || o || false || false) ≡ (m || l || p || o)
      factored true l p o = refl
      factored false true p o = refl
      factored false false true o = refl
      factored false false false true = refl
      factored false false false false = refl
  factor false m l p o = refl

  -- Which of them speak of the one that is gone.
  pub spaces_lose :
      (xs : List Entry) → wrong_spaces es xs ≡ false
      → wrong_spaces fs xs
      ≡ (bus
      && (any (has 2 old) (keep (of_type mapping_type) xs)
      || any (has 2 old) (links xs)
      || any (has 4 old) (links xs)
      || any (has 2 old) (keep (of_type modifier_type) xs)))
  unfolding wrong_spaces
  spaces_lose xs w =
      let ms = keep (of_type mapping_type) xs in
      let ls = links xs in
      let os = keep (of_type modifier_type) xs in
      let m = any (wrong_mapping es) ms in
      let l = any (wrong_hierarchy es) ls in
      let o = any (wrong_modifier es) os in
      let t = twice (each extended_bus ls) in
      let four = or_parts (m || l || o || t) (circle ls) w in
      let three = or_parts (m || l || o) t four.0 in
      let two = or_parts (m || l) o three.0 in
      let first = or_parts m l two.0 in
      rw (
        four.1,
        three.1,
        any_instead (wrong_mapping es) (wrong_mapping fs) (λ e. bus && has 2 old e) mapping ms first.0,
        any_instead (wrong_hierarchy es) (wrong_hierarchy fs) (λ e. bus && has 2 old e || bus && has 4 old e) link ls first.1,
        any_instead (wrong_modifier es) (wrong_modifier fs) (λ e. bus && has 2 old e) modifier os two.1,
        any_or (λ e. bus && has 2 old e) (λ e. bus && has 4 old e) ls,
        any_and bus (has 2 old) ms,
        any_and bus (has 2 old) ls,
        any_and bus (has 4 old) ls,
        any_and bus (has 2 old) os,
      )
      (factor bus (any (has 2 old) ms) (any (has 2 old) ls) (any (has 4 old) ls) (any (has 2 old) os))
