-- The shape of an edit: what 20 and 21 ask, and what 22 asks, as facts. Assumes nothing.
use Prim.Native.Nat.{ℕ, ◌<◌}
use mathlib.Core.Path.{◌≡◌, sym, ◌∙◌}
use mathlib.Core.Bool.{true, false, not, ◌||◌, true≢false}
use mathlib.Core.Logic.{◌↔◌}
use mathlib.Core.List.{List}
use lib.ListN.{length}
use lib.Dec.{ltb, eqb}
use borrow.Author.Tests.{eq-eqb, eqb-true, lt-ltb, ltb-true, not-false}
use Rattle.mps.specs.Words.{same}
use Rattle.mps.specs.Layout.{type, entry_count}
use Rattle.mps.specs.Edits.{Edit, standing, no_place, other_shape, changed}
use Rattle.laws.proofs.Tests.{whether, or_parts}
use Rattle.slices.proofs.Laws.{same_is, same_true}

-- "a place that exists and the right lengths and type"
pub record Shaped (t : List ℕ) (e : Edit) : Type 0 where
  pub place : e.place < entry_count t
  pub stated : length e.stated ≡ length (standing t e.place)
  pub wanted : length e.wanted ≡ length (standing t e.place)
  pub kind : type e.wanted ≡ type (standing t e.place)

module _ (t : List ℕ) (e : Edit) where
  -- "a place that exists and the right lengths and type": neither 20 nor 21.
  pub shape_passes : Shaped t e → (no_place t e ≡ false) × (other_shape t e ≡ false)
  unfolding no_place other_shape
  shape_passes h =
      let k = e.place in (
        rw (lt-ltb k (entry_count t) h.place),
        rw (
          eq-eqb (length e.stated) (length (standing t k)) h.stated,
          eq-eqb (length e.wanted) (length (standing t k)) h.wanted,
          eq-eqb (type e.wanted) (type (standing t k)) h.kind,
        ),
      )

  pub passes_shape : no_place t e ≡ false → other_shape t e ≡ false → Shaped t e
  unfolding no_place other_shape
  passes_shape p q =
      let k = e.place in
      let a = eqb (length e.stated) (length (standing t k)) in
      let b = eqb (length e.wanted) (length (standing t k)) in
      let c = eqb (type e.wanted) (type (standing t k)) in
      let l = or_parts (not a || not b) (not c) q in
      let r = or_parts (not a) (not b) l.0 in
      record {
        place = ltb-true k (entry_count t) (not-false (ltb k (entry_count t)) p);
        stated = eqb-true (length e.stated) (length (standing t k)) (not-false a r.0);
        wanted = eqb-true (length e.wanted) (length (standing t k)) (not-false b r.1);
        kind = eqb-true (type e.wanted) (type (standing t k)) (not-false c l.1);
      }

  pub other_bytes : (changed t e ≡ true) ↔ (e.stated ≡ standing t e.place → ⊥)
  unfolding changed
  other_bytes =
      let s = standing t e.place in (
        λ c p. true≢false (sym c ∙ rw (same_is e.stated s p)),
        λ n. whether (same e.stated s) (λ p. absurd (n (same_true e.stated s p))) (λ p. rw p),
      )

  -- The author saw what stands there: not 22.
  pub unchanged_seen : changed t e ≡ false → e.stated ≡ standing t e.place
  unfolding changed
  unchanged_seen c = same_true e.stated (standing t e.place) (not-false (same e.stated (standing t e.place)) c)

  pub seen_unchanged : e.stated ≡ standing t e.place → changed t e ≡ false
  unfolding changed
  seen_unchanged p = rw (same_is e.stated (standing t e.place) p)
