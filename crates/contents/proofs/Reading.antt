-- Laws for `sound`: what it refuses breaks a rule, and what it accepts keeps them all. Assumes nothing.
use Prim.Native.Nat.{ℕ, ◌≤◌, ◌<◌}
use mathlib.Core.Path.{◌≡◌, sym, ◌∙◌}
use mathlib.Core.Bool.{Bool, true, false, not, true≢false, ◌||◌, ◌&&◌}
use mathlib.Core.List.{List}
use native.Mathlib.Omega.{arith}
use lib.ListN.{length}
use lib.Dec.{eqb, leb}
use borrow.Author.Tests.{eqb-true, eq-eqb, ne_eqb, not-true, leb-true, leb-false, le-leb, lt-leb}
use Rattle.std.specs.Prelude.{Some}
use Rattle.std.specs.Option.{option_eq}
use Rattle.regions.specs.Walk.{listed}
use Rattle.mps.specs.Words.{every}
use Rattle.mps.specs.Layout.{dump_most, regions_most, region_count}
use Rattle.mps.specs.Dump.{regions, contents_end, sound_region, kind_twice, overlap, sound_dump}
use Rattle.laws.proofs.Tests.{whether, and_parts, or_parts}
use Rattle.contents.specs.Steps.{last_end, fitted}
use Rattle.contents.proofs.Pairs.{rules, fitted_is}
use Rattle.contents.proofs.Rules.{Sound, sound_parts, sound_whole}

-- A dump that breaks a rule.
pub sound_not : (d : List ℕ) → (Sound d → ⊥) → false ≡ sound_dump d
sound_not d f = whether (sound_dump d) (λ t. absurd (f (sound_parts d t))) sym

-- What the walk along the rows is compared with: the last body ends where the dump does.
abbrev ended : List ℕ → Bool
ended d = option_eq eqb (fitted (contents_end d) (listed d)) (Some (length d))

-- Where not all rows are there, the contents end behind the dump.
ended_short : (d : List ℕ) → length d < contents_end d → ended d ≡ false
unfolding listed fitted
ended_short d h = rw (lt-leb (contents_end d) (length d) h) (ne_eqb (contents_end d) (length d) (λ e. omega arith))

ended_whole : (d : List ℕ) → contents_end d ≤ length d → ended d ≡ (rules (regions d) && eqb (last_end d) (length d))
unfolding listed
ended_whole d h =
    rw (le-leb (contents_end d) (length d) h, fitted_is (contents_end d) (regions d))
    (whether (rules (regions d)) (λ t. rw t) (λ f. rw f))

module _ (d : List ℕ) (some : 1 ≤ length d) (most : length d ≤ dump_most) (few : region_count d ≤ regions_most) where
  sound_kept : rules (regions d) ≡ true → last_end d ≡ length d → sound_dump d ≡ true
  sound_kept t e =
      let h = and_parts (every sound_region (regions d)) (not (overlap (regions d) || kind_twice (regions d))) t in
      let apart = or_parts (overlap (regions d)) (kind_twice (regions d)) (not-true _ h.1) in
      sound_whole d (record {
        some = some;
        most = most;
        count = few;
        ends = e;
        each_sound = h.0;
        once = apart.1;
        apart = apart.0;
      })

  pub sound_is_end : ended d ≡ sound_dump d
  sound_is_end =
      whether (leb (contents_end d) (length d))
      (λ w.
      rw (ended_whole d (leb-true (contents_end d) (length d) w))
      (whether (rules (regions d))
      (λ t.
      whether (eqb (last_end d) (length d))
      (λ e. rw (t, e) (sym (sound_kept t (eqb-true (last_end d) (length d) e))))
      (λ e. rw (t, e) (sound_not d (λ s. true≢false (sym (eq-eqb (last_end d) (length d) s.ends) ∙ e)))))
      (λ f. rw f (sound_not d (λ s. true≢false (rw (s.each_sound, s.apart, s.once) at f))))))
      (λ w.
      let short = leb-false (contents_end d) (length d) w in
      rw (ended_short d short) (sound_not d (λ s. omega (arith, short, s.ends))))
