-- Laws of kinds: "kinds 1 to 3 occur at most once". Assumes nothing.
use Prim.Native.Nat.{ℕ}
use mathlib.Core.Path.{◌≡◌, refl, ap, sym, ◌∙◌}
use mathlib.Core.Bool.{true, false, true≢false, ◌||◌, ◌&&◌}
use mathlib.Core.List.{List, [], ◌∷◌}
use borrow.Author.Tests.{eqb-true, ne_eqb}
use Rattle.mps.specs.Words.{among, twice, within, only, keep, any, each}
use Rattle.mps.specs.Dump.{of_kind, kind_of, once_only, kind_twice}
use Rattle.mps.specs.declared.Region.{Region}
use Rattle.laws.proofs.Tests.{eqb_comm, whether, or_parts}
use Rattle.laws.proofs.Lists.{keep_in, keep_out}
use Rattle.regions.specs.Regions.{first_of_kind}
use Rattle.regions.proofs.Firsts.{keep_none}

-- A kind that may occur once is looked for among all kinds.
pub among_kinds : (k : ℕ) (rs : List Region) → within 1 3 k ≡ true → among k (each kind_of (keep once_only rs)) ≡ any (of_kind k) rs
unfolding among each keep any
among_kinds k [] w = refl
among_kinds k (r ∷ rs) w =
    whether (once_only r)
    (λ t. rw (keep_in once_only r rs t, among, among_kinds k rs w, eqb_comm k r.kind))
    (λ t.
    let other = ne_eqb r.kind k (λ e. true≢false (sym w ∙ ap (λ (n : ℕ). within 1 3 n) (sym e) ∙ t)) in
    rw (keep_out once_only r rs t, other) (among_kinds k rs w))

pub twice_none : kind_twice [] ≡ false
unfolding kind_twice keep each twice
twice_none = refl

-- Whether a kind stands twice: the first region's behind it, or another's.
pub twice_first : (r : Region) (rs : List Region) → kind_twice (r ∷ rs) ≡ (once_only r && any (of_kind r.kind) rs || kind_twice rs)
unfolding kind_twice each twice
twice_first r rs =
    whether (once_only r)
    (λ t. rw (keep_in once_only r rs t, among_kinds r.kind rs t, t))
    (λ t. rw (keep_out once_only r rs t, t))

-- Where none does, the regions of a kind are at most one.
pub kind_alone :
    (k : ℕ) (rs : List Region) → within 1 3 k ≡ true → kind_twice rs ≡ false
    → keep (of_kind k) rs ≡ only (any (of_kind k) rs) (first_of_kind k rs ∷ [])
unfolding first_of_kind keep any
kind_alone k [] w e = refl
kind_alone k (r ∷ rs) w e =
    let h = or_parts (once_only r && any (of_kind r.kind) rs) (kind_twice rs) (sym (twice_first r rs) ∙ e) in
    whether (of_kind k r)
    (λ t.
    let same = eqb-true r.kind k t in
    rw (keep_in (of_kind k) r rs t, t, keep_none (of_kind k) rs (rw (same, w) at h.0)))
    (λ t. rw (keep_out (of_kind k) r rs t, t) (kind_alone k rs w h.1))
