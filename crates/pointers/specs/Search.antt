-- Where the first good floating pointer stands in a region's body. Document 01, "The floating pointer": "A candidate with a
-- wrong signature, length or sum is passed over"; "The first good one decides".
use Rattle.std.specs.Prelude.{ℕ, ◌+◌, ◌≤◌, ◌≡◌, cond, List, [], ◌∷◌, length, drop, Option, None, Some}
use Rattle.mps.specs.Words.{cut}
use Rattle.mps.specs.Layout.{pointer_size}
use Rattle.mps.specs.Pointer.{sixteen, good}

-- The place of the first good one of these pieces, of which the first stands at `at`.
unfoldable pub first_good : ℕ → List (List ℕ) → Option ℕ
first_good at [] = None
first_good at (p ∷ ps) = cond (good p) (Some at) (first_good (at + pointer_size) ps)

-- .. in a body, from its first byte.
unfoldable pub search_of : List ℕ → Option ℕ
search_of s = first_good 0 (cut sixteen 0 s)

-- .. from a place on.
abbrev pub left : List ℕ → ℕ → Option ℕ
left s at = first_good at (cut sixteen 0 (drop at s))

-- What the search keeps: what is left answers as the whole does.
abbrev pub Seeks : List ℕ → ℕ → Type 0
Seeks s at = (left s at ≡ search_of s) × (at ≤ length s)
