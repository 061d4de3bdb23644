-- What the steps of `sound` answer: the two rules of the regions together as one test of two, and where the last body ends. A reader need not believe them: the contract of `sound` does not cite them.
use Rattle.std.specs.Prelude.{ℕ, ◌+◌, Bool, not, cond, ◌||◌, ◌&&◌, List, [], ◌∷◌, Option, None, Some}
use Rattle.mps.specs.Words.{any, each}
use Rattle.mps.specs.Sums.{total}
use Rattle.mps.specs.Dump.{contents_end, size_of, regions, sound_region, share, once_only, of_kind}
use Rattle.mps.specs.declared.Region.{Region}

abbrev pub last_end : List ℕ → ℕ
last_end d = contents_end d + total (each size_of (regions d))

-- Two regions that share an address, or are of one kind that may occur once.
unfoldable pub clashing : Region → Region → Bool
clashing r q = share r q || once_only r && of_kind r.kind q

-- Where the last of these bodies ends, the first of them at `end`; none where a region breaks a rule by itself, or clashes
-- with one behind it.
unfoldable pub fitted : ℕ → List Region → Option ℕ
fitted end [] = Some end
fitted end (r ∷ rs) = cond (sound_region r && not (any (clashing r) rs)) (fitted (end + r.size) rs) None
