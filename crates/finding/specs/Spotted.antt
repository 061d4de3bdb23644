-- What the search for the floating pointer tells the rest of the dump reader. Document 01, "The floating pointer".
use Rattle.std.specs.Prelude.{ℕ, ◌+◌, ◌≤◌, ◌≡◌, cond, false, List, [], length, Option, None, Some}
use Rattle.std.specs.Option.{unwrap_or}
use Rattle.mps.specs.Words.{part, none, head}
use Rattle.mps.specs.Layout.{pointer_size, memory_end}
use Rattle.mps.specs.Dump.{of_kind, end_of}
use Rattle.mps.specs.Pointer.{Candidate, no_candidate}
use Rattle.mps.specs.declared.Region.{Region}
use Rattle.regions.specs.Regions.{blank, first_of_kind}
use Rattle.finding.specs.declared.Spotted.{Spotted}

-- "Search kind 1, then kind 2 only if no kind 1 region is listed": the one of them that is searched. It is blank where
-- neither is listed.
unfoldable pub searched_first : List Region → Region
searched_first rs = cond (of_kind 1 (first_of_kind 1 rs)) (first_of_kind 1 rs) (first_of_kind 2 rs)

-- The region that was looked up, a blank one where there is none.
abbrev pub or_blank : Option Region → Region
or_blank r = unwrap_or r blank

-- A region whose body is inside the dump, and whose addresses have four bytes.
abbrev pub Fits : List ℕ → Region → Type 0
Fits d r = (r.offset + r.size ≤ length d) × (end_of r ≤ memory_end)

-- The first of these candidates has this address, and its bytes stand in the dump from this place on.
pub record SpotsAt (d : List ℕ) (cs : List Candidate) (s : Spotted) : Type 0 where
  pub some : none cs ≡ false
  pub first : head no_candidate cs ≡ record { address = s.address; bytes = part s.place (s.place + pointer_size) d }
  pub inside : s.place + pointer_size ≤ length d

-- What was spotted is the first of these candidates; nothing is, where there is none.
abbrev pub Spots : List ℕ → List Candidate → Option Spotted → Type 0
Spots d cs (Some s) = SpotsAt d cs s
Spots d cs None = cs ≡ []
