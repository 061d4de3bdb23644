-- The entry at a place of an accepted table: where it stands, and which bytes it has. Assumes nothing.
use Prim.Native.Nat.{ℕ, ◌+◌, ◌-◌, ◌≤◌, ◌<◌}
use mathlib.Core.Path.{◌≡◌, ap, ◌∙◌}
use mathlib.Core.List.{List}
use native.Mathlib.Omega.{arith}
use native.Mathlib.Nat.{add-zero}
use lib.ListN.{length, take, drop, length-drop}
use lib.Seq.{take-take, get_or-take, get_or-drop, length-take-le}
use Rattle.mps.specs.Words.{byte, part}
use Rattle.mps.specs.Layout.{type, header_size, base_length, base_part, base_entries, entry_count, base_entry_length}
use Rattle.mps.specs.Edits.{before, standing, offset_of}
use Rattle.laws.proofs.Parts.{length_part, drop_part}
use Rattle.accepted.proofs.Sound.{Sound}
use Rattle.accepted.proofs.Pieces.{piece_is, piece_whole, base_told, walked_whole}

pub record Stands (t : List ℕ) (place : ℕ) : Type 0 where
  pub low : header_size ≤ offset_of t place
  pub size : length (standing t place) ≡ base_entry_length (drop (offset_of t place) t)
  pub some : 0 < length (standing t place)
  pub inside : offset_of t place + length (standing t place) ≤ base_length t
  pub bytes : standing t place ≡ part (offset_of t place) (offset_of t place + length (standing t place)) t
  pub kind : type (standing t place) ≡ byte t (offset_of t place)

-- Bytes e that stand at a place of a list, wholly below another place, and are as long as is told there.
record Lies (high : ℕ) (t : List ℕ) (at : ℕ) (e : List ℕ) : Type 0 where
  is : e ≡ take (base_entry_length (drop at t)) (drop at t)
  inside : at + base_entry_length (drop at t) ≤ high

module _ (high : ℕ) (t : List ℕ) (fits : high ≤ length t) where
  -- Bytes of a part are bytes of the list.
  part_lies : (low at : ℕ) (e : List ℕ) → Lies (length (part low high t)) (part low high t) at e → Lies high t (low + at) e
  part_lies low at e p =
      let o = low + at in
      let s : List ℕ = drop at (part low high t) in
      let n = base_entry_length (drop o t) in
      let rest : s ≡ take (high - o) (drop o t) = drop_part low high at t in
      let some = base_told.some s in
      let room : at + base_entry_length s ≤ high - low = rw (length_part low high t fits) at p.inside in
      let same : byte s 0 ≡ byte (drop o t) 0 = rw rest (get_or-take (high - o) (drop o t) 0 0 (omega arith)) in
      let size : base_entry_length s ≡ n = base_told.by_first s (drop o t) same in
      record { is = p.is ∙ rw (size, rest) (take-take n (high - o) (drop o t) (omega arith)); inside = omega arith }

  module _ (at : ℕ) (e : List ℕ) (p : Lies high t at e) where
    lies_size : length e ≡ base_entry_length (drop at t)
    lies_size = rw p.is (length-take-le (base_entry_length (drop at t)) (drop at t) (omega (arith, p.inside, fits, length-drop at t)))

    lies_bytes : e ≡ part at (at + length e) t
    lies_bytes = let k : at + length e - at ≡ base_entry_length (drop at t) = omega (arith, lies_size) in rw k p.is

    lies_first : byte e 0 ≡ byte t at
    lies_first =
        ap (λ (l : List ℕ). byte l 0) p.is
        ∙ get_or-take (base_entry_length (drop at t)) (drop at t) 0 0 (base_told.some (drop at t))
        ∙ rw add-zero at (get_or-drop at t 0 0)

lies : (t : List ℕ) (place : ℕ) → Sound t → place < entry_count t → Lies (base_length t) t (offset_of t place) (standing t place)
unfolding standing offset_of base_entries
lies t place s h =
    let k : place < length (base_entries t) = omega (arith, h, s.counted) in
    let w = walked_whole 0 (base_entries t) s.walked in
    part_lies (base_length t) t s.inside header_size (before place (base_entries t)) (standing t place)
    (record {
      is = piece_is base_entry_length base_told (base_part t) place k;
      inside = piece_whole base_entry_length base_told (base_part t) place w k;
    })

behind_header : (t : List ℕ) (place : ℕ) → header_size ≤ offset_of t place
unfolding offset_of
behind_header t place = omega arith

pub stands : (t : List ℕ) (place : ℕ) → Sound t → place < entry_count t → Stands t place
stands t place s h =
    let at = offset_of t place in
    let e = standing t place in
    let p = lies t place s h in
    let size = lies_size (base_length t) t s.inside at e p in
    record {
      low = behind_header t place;
      size = size;
      some = omega (arith, size, base_told.some (drop at t));
      inside = omega (arith, size, p.inside);
      bytes = lies_bytes (base_length t) t s.inside at e p;
      kind = lies_first (base_length t) t s.inside at e p;
    }
