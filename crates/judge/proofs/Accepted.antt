-- The sections of a table whose walks found no fault: between one place and the next stand the entries of one type. Assumes
-- nothing.
use Prim.Native.Nat.{ℕ, suc, ◌+◌, ◌≤◌, ◌<◌}
use mathlib.Core.Path.{◌≡◌, refl, ap, ◌∙◌}
use mathlib.Core.Bool.{false}
use mathlib.Core.List.{List, ◌++◌}
use native.Mathlib.Omega.{arith}
use native.Mathlib.Nat.{add-zero}
use lib.ListN.{length}
use Rattle.mps.specs.Words.{part, keep, cut}
use Rattle.mps.specs.Layout.{of_type, header_size, mapping_type, base_length, extended_end, base_part, extended_part, extended_entry_length, base_entries, extended_entries}
use Rattle.mps.specs.Table.{walk_from, extended_from}
use Rattle.mps.specs.Sections.{rows, span, base_after, extended_after, sections}
use Rattle.laws.proofs.Parts.{length_part, part_part, drop_part}
use Rattle.laws.proofs.Small.{Bytes}
use Rattle.runs.specs.Runs.{size_of}
use Rattle.runs.proofs.Order.{span_ascends}
use Rattle.sections.proofs.Laws.{base_rows, base_end_lem, base_order}
use Rattle.extension.proofs.Laws.{extended_rows, extended_end_lem, extended_order}
use Rattle.judge.specs.Placed.{Placed}

-- ---- The base

module _ (t : List ℕ) (low : header_size ≤ base_length t) (inside : base_length t ≤ length t) (w : walk_from 0 (base_entries t) ≡ 0) where
  base_at : (k : ℕ) → base_after (suc k) t ≤ base_length t
      → keep (of_type k) (base_entries t) ≡ rows (size_of k) (part (base_after k t) (base_after (suc k) t) t)
  unfolding base_after base_entries
  base_at k h =
      base_rows (base_part t) w k
      ∙ ap (rows (size_of k)) (part_part header_size (base_length t) (span 0 k (base_entries t)) (span 0 (suc k) (base_entries t)) t h)

  pub after_ascends : (k : ℕ) → base_after k t ≤ base_after (suc k) t
  unfolding base_after
  after_ascends k = omega (arith, span_ascends 0 k (base_entries t))

  pub after_all : base_after 5 t ≡ base_length t
  unfolding base_after base_entries
  after_all = omega (arith, base_end_lem (base_part t) w, length_part header_size (base_length t) t (omega arith))

  after_none : base_after 0 t ≡ header_size
  unfolding base_after span
  after_none = refl

  in_order :
      base_entries t
      ≡ keep (of_type 0) (base_entries t)
      ++ (keep (of_type 1) (base_entries t)
      ++ (keep (of_type 2) (base_entries t) ++ (keep (of_type 3) (base_entries t) ++ keep (of_type 4) (base_entries t))))
  unfolding base_entries
  in_order = base_order (base_part t) w

-- ---- The extended part

module _ (t : List ℕ) (inside : extended_end t ≤ length t) (x : extended_from 0 (extended_entries t) ≡ false) where
  more_at : (k : ℕ) → k < 3 → extended_after (suc k) t ≤ extended_end t
      → keep (of_type (mapping_type + k)) (extended_entries t) ≡ rows (size_of k) (part (extended_after k t) (extended_after (suc k) t) t)
  unfolding extended_after extended_entries
  more_at k l h =
      extended_rows (extended_part t) x k l
      ∙ ap (rows (size_of k))
      (part_part (base_length t) (extended_end t) (span 128 k (extended_entries t)) (span 128 (suc k) (extended_entries t)) t h)

  more_ascends : (k : ℕ) → extended_after k t ≤ extended_after (suc k) t
  unfolding extended_after
  more_ascends k = omega (arith, span_ascends 128 k (extended_entries t))

  more_all : extended_after 3 t ≤ extended_end t
  unfolding extended_after extended_entries
  more_all = omega (arith, extended_end_lem (extended_part t) x, length_part (base_length t) (extended_end t) t inside)

  more_none : extended_after 0 t ≡ base_length t
  unfolding extended_after span
  more_none = add-zero (base_length t)

  more_in_order :
      extended_entries t
      ≡ keep (of_type 128) (extended_entries t)
      ++ (keep (of_type 129) (extended_entries t)
      ++ (keep (of_type 130) (extended_entries t) ++ cut extended_entry_length 0 (part (extended_after 3 t) (extended_end t) t)))
  unfolding extended_entries extended_after
  more_in_order = rw (← drop_part (base_length t) (extended_end t) (span 128 3 (extended_entries t)) t) (extended_order (extended_part t) x)

-- ---- Both

pub placed :
    (t : List ℕ) → Bytes t → header_size ≤ base_length t → extended_end t ≤ length t
    → walk_from 0 (base_entries t) ≡ 0 → extended_from 0 (extended_entries t) ≡ false → Placed t (sections t)
unfolding sections
placed t bytes low inside w x =
    let fits : base_length t ≤ length t = omega arith in
    let base = base_at t low fits w in
    let a = after_ascends t low fits w in
    let all = after_all t low fits w in
    let none = after_none t low fits w in
    let more = more_at t inside x in
    let b = more_ascends t inside x in
    let most = more_all t inside x in
    let k0 = rw none at (base 0 (omega (arith, a 1, a 2, a 3, a 4, all))) in
    let k1 = base 1 (omega (arith, a 2, a 3, a 4, all)) in
    let k2 = base 2 (omega (arith, a 3, a 4, all)) in
    let k3 = base 3 (omega (arith, a 4, all)) in
    let k4 = rw all at (base 4 (omega (arith, all))) in
    let m0 = rw (more_none t inside x) at (more 0 (omega arith) (omega (arith, b 1, b 2, most))) in
    let m1 = more 1 (omega arith) (omega (arith, b 2, most)) in
    let m2 = more 2 (omega arith) most in
    record {
      bytes = bytes;
      processors = k0;
      buses = k1;
      ioapics = k2;
      interrupts = k3;
      locals = k4;
      mappings = m0;
      links = m1;
      modifiers = m2;
      base_order = in_order t low fits w ∙ rw (k0, k1, k2, k3, k4);
      extended_order = more_in_order t inside x ∙ rw (m0, m1, m2);
      from_header = omega (arith, a 0, none);
      to_ioapics = a 1;
      to_interrupts = a 2;
      to_locals = a 3;
      to_mappings = omega (arith, a 4, all);
      to_links = omega (arith, b 0, more_none t inside x);
      to_modifiers = b 1;
      to_others = b 2;
      to_end = most;
      inside = inside;
    }
