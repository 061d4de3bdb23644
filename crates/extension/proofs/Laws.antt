-- What callers may use of the extended sections, where no entry is faulty, without a word on how they were found. Assumes
-- nothing.
use Prim.Native.Nat.{ℕ, suc, ◌+◌, ◌≤◌, ◌<◌}
use mathlib.Core.Path.{◌≡◌, ◌∙◌}
use mathlib.Core.Bool.{false}
use mathlib.Core.List.{List, ◌++◌}
use native.Mathlib.Omega.{arith}
use lib.ListN.{length, drop}
use Rattle.mps.specs.Words.{keep, part, cut}
use Rattle.mps.specs.Layout.{of_type, extended_entry_length}
use Rattle.mps.specs.Table.{extended_from}
use Rattle.mps.specs.Sections.{span, rows}
use Rattle.runs.specs.Runs.{size_of}
use Rattle.runs.proofs.Pieces.{size_some}
use Rattle.runs.proofs.Walks.{section_rows, section_end}
use Rattle.runs.proofs.Order.{sorted, order}
use Rattle.extension.specs.Extended.{extended_entries_in, extended_own}
use Rattle.extension.proofs.ExtendedEntries as extended

module _ (s : List ℕ) (w : extended_from 0 (extended_entries_in s) ≡ false) where
  pub extended_rows :
      (k : ℕ) → k < 3
      → keep (of_type (128 + k)) (extended_entries_in s)
      ≡ rows (size_of k) (part (span 128 k (extended_entries_in s)) (span 128 (suc k) (extended_entries_in s)) s)
  extended_rows k h =
      section_rows extended_own 0 extended_entry_length s 128 (extended.extended_accepted s w) extended.exact
      (λ e x. (extended.exact_parts e x).0) (extended.every_exact s w) k (size_of k) (size_some k)
      (λ e t x. (extended.exact_parts e x).1 ∙ extended.own_known e k h t)

  -- Behind the three sections there may be others.
  pub extended_end_lem : span 128 3 (extended_entries_in s) ≤ length s
  extended_end_lem =
      let whole =
      section_end extended_own 0 extended_entry_length s 128 (extended.extended_accepted s w) extended.exact
      (λ e x. (extended.exact_parts e x).0) (extended.every_exact s w) 3
      in
      omega (arith, whole)

-- The extended entries are the three known sections, and behind them the others as they are cut.
pub extended_order :
    (s : List ℕ) → extended_from 0 (extended_entries_in s) ≡ false
    → extended_entries_in s
    ≡ keep (of_type 128) (extended_entries_in s)
    ++ (keep (of_type 129) (extended_entries_in s)
    ++ (keep (of_type 130) (extended_entries_in s) ++ cut extended_entry_length 0 (drop (span 128 3 (extended_entries_in s)) s)))
unfolding sorted
extended_order s w =
    order extended_own 0 extended_entry_length s 128 (extended.extended_accepted s w) extended.exact
    (λ e x. (extended.exact_parts e x).0) (extended.every_exact s w) 3
