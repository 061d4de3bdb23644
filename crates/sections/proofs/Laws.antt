-- What callers may use of the base sections, where no entry is faulty, without a word on how they were found. Assumes nothing.
use Prim.Native.Nat.{ℕ, suc}
use mathlib.Core.Path.{◌≡◌, ap, sym, ◌∙◌}
use mathlib.Core.List.{List, ◌++◌, append-nil}
use native.Mathlib.Omega.{arith}
use native.Mathlib.Nat.{zero-add}
use lib.ListN.{length}
use Rattle.mps.specs.Words.{keep, part}
use Rattle.mps.specs.Layout.{of_type, base_entry_length}
use Rattle.mps.specs.Table.{walk_from}
use Rattle.mps.specs.Sections.{span, rows}
use Rattle.laws.proofs.Cut.{cut_done}
use Rattle.runs.specs.Runs.{size_of}
use Rattle.runs.proofs.Pieces.{size_some}
use Rattle.runs.proofs.Runs.{after}
use Rattle.runs.proofs.Walks.{walk_after, section_rows}
use Rattle.runs.proofs.Order.{sorted, order}
use Rattle.sections.specs.Base.{base_entries_in, base_own}
use Rattle.sections.proofs.BaseEntries as base

module _ (s : List ℕ) (w : walk_from 0 (base_entries_in s) ≡ 0) where
  -- The entries of a type are the rows of its section.
  pub base_rows :
      (k : ℕ) → keep (of_type k) (base_entries_in s) ≡ rows (size_of k) (part (span 0 k (base_entries_in s)) (span 0 (suc k) (base_entries_in s)) s)
  base_rows k =
      ap (λ (j : ℕ). keep (of_type j) (base_entries_in s)) (sym (zero-add k))
      ∙ section_rows base_own 11 base_entry_length s 0 (base.base_accepted s w) base.exact base.exact_some (base.every_exact s w)
      k (size_of k) (size_some k)
      (λ e t x. base.exact_length e x ∙ base.length_by e k (t ∙ zero-add k))

  -- The five sections are the whole.
  pub base_end_lem : span 0 5 (base_entries_in s) ≡ length s
  base_end_lem =
      let none =
      base.behind_five (after base_own 0 5 (base_entries_in s))
      (sym (walk_after base_own 11 0 5 (base_entries_in s)) ∙ base.base_accepted s w)
      in
      omega (arith, base.whole_end s w 5, none)

-- The base entries are the five sections, one behind the other.
pub base_order :
    (s : List ℕ) → walk_from 0 (base_entries_in s) ≡ 0
    → base_entries_in s
    ≡ keep (of_type 0) (base_entries_in s)
    ++ (keep (of_type 1) (base_entries_in s)
    ++ (keep (of_type 2) (base_entries_in s)
    ++ (keep (of_type 3) (base_entries_in s) ++ keep (of_type 4) (base_entries_in s))))
unfolding sorted
base_order s w =
    order base_own 11 base_entry_length s 0 (base.base_accepted s w) base.exact base.exact_some (base.every_exact s w) 5
    ∙ rw (cut_done base_entry_length s (span 0 5 (base_entries_in s)) (omega (arith, base_end_lem s w)), append-nil)
