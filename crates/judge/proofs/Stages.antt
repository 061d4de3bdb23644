-- The number of a table, stage by stage. Assumes nothing.
use Prim.Native.Nat.{ℕ}
use mathlib.Core.Path.{◌≡◌, refl, ap, ◌∙◌}
use mathlib.Core.Bool.{Bool, true, false, cond, not, ◌||◌, ◌&&◌}
use mathlib.Core.List.{List, [], ◌∷◌, ◌++◌}
use lib.ListN.{length}
use lib.Dec.{eqb}
use Rattle.mps.specs.Words.{first, among, each}
use Rattle.mps.specs.Refusals.{◌when◌, refusal, extended_number}
use Rattle.mps.specs.Layout.{entry_count, base_entries, extended_entries}
use Rattle.mps.specs.Table.{wrong_extended_part, walk_fault, wrong_type, cut_or_miscounted, descending_type, wrong_extended, extended_from}
use Rattle.mps.specs.Judge.{table_rules, table_refusal}
use Rattle.laws.proofs.Refusals.{refusal_append}
use Rattle.accepted.proofs.Walk.{Fault, none, type, cut, order, walk_fault_lem}
use Rattle.header.specs.Header.{header_rules, header_refusal}
use Rattle.sections.specs.Base.{base_fault}
use Rattle.judge.specs.Stages.{walk_rules, walk_number, from14}

-- ---- The walk has one fault, and each of its rows asks whether it is its own

-- The rows of a fault w, where the count is right or not.
walk_rows : {w : ℕ} (right : Bool) → Fault w
    → refusal (10 when eqb w 10 ∷ 11 when (eqb w 11 || eqb w 0 && not right) ∷ 12 when eqb w 12 ∷ []) ≡ first w (cond right 0 11)
unfolding refusal
walk_rows true none = refl
walk_rows false none = refl
walk_rows right type = refl
walk_rows right cut = refl
walk_rows right order = refl

module _ (t : List ℕ) where
  walk_number_lem : refusal (walk_rules t) ≡ walk_number t
  unfolding walk_number base_fault base_entries walk_rules table_rules wrong_type cut_or_miscounted descending_type walk_fault
  walk_number_lem = walk_rows (eqb (length (base_entries t)) (entry_count t)) (walk_fault_lem 0 (base_entries t))

  -- ---- The stages

  pub stages : table_refusal t ≡ first (header_refusal t) (first (walk_number t) (cond (wrong_extended t) extended_number (refusal (from14 t))))
  unfolding table_refusal table_rules header_refusal header_rules walk_rules from14 refusal among each
  stages =
      let behind = extended_number when wrong_extended t ∷ from14 t in
      refusal_append (header_rules t) (walk_rules t ++ behind) refl
      ∙ ap (first (header_refusal t)) (refusal_append (walk_rules t) behind refl ∙ ap (λ (n : ℕ). first n (refusal behind)) walk_number_lem)

  -- 13 is the header's part of it, or a faulty entry.
  pub extended_stages : wrong_extended t ≡ (wrong_extended_part t || extended_from 0 (extended_entries t))
  unfolding wrong_extended
  extended_stages = refl
