-- Document 02, ask 6, the full listing of a default board: "In the listing the pointer line stands as ever and the table's address
-- is written 00000000. .. Refusals: 30, .. after 4 and before 19; a listing tests it only for a default." Assumes nothing.
use Prim.Native.Nat.{ℕ, ◌≤◌, ◌<◌}
use mathlib.Core.Path.{◌≡◌, refl, sym, ◌∙◌}
use mathlib.Core.Bool.{Bool, true, false, not, ◌||◌, false≢true}
use mathlib.Core.Logic.{◌↔◌, inr}
use mathlib.Core.List.{List, [], ◌∷◌, ◌++◌}
use native.Mathlib.Omega.{arith}
use lib.ListN.{length, take, drop}
use lib.Dec.{ltb, eqb}
use lib.Seq.{take_at}
use borrow.Author.Tests.{lt-ltb, ltb-true, ltb-false}
use Rattle.mps.specs.Words.{among, any, each, only, joined, put}
use Rattle.mps.specs.Refusals.{◌when◌, refusal}
use Rattle.mps.specs.Answers.{number_of, lent_numbers}
use Rattle.mps.specs.Rooms.{too_small}
use Rattle.mps.specs.Layout.{boot_most}
use Rattle.mps.specs.Pointer.{pointer, is_default, imcr_of, table_in}
use Rattle.mps.specs.Judge.{table_rules, pointer_rules, dump_rules, dump_refusal, told, held}
use Rattle.mps.specs.Listing.{pointer_line, table_line, base_line, end_line, table_lines, listed, list_left}
use Rattle.mps.specs.Defaults.{default_entries, default_table, no_default, made, make_left, default_of, full_listing, wrong_boot, full_rules, full_refusal, full_listed, full_left}
use Rattle.std.specs.Prelude.{Ok}
use Rattle.laws.proofs.Tests.{whether, and_parts, or_parts}
use Rattle.laws.proofs.Lists.{any_append}
use Rattle.laws.proofs.Refusals.{number, so, refusal_none, given_before, given_exactly, absent_only}
use Rattle.laws.proofs.Lent.{lent_19, lent_before, lent_none, lent_kept, lent_shown, fits, fit_late}
use Rattle.dump.proofs.Narrow.{default_narrow}
use Rattle.defaults.proofs.Laws.{There}
use Rattle.defaults.proofs.Calls.{there_none}
use Rattle.listing.proofs.Defaults.{full_given, full_same}
use Rattle.promises.proofs.Given.{given_no_number}
use Rattle.promises.proofs.Defaults.{no_default_exactly, default_entries_lem, default_extended, default_lengths, make_shown}

-- ---- Which boot processor is wrong

module _ (d : List ℕ) (boot : ℕ) where
  -- An accepted default dump has one of the numbers 1 to 7, so that the boot processor alone decides.
  some_default : dump_refusal d ≡ 0 → is_default d ≡ true → boot ≤ boot_most → There (default_of d) boot
  unfolding held told
  some_default a f b =
      let k = default_narrow d (default_of d) (imcr_of d) (rw (a, f)) in
      record { some = k.0; most = k.1; boots = b }

  wrong_boot_lem : dump_refusal d ≡ 0 → (wrong_boot d boot ≡ true) ↔ ((is_default d ≡ true) × (boot_most < boot))
  unfolding wrong_boot
  wrong_boot_lem a =
      let n = default_of d in (
        λ t.
            let p = and_parts (is_default d) (no_default n boot) t in (
              p.0,
              whether (ltb boot_most boot) (ltb-true boot_most boot)
                  (λ f. absurd (false≢true (sym (there_none (some_default a p.0 (ltb-false boot_most boot f))) ∙ p.1))),
            ),
        λ h. rw h.0 ((no_default_exactly n boot).1 (inr (inr h.1))),
      )

  right_boot : dump_refusal d ≡ 0 → (wrong_boot d boot ≡ false) ↔ (is_default d ≡ true → boot ≤ boot_most)
  right_boot a =
      let w = wrong_boot_lem a in (
        λ f t. whether (ltb boot_most boot) (λ b. absurd (false≢true (sym f ∙ w.1 (t, ltb-true boot_most boot b)))) (ltb-false boot_most boot),
        λ h. whether (wrong_boot d boot) (λ t. let p = w.0 t in absurd (omega (arith, h p.0, p.1))) (λ f. f),
      )

-- ---- The numbers

-- None of the rows has 19.
module _ (d : List ℕ) (boot : ℕ) where
  no_row_19 : (b : Bool) → among 19 (each number ((pointer_rules d ++ only b (table_rules (table_in d))) ++ (30 when wrong_boot d boot ∷ []))) ≡ false
  unfolding pointer_rules table_rules among each
  no_row_19 true = refl
  no_row_19 false = refl

  -- The rows before 19: the dump is accepted, and a default has a boot processor that there is.
  passed : (any so (full_rules d boot) ≡ false) ↔ ((dump_refusal d ≡ 0) × (is_default d ≡ true → boot ≤ boot_most))
  unfolding full_rules any
  passed =
      let wrong = wrong_boot d boot in
      let both = any_append so (dump_rules d) (30 when wrong ∷ []) in (
        λ e.
            let p = or_parts (any so (dump_rules d)) (wrong || false) (sym both ∙ e) in
            let a = (given_no_number d).1 p.0 in
            (a, (right_boot d boot a).0 (or_parts wrong false p.1).0),
        λ h. both ∙ rw ((given_no_number d).0 h.0, (right_boot d boot h.0).1 h.1),
      )

  module _ (room : List ℕ) where
    abbrev small : Bool
    small = too_small (length (full_listing d boot)) room

    rows_first : (n : ℕ) → 0 < n → eqb n 19 ≡ false → (full_refusal d boot room ≡ n) ↔ (refusal (full_rules d boot) ≡ n)
    unfolding full_refusal
    rows_first = lent_before (full_rules d boot) small (full_given d boot)

    -- 30, "after 4": "a listing tests it only for a default", and then only the boot processor can be wrong.
    pub full_30 : (full_refusal d boot room ≡ 30) ↔ ((dump_refusal d ≡ 0) × (is_default d ≡ true) × (boot_most < boot))
    unfolding full_rules dump_rules pointer_rules table_rules among each
    full_30 =
        let f = rows_first 30 (omega arith) refl in
        let g = given_exactly (dump_rules d) 30 (wrong_boot d boot) [] (omega arith) (absent_only 30 (not (is_default d)) (table_rules (table_in d)) refl) refl in (
          λ e.
              let h = g.0 (f.0 e) in
              let a = (given_no_number d).1 h.0 in
              let w = (wrong_boot_lem d boot a).0 h.1 in
              (a, w.0, w.1),
          λ h. f.1 (g.1 ((given_no_number d).0 h.0, (wrong_boot_lem d boot h.0).1 (h.1, h.2))),
        )

    -- Any other but 19 is the dump's own.
    pub full_before : (n : ℕ) → 0 < n → among n (30 ∷ 19 ∷ []) ≡ false → (full_refusal d boot room ≡ n) ↔ (dump_refusal d ≡ n)
    unfolding full_rules dump_refusal dump_rules pointer_rules table_rules among each
    full_before n p h =
        let k = or_parts (eqb n 30) (eqb n 19 || false) h in
        let f = rows_first n p (or_parts (eqb n 19) false k.1).0 in
        let g = given_before (dump_rules d) (30 when wrong_boot d boot ∷ []) (absent_only 0 (not (is_default d)) (table_rules (table_in d)) refl) n p (rw k.0) in
        (λ e. g.0 (f.0 e), λ e. f.1 (g.1 e))

    -- 19: "answer longer than the lent room", behind 30.
    pub full_19 : (full_refusal d boot room ≡ 19)
        ↔ ((dump_refusal d ≡ 0) × (is_default d ≡ true → boot ≤ boot_most) × (length room < length (full_listing d boot)))
    unfolding full_refusal full_rules dump_rules too_small
    full_19 =
        let size = length (full_listing d boot) in
        let g = lent_19 (full_rules d boot) small (no_row_19 (not (is_default d))) in (
          λ e. let h = g.0 e in let p = passed.0 h.0 in (p.0, p.1, ltb-true (length room) size h.1),
          λ h. g.1 (passed.1 (h.0, h.1), lt-ltb (length room) size h.2),
        )

    -- Answered: a dump that is accepted, of a default a boot processor that there is, and a room that is long enough.
    pub full_answered : (full_refusal d boot room ≡ 0)
        ↔ ((dump_refusal d ≡ 0) × (is_default d ≡ true → boot ≤ boot_most) × (length (full_listing d boot) ≤ length room))
    unfolding full_refusal full_rules dump_rules too_small
    full_answered =
        let answer = full_listing d boot in
        let rows = full_rules d boot in
        let some = full_given d boot in
        let none = refusal_none rows some in (
          λ e.
              let h = lent_none rows some small e in
              let p = passed.0 (none.0 h.0) in
              (p.0, p.1, ltb-false (length room) (length answer) h.1),
          λ h. fit_late rows some answer room (none.1 (passed.1 (h.0, h.1))) ∙ fits answer room h.2,
        )

    -- ---- What is left

    -- A refusal leaves the room as it was,
    pub full_kept : (number_of (lent_numbers (full_listed d boot room)) ≡ 0 → ⊥) → full_left d boot room ≡ room
    unfolding full_listed full_left
    full_kept = lent_kept (full_refusal d boot room) _ (full_listing d boot) room

    -- and a listing stands at its first byte; what lies past it stays.
    pub full_shown : {k : ℕ} → full_listed d boot room ≡ Ok k → (k ≡ length (full_listing d boot)) × (full_left d boot room ≡ put (full_listing d boot) room)
    unfolding full_listed full_left
    full_shown = lent_shown (full_refusal d boot room) _ (full_listing d boot) room

-- ---- What is listed

-- "a listing tests it only for a default": of a table the full listing is the listing, whatever boot processor is said.
pub full_table : (d : List ℕ) (boot : ℕ) (room : List ℕ) → is_default d ≡ false
    → (full_listed d boot room ≡ listed d room) × (full_left d boot room ≡ list_left d room)
full_table = full_same

module _ (d : List ℕ) (boot : ℕ) (t : is_default d ≡ true) where
  abbrev meant : ℕ
  meant = default_of d

  -- "the pointer line stands as ever and the table's address is written 00000000": behind the pointer's line come those of the
  -- table that the call makes for that boot processor, at address 0.
  pub full_lists_made : (room : List ℕ) {k : ℕ} → made meant boot room ≡ Ok k
      → full_listing d boot ≡ pointer_line (pointer d).address (imcr_of d) ++ table_lines 0 (take k (make_left meant boot room))
  unfolding full_listing
  full_lists_made room {k} e =
      let s = make_shown meant boot room e in
      rw (t, s.1, take_at (default_table meant boot) (drop (length (default_table meant boot)) room) k (sym s.0))

  -- That is: all its bytes are base, and its lines are those of Intel's tables.
  pub full_lines : no_default meant boot ≡ false
      → full_listing d boot
      ≡ pointer_line (pointer d).address (imcr_of d)
      ++ (table_line 0 (length (default_table meant boot)) 0 (length (default_entries meant boot))
      ++ (joined base_line (default_entries meant boot) ++ end_line))
  unfolding full_listing table_lines joined
  full_lines h =
      let l = default_lengths meant boot h in
      rw (t, l.0, l.1, l.2, default_entries_lem meant boot h, default_extended meant boot h)
