-- "Given exactly when": a dump or a bare table is refused with a number if and only if that number's row of document 01 is
-- so and no row tested before it is, and accepted if and only if no row is so. One theorem of laws, `given_exactly`, serves
-- every number. Assumes nothing.
use Prim.Native.Nat.{ℕ, ◌<◌}
use mathlib.Core.Path.{◌≡◌, refl, sym, ◌∙◌}
use mathlib.Core.Bool.{Bool, true, false, not}
use mathlib.Core.List.{List, [], ◌∷◌, ◌++◌}
use mathlib.Core.Logic.{◌↔◌}
use native.Mathlib.Omega.{arith}
use lib.ListN.{take, drop}
use Rattle.mps.specs.Words.{among, any, each, only}
use Rattle.mps.specs.Refusals.{Rule, refusal}
use Rattle.mps.specs.Layout.{base_entries, extended_entries}
use Rattle.mps.specs.Dump.{sound_dump}
use Rattle.mps.specs.Pointer.{no_pointer, wrong_pointer_revision, wrong_feature, is_default, table_in}
use Rattle.mps.specs.Table.{header_cut, wrong_signature, wrong_base_length, wrong_base_sum, wrong_revision, wrong_type, cut_or_miscounted, descending_type, wrong_extended}
use Rattle.mps.specs.Rules.{wrong_processors, wrong_buses, wrong_io_apics, wrong_interrupts, wrong_spaces}
use Rattle.mps.specs.Judge.{table_rules, table_refusal, pointer_rules, dump_rules, dump_refusal}
use Rattle.laws.proofs.Refusals.{so, refusal_passed, refusal_none, refusal_behind, given_exactly, absent_only}

-- A number is given exactly when its row is so and none of the rows before it is.
abbrev pub Exactly : ℕ → ℕ → List Rule → Bool → Type 0
Exactly given n before row = (given ≡ n) ↔ ((any so before ≡ false) × (row ≡ true))

-- ---- A dump: 1 to 4

-- The rows behind: those of the table, where there is one, have none of these numbers.
abbrev table_rows : List ℕ → List Rule
table_rows d = only (not (is_default d)) (table_rules (table_in d))

-- 1: the dump breaks a rule of its section (an empty file too)
pub given_1 : (d : List ℕ) → Exactly (dump_refusal d) 1 (take 0 (pointer_rules d)) (not (sound_dump d))
unfolding dump_refusal dump_rules pointer_rules table_rules among each
given_1 d =
    given_exactly (take 0 (pointer_rules d)) 1 (not (sound_dump d)) (drop 1 (pointer_rules d) ++ table_rows d) (omega arith) refl
    (absent_only 1 (not (is_default d)) (table_rules (table_in d)) refl)

-- 2: no good floating pointer
pub given_2 : (d : List ℕ) → Exactly (dump_refusal d) 2 (take 1 (pointer_rules d)) (no_pointer d)
unfolding dump_refusal dump_rules pointer_rules table_rules among each
given_2 d =
    given_exactly (take 1 (pointer_rules d)) 2 (no_pointer d) (drop 2 (pointer_rules d) ++ table_rows d) (omega arith) refl
    (absent_only 2 (not (is_default d)) (table_rules (table_in d)) refl)

-- 3: pointer revision not 4
pub given_3 : (d : List ℕ) → Exactly (dump_refusal d) 3 (take 2 (pointer_rules d)) (wrong_pointer_revision d)
unfolding dump_refusal dump_rules pointer_rules table_rules among each
given_3 d =
    given_exactly (take 2 (pointer_rules d)) 3 (wrong_pointer_revision d) (drop 3 (pointer_rules d) ++ table_rows d) (omega arith) refl
    (absent_only 3 (not (is_default d)) (table_rules (table_in d)) refl)

-- 4: feature byte over 7; 1 to 7 with nonzero address; 0 with address 0
pub given_4 : (d : List ℕ) → Exactly (dump_refusal d) 4 (take 3 (pointer_rules d)) (wrong_feature d)
unfolding dump_refusal dump_rules pointer_rules table_rules among each
given_4 d =
    given_exactly (take 3 (pointer_rules d)) 4 (wrong_feature d) (drop 4 (pointer_rules d) ++ table_rows d) (omega arith) refl
    (absent_only 4 (not (is_default d)) (table_rules (table_in d)) refl)

-- A dump that passes 1 to 4 is a default configuration, or is refused as its table is.
pub given_table : (d : List ℕ) → any so (pointer_rules d) ≡ false → is_default d ≡ false → dump_refusal d ≡ table_refusal (table_in d)
unfolding dump_refusal dump_rules table_refusal
given_table d e f = refusal_passed (pointer_rules d) (table_rows d) e ∙ rw f

pub given_default : (d : List ℕ) → any so (pointer_rules d) ≡ false → is_default d ≡ true → dump_refusal d ≡ 0
unfolding dump_refusal dump_rules refusal
given_default d e f = refusal_passed (pointer_rules d) (table_rows d) e ∙ rw f

-- 5 to 18, of a dump: exactly where 1 to 4 are passed, it is no default, and its table is refused so.
pub given_in_dump :
    (d : List ℕ) (n : ℕ) → 0 < n → among n (1 ∷ 2 ∷ 3 ∷ 4 ∷ []) ≡ false
    → (dump_refusal d ≡ n) ↔ ((any so (pointer_rules d) ≡ false) × (is_default d ≡ false) × (table_refusal (table_in d) ≡ n))
unfolding dump_refusal dump_rules pointer_rules each
given_in_dump d n p f = (to, λ h. given_table d h.0 h.1 ∙ h.2)
  where
    passed : dump_refusal d ≡ n → any so (pointer_rules d) ≡ false
    passed e = refusal_behind n (pointer_rules d) (table_rows d) f e

    no_default : (b : Bool) → is_default d ≡ b → dump_refusal d ≡ n → is_default d ≡ false
    no_default false q e = q
    no_default true q e = absurd (omega (arith, p, given_default d (passed e) q, e))

    to : dump_refusal d ≡ n → (any so (pointer_rules d) ≡ false) × (is_default d ≡ false) × (table_refusal (table_in d) ≡ n)
    to e = let q = no_default (is_default d) refl e in (passed e, q, sym (given_table d (passed e) q) ∙ e)

-- Accepted, a dump: no row is so.
pub given_no_number : (d : List ℕ) → (dump_refusal d ≡ 0) ↔ (any so (dump_rules d) ≡ false)
unfolding dump_refusal dump_rules pointer_rules table_rules among each
given_no_number d = refusal_none (dump_rules d) (absent_only 0 (not (is_default d)) (table_rules (table_in d)) refl)

-- ---- A bare table: 5 to 18

-- Accepted: no row is so. This is what a judge that refuses everything would have to deny.
pub given_none : (t : List ℕ) → (table_refusal t ≡ 0) ↔ (any so (table_rules t) ≡ false)
unfolding table_refusal table_rules among each
given_none t = refusal_none (table_rules t) refl

-- 5: 44 header bytes not in one region
pub given_5 : (t : List ℕ) → Exactly (table_refusal t) 5 (take 0 (table_rules t)) (header_cut t)
unfolding table_refusal table_rules among each
given_5 t = given_exactly (take 0 (table_rules t)) 5 (header_cut t) (drop 1 (table_rules t)) (omega arith) refl refl

-- 6: not "PCMP"
pub given_6 : (t : List ℕ) → Exactly (table_refusal t) 6 (take 1 (table_rules t)) (wrong_signature t)
unfolding table_refusal table_rules among each
given_6 t = given_exactly (take 1 (table_rules t)) 6 (wrong_signature t) (drop 2 (table_rules t)) (omega arith) refl refl

-- 7: base length under 44, over 4,096 or past the region
pub given_7 : (t : List ℕ) → Exactly (table_refusal t) 7 (take 2 (table_rules t)) (wrong_base_length t)
unfolding table_refusal table_rules among each
given_7 t = given_exactly (take 2 (table_rules t)) 7 (wrong_base_length t) (drop 3 (table_rules t)) (omega arith) refl refl

-- 8: base sum
pub given_8 : (t : List ℕ) → Exactly (table_refusal t) 8 (take 3 (table_rules t)) (wrong_base_sum t)
unfolding table_refusal table_rules among each
given_8 t = given_exactly (take 3 (table_rules t)) 8 (wrong_base_sum t) (drop 4 (table_rules t)) (omega arith) refl refl

-- 9: table revision not 4
pub given_9 : (t : List ℕ) → Exactly (table_refusal t) 9 (take 4 (table_rules t)) (wrong_revision t)
unfolding table_refusal table_rules among each
given_9 t = given_exactly (take 4 (table_rules t)) 9 (wrong_revision t) (drop 5 (table_rules t)) (omega arith) refl refl

-- 10: base type over 4
pub given_10 : (t : List ℕ) → Exactly (table_refusal t) 10 (take 5 (table_rules t)) (wrong_type t)
unfolding table_refusal table_rules among each
given_10 t = given_exactly (take 5 (table_rules t)) 10 (wrong_type t) (drop 6 (table_rules t)) (omega arith) refl refl

-- 11: entry cut by the base end, or count differs after the walk
pub given_11 : (t : List ℕ) → Exactly (table_refusal t) 11 (take 6 (table_rules t)) (cut_or_miscounted t)
unfolding table_refusal table_rules among each
given_11 t = given_exactly (take 6 (table_rules t)) 11 (cut_or_miscounted t) (drop 7 (table_rules t)) (omega arith) refl refl

-- 12: type below the one before
pub given_12 : (t : List ℕ) → Exactly (table_refusal t) 12 (take 7 (table_rules t)) (descending_type t)
unfolding table_refusal table_rules among each
given_12 t = given_exactly (take 7 (table_rules t)) 12 (descending_type t) (drop 8 (table_rules t)) (omega arith) refl refl

-- 13: extended part over 4,096, past the region, wrong sum, cut entry, length under 2, type under 128 or descending, or 128 to 130
-- with another length than theirs
pub given_13 : (t : List ℕ) → Exactly (table_refusal t) 13 (take 8 (table_rules t)) (wrong_extended t)
unfolding table_refusal table_rules among each
given_13 t = given_exactly (take 8 (table_rules t)) 13 (wrong_extended t) (drop 9 (table_rules t)) (omega arith) refl refl

-- 14: local APIC address not a multiple of 4,096; not exactly one bootstrap entry, or that one disabled; an enabled processor with
-- ID 255 or another enabled one's ID
pub given_14 : (t : List ℕ) → Exactly (table_refusal t) 14 (take 9 (table_rules t)) (wrong_processors t)
unfolding table_refusal table_rules among each
given_14 t = given_exactly (take 9 (table_rules t)) 14 (wrong_processors t) (drop 10 (table_rules t)) (omega arith) refl refl

-- 15: bus ID twice, or name unknown
pub given_15 : (t : List ℕ) → Exactly (table_refusal t) 15 (take 10 (table_rules t)) (wrong_buses (base_entries t))
unfolding table_refusal table_rules among each
given_15 t = given_exactly (take 10 (table_rules t)) 15 (wrong_buses (base_entries t)) (drop 11 (table_rules t)) (omega arith) refl refl

-- 16: enabled I/O APIC: ID 255, ID of another enabled I/O APIC, address 0 or not a multiple of 1,024; a processor's ID is no fault
-- (document 02, ask 2)
pub given_16 : (t : List ℕ) → Exactly (table_refusal t) 16 (take 11 (table_rules t)) (wrong_io_apics (base_entries t))
unfolding table_refusal table_rules among each
given_16 t = given_exactly (take 11 (table_rules t)) 16 (wrong_io_apics (base_entries t)) (drop 12 (table_rules t)) (omega arith) refl refl

-- 17: interrupt type over 3; reserved polarity or trigger; bus not listed; destination neither 255 nor the ID of a listed I/O APIC
-- (type 3) or processor (type 4), enabled or not; local input over 1
pub given_17 : (t : List ℕ) → Exactly (table_refusal t) 17 (take 12 (table_rules t)) (wrong_interrupts (base_entries t))
unfolding table_refusal table_rules among each
given_17 t = given_exactly (take 12 (table_rules t)) 17 (wrong_interrupts (base_entries t)) (drop 13 (table_rules t)) (omega arith) refl refl

-- 18: extended bus or parent not listed; kind over 2; range past 2^64; second type 129 entry for a bus; parents in a circle (self
-- too); list over 1
pub given_18 : (t : List ℕ) → Exactly (table_refusal t) 18 (take 13 (table_rules t)) (wrong_spaces (base_entries t) (extended_entries t))
unfolding table_refusal table_rules among each
given_18 t = given_exactly (take 13 (table_rules t)) 18 (wrong_spaces (base_entries t) (extended_entries t)) (drop 14 (table_rules t)) (omega arith) refl refl
