-- The rows 5 to 13 that an accepted table has passed, as facts. Assumes nothing.
use Prim.Native.Nat.{ℕ, ◌+◌, ◌-◌, ◌*◌, ◌≤◌, ◌<◌}
use mathlib.Core.Path.{◌≡◌}
use mathlib.Core.Bool.{false}
use mathlib.Core.List.{List, ◌∷◌}
use native.Mathlib.Omega.{arith}
use lib.ListN.{length, take, drop, length-take}
use borrow.Author.Tests.{eq-eqb, eqb-true, le-ltb, ltb-false, not-false}
use Rattle.mps.specs.Words.{text, any}
use Rattle.mps.specs.Refusals.{refusal}
use Rattle.mps.specs.Sums.{sum256}
use Rattle.mps.specs.Layout.{spec_revision, known_revision, part_most, header_size, entry_size, signature, revision, base_length, base_bytes, base_part, base_entry_length, entry_count, extended_length, extended_checksum, extended_end, extended_part, base_entries, extended_entries}
use Rattle.mps.specs.Table.{header_cut, wrong_signature, wrong_base_length, wrong_base_sum, wrong_revision, walk_from, walk_fault, wrong_type, cut_or_miscounted, descending_type, wrong_extended_part, wrong_extended, extended_from}
use Rattle.mps.specs.Judge.{table_rules, table_refusal}
use Rattle.laws.proofs.Tests.{or_parts}
use Rattle.laws.proofs.Refusals.{so, refusal_pass, refusal_passed}
use Rattle.laws.proofs.Small.{Bytes}
use Rattle.numbers.proofs.Laws.{le_two}
use Rattle.slices.proofs.Laws.{same_is, same_true}
use Rattle.accepted.proofs.Walk.{walk_fault_lem, fault_none}
use Rattle.accepted.proofs.Pieces.{base_told, joined_cut, walked_whole, whole_least}

pub record Sound (t : List ℕ) : Type 0 where
  pub long : header_size ≤ length t
  pub signed : signature t ≡ text "PCMP"
  pub low : header_size ≤ base_length t
  pub most : base_length t ≤ part_most
  pub inside : base_length t ≤ length t
  pub sum : sum256 (base_bytes t) ≡ 0
  pub revised : revision t ≡ spec_revision
  pub walked : walk_from 0 (base_entries t) ≡ 0
  pub counted : length (base_entries t) ≡ entry_count t
  pub extended_most : extended_length t ≤ part_most
  pub extended_inside : extended_end t ≤ length t
  pub extended_sum : sum256 (extended_checksum t ∷ extended_part t) ≡ 0
  pub extended_walked : extended_from 0 (extended_entries t) ≡ false

-- ---- From the rows to the facts

pub sound : (t : List ℕ) → table_refusal t ≡ 0 → Sound t
unfolding table_refusal table_rules header_cut wrong_signature wrong_base_length wrong_base_sum wrong_revision known_revision walk_fault wrong_type cut_or_miscounted descending_type wrong_extended_part wrong_extended
sound t e =
    let five = refusal_pass 5 _ _ (omega arith) e in
    let six = refusal_pass 6 _ _ (omega arith) five.1 in
    let seven = refusal_pass 7 _ _ (omega arith) six.1 in
    let eight = refusal_pass 8 _ _ (omega arith) seven.1 in
    let nine = refusal_pass 9 _ _ (omega arith) eight.1 in
    let ten = refusal_pass 10 _ _ (omega arith) nine.1 in
    let eleven = refusal_pass 11 _ _ (omega arith) ten.1 in
    let twelve = refusal_pass 12 _ _ (omega arith) eleven.1 in
    let thirteen = refusal_pass 13 _ _ (omega arith) twelve.1 in
    let past = or_parts _ _ seven.0 in
    let high = or_parts _ _ past.0 in
    let cut = or_parts _ _ eleven.0 in
    let w = fault_none (walk_fault_lem 0 (base_entries t)) ten.0 cut.0 twelve.0 in
    let walks = or_parts _ _ thirteen.0 in
    let summed = or_parts _ _ walks.0 in
    let ends = or_parts _ _ summed.0 in
    record {
      long = ltb-false _ _ five.0;
      signed = same_true _ _ (not-false _ six.0);
      low = ltb-false _ _ high.0;
      most = ltb-false _ _ high.1;
      inside = ltb-false _ _ past.1;
      sum = eqb-true _ _ (not-false _ eight.0);
      revised = eqb-true _ _ (not-false _ nine.0);
      walked = w;
      counted = eqb-true _ _ (not-false _ (rw w at cut.1));
      extended_most = ltb-false _ _ ends.0;
      extended_inside = ltb-false _ _ ends.1;
      extended_sum = eqb-true _ _ (not-false _ summed.1);
      extended_walked = walks.1;
    }

-- ---- And back

pub sound_rows : (t : List ℕ) → Sound t → any so (take 9 (table_rules t)) ≡ false
unfolding any table_rules header_cut wrong_signature wrong_base_length wrong_base_sum wrong_revision known_revision walk_fault wrong_type cut_or_miscounted descending_type wrong_extended_part wrong_extended
sound_rows t s =
    rw (
      le-ltb _ _ s.long,
      same_is _ _ s.signed,
      le-ltb _ _ s.low,
      le-ltb _ _ s.most,
      le-ltb _ _ s.inside,
      s.sum,
      s.revised,
      s.walked,
      eq-eqb _ _ s.counted,
      le-ltb _ _ s.extended_most,
      le-ltb _ _ s.extended_inside,
      s.extended_sum,
      s.extended_walked,
    )

-- Where they hold, 14 to 18 decide.
pub sound_rest : (t : List ℕ) → Sound t → table_refusal t ≡ refusal (drop 9 (table_rules t))
unfolding table_refusal table_rules
sound_rest t s = refusal_passed (take 9 (table_rules t)) (drop 9 (table_rules t)) (sound_rows t s)

-- ---- What they bound

-- An accepted table counts its entries in two bytes.
pub entries_most : (t : List ℕ) → Bytes t → table_refusal t ≡ 0 → length (base_entries t) < 65536
entries_most t b a = omega (arith, (sound t a).counted, le_two t 34, b 34, b 35)

-- Each entry has at least eight bytes, all within the base.
pub entries_least : (t : List ℕ) → table_refusal t ≡ 0 → header_size + length (base_entries t) * entry_size ≤ base_length t
unfolding base_entries
entries_least t a =
    let s = sound t a in
    let least = whole_least (base_entries t) (walked_whole 0 (base_entries t) s.walked) in
    let all : length (base_entries t) * entry_size ≤ length (base_part t) = rw (joined_cut base_entry_length base_told (base_part t)) at least in
    omega (arith, all, s.low, length-take (base_length t - header_size) (drop header_size t))
