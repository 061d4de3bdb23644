-- Laws of the header's rows, one for each way out of the code. Assumes nothing.
use Rattle.std.proofs.Common.{◌≡◌, ℕ, ◌+◌, ◌-◌, ◌%◌, ◌<◌, ◌≤◌, true, false, not, ◌||◌, eqb, ltb, List, [], ◌∷◌, length, get_or, take, drop, sym, ap, ◌∙◌, arith, ltb-false, le-ltb, lt-ltb, eq-eqb, ne_eqb}
use mathlib.Core.Path.{refl}
use mathlib.Core.Bool.{or-true}
use Rattle.std.specs.Prelude.{Bool, Ok, Err}
use Rattle.std.specs.List.{starts_with}
use Rattle.mps.specs.Words.{same, any, among, each}
use Rattle.mps.specs.Sums.{total, sum256}
use Rattle.mps.specs.Layout.{header_size, part_most, base_length, spec_revision, known_revision, extended_length, extended_checksum, extended_end, extended_part}
use Rattle.mps.specs.Refusals.{refusal, base_number}
use Rattle.mps.specs.Reasons.{number_of_refusal}
use Rattle.mps.specs.Answers.{answered}
use Rattle.mps.specs.declared.refusals.Refusal.{Refusal}
use Rattle.mps.specs.Table.{header_cut, wrong_signature, wrong_base_length, wrong_base_sum, wrong_revision, wrong_extended_part}
use Rattle.mps.specs.Judge.{table_rules}
use Rattle.laws.proofs.Answers.{given_ok, given_err, Known, known_rows, number_numbered}
use Rattle.laws.proofs.Tests.{eqb_comm, or_parts}
use Rattle.laws.proofs.Refusals.{refusal_stop, refusal_go, refusal_pass, refusal_end}
use Rattle.slices.proofs.Laws.{same_compared}
use Rattle.header.specs.Header.{base_rules, header_rules, header_refusal}

-- "PCMP", as the code has it.
abbrev pcmp : List ℕ
pcmp = 0x50 ∷ 0x43 ∷ 0x4d ∷ 0x50 ∷ []

same_back : (a b : List ℕ) → same a b ≡ same b a
unfolding same
same_back [] [] = refl
same_back [] (y ∷ ys) = refl
same_back (x ∷ xs) [] = refl
same_back (x ∷ xs) (y ∷ ys) = rw (eqb_comm x y, same_back xs ys)

module _ (t : List ℕ) where
  -- ---- 5 and 6

  -- What the library's `starts_with` tells of the signature.
  pub signature_is : {b : Bool} → b ≡ starts_with eqb t pcmp → b ≡ same (take 4 t) pcmp
  signature_is {b} e = same_compared pcmp (take 4 t) b e ∙ same_back pcmp (take 4 t)

  pub is_cut : length t < header_size → 5 ≡ header_refusal t
  unfolding header_refusal header_rules base_rules table_rules header_cut
  is_cut h = sym (refusal_stop _ _ (lt-ltb _ _ h))

  pub is_unsigned : header_size ≤ length t → same (take 4 t) pcmp ≡ false → 6 ≡ header_refusal t
  unfolding header_refusal header_rules base_rules table_rules header_cut wrong_signature
  is_unsigned h e = sym (refusal_go _ _ (le-ltb _ _ h) ∙ refusal_stop _ _ (ap not e))

  pub is_signed : header_size ≤ length t → same (take 4 t) pcmp ≡ true → refusal (base_rules t) ≡ header_refusal t
  unfolding header_refusal header_rules base_rules table_rules header_cut wrong_signature
  is_signed h e = sym (refusal_go _ _ (le-ltb _ _ h) ∙ refusal_go _ _ (ap not e))

  -- ---- 7 to 9

  pub is_short : base_length t < header_size → base_number ≡ refusal (base_rules t)
  unfolding header_rules base_rules table_rules wrong_base_length
  is_short h = sym (refusal_stop _ _ (rw (lt-ltb _ _ h)))

  pub is_long : part_most < base_length t → base_number ≡ refusal (base_rules t)
  unfolding header_rules base_rules table_rules wrong_base_length
  is_long h = sym (refusal_stop _ _ (rw (lt-ltb _ _ h, or-true)))

  pub is_past : length t < base_length t → base_number ≡ refusal (base_rules t)
  unfolding header_rules base_rules table_rules wrong_base_length
  is_past h = sym (refusal_stop _ _ (rw (lt-ltb _ _ h, or-true)))

  module _ (low : header_size ≤ base_length t) (high : base_length t ≤ part_most) (in-it : base_length t ≤ length t) where
    base_fits : wrong_base_length t ≡ false
    unfolding wrong_base_length
    base_fits = rw (le-ltb _ _ low, le-ltb _ _ high, le-ltb _ _ in-it)

    -- x is the sum of the first `base` bytes.
    module _ {base x : ℕ} (e : x ≡ sum256 (take base t)) (q : base ≡ base_length t) where
      sum_wrong : (x ≡ 0 → ⊥) → wrong_base_sum t ≡ true
      unfolding wrong_base_sum
      sum_wrong n = rw (← q, ← e, ne_eqb x 0 n)

      sum_good : x ≡ 0 → wrong_base_sum t ≡ false
      unfolding wrong_base_sum
      sum_good z = rw (← q, ← e, eq-eqb x 0 z)

      pub is_missummed : (x ≡ 0 → ⊥) → 8 ≡ refusal (base_rules t)
      unfolding header_rules base_rules table_rules
      is_missummed n = sym (refusal_go _ _ base_fits ∙ refusal_stop _ _ (sum_wrong n))

      pub is_unknown : x ≡ 0 → (get_or t 6 0 ≡ spec_revision → ⊥) → 9 ≡ refusal (base_rules t)
      unfolding header_rules base_rules table_rules wrong_revision known_revision
      is_unknown z n = sym (refusal_go _ _ base_fits ∙ refusal_go _ _ (sum_good z) ∙ refusal_stop _ _ (ap not (ne_eqb _ _ n)))

      pub is_good : x ≡ 0 → get_or t 6 0 ≡ spec_revision → 0 ≡ refusal (base_rules t)
      unfolding header_rules base_rules table_rules wrong_revision known_revision
      is_good z r =
          sym (refusal_go _ _ base_fits ∙ refusal_go _ _ (sum_good z) ∙ refusal_go _ _ (ap not (eq-eqb _ _ r)) ∙ refusal_end)

-- ---- The number alone

module _ (t : List ℕ) where
  -- It is one that a refusal has, or 0.
  header_known : Known (header_refusal t)
  unfolding header_refusal header_rules table_rules any among each
  header_known = known_rows (header_rules t) refl

  pub number_passed : {u : Unit {0}} → Ok u ≡ answered (header_refusal t) tt → 0 ≡ header_refusal t
  number_passed e = sym (given_ok (header_refusal t) tt e).0

  pub number_refused : {r : Refusal} → Err r ≡ answered {A = Unit {0}} (header_refusal t) tt → number_of_refusal r ≡ header_refusal t
  number_refused e = let g = given_err (header_refusal t) tt e in rw g.1 (number_numbered (header_refusal t) g.0 header_known)

-- ---- 13: length and sum of the extended part

module _ (t : List ℕ) where
  pub is_too_long : part_most < extended_length t → true ≡ wrong_extended_part t
  unfolding wrong_extended_part
  is_too_long h = rw (lt-ltb _ _ h)

  pub is_outside : length t < extended_end t → true ≡ wrong_extended_part t
  unfolding wrong_extended_part
  is_outside h = rw (lt-ltb _ _ h, or-true)

  -- x is the sum of the bytes from `base` on, so many as the header says, with byte 42.
  pub is_summed :
      {base size b s x : ℕ} → b ≡ extended_checksum t → s ≡ sum256 (take (base + size - base) (drop base t)) → x ≡ (b + s) % 256
      → base ≡ base_length t → size ≡ extended_length t → extended_length t ≤ part_most → extended_end t ≤ length t → not (eqb x 0) ≡ wrong_extended_part t
  unfolding wrong_extended_part sum256 total
  is_summed {x} e f g p q h k =
      let r : x ≡ total (extended_checksum t ∷ extended_part t) % 256 = rw (← p, ← q) (omega (arith, e, f, g)) in
      rw (le-ltb _ _ h, le-ltb _ _ k, r)

-- ---- What a caller may use of a header that passes

pub record Header (t : List ℕ) : Type 0 where
  pub whole : header_size ≤ length t
  pub low : header_size ≤ base_length t
  pub inside : base_length t ≤ length t

module _ (t : List ℕ) where
  pub header_passed : header_refusal t ≡ 0 → Header t
  unfolding header_refusal header_rules base_rules table_rules header_cut wrong_base_length
  header_passed e =
      let five = refusal_pass 5 (header_cut t) _ (omega arith) e in
      let six = refusal_pass 6 (wrong_signature t) _ (omega arith) five.1 in
      let seven = refusal_pass 7 (wrong_base_length t) _ (omega arith) six.1 in
      let past = or_parts (ltb (base_length t) header_size || ltb part_most (base_length t)) (ltb (length t) (base_length t)) seven.0 in
      let short = or_parts (ltb (base_length t) header_size) (ltb part_most (base_length t)) past.0 in
      record {
        whole = ltb-false _ _ five.0;
        low = ltb-false _ _ short.0;
        inside = ltb-false _ _ past.1;
      }

  pub extended_fits : wrong_extended_part t ≡ false → extended_end t ≤ length t
  unfolding wrong_extended_part
  extended_fits e =
      let a = or_parts (ltb part_most (extended_length t) || ltb (length t) (extended_end t)) _ e in
      ltb-false _ _ (or_parts (ltb part_most (extended_length t)) (ltb (length t) (extended_end t)) a.0).1
