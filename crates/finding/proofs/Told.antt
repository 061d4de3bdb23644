-- Laws of `pointed`: the numbers 1 to 4, and what a pointer tells that passes them, one law for each way out of the code.
-- Assumes nothing.
use Prim.Native.Nat.{ℕ, zero, suc, ◌+◌, ◌-◌, ◌/◌, ◌%◌, ◌≤◌, ◌<◌}
use mathlib.Core.Path.{◌≡◌, refl, ap, sym, ◌∙◌}
use mathlib.Core.Bool.{true, false, not, cond, or-true}
use mathlib.Core.List.{List, [], ◌∷◌}
use native.Mathlib.Omega.{arith}
use lib.ListN.{length, take}
use lib.Dec.{eqb, ltb}
use borrow.Author.Tests.{eq-eqb, ne_eqb, lt-ltb, le-ltb}
use Rattle.mps.specs.Words.{byte, part, bit, flag, none}
use Rattle.mps.specs.Layout.{pointer_size, pointer_table, pointer_revision, feature1, imcr, default_most, spec_revision, known_revision}
use Rattle.mps.specs.Refusals.{refusal, ◌when◌}
use Rattle.mps.specs.Dump.{regions, sound_dump, holding}
use Rattle.mps.specs.Pointer.{Candidate, pointers, pointer, pointer_bytes, is_default, table_address, table_start, table_end}
use Rattle.mps.specs.Pointer.{no_pointer, wrong_pointer_revision, wrong_feature}
use Rattle.mps.specs.Judge.{pointer_rules, told, pointed}
use Rattle.mps.specs.declared.Region.{Region}
use Rattle.mps.specs.declared.Held.TheVariants.{Default, Table}
use Rattle.std.specs.Prelude.{Ok, Err}
use Rattle.mps.specs.Reasons.{refusal_numbered}
use Rattle.mps.specs.declared.refusals.Refusal.TheVariants.{BadDump, NoPointer, PointerRevision, FeatureByte}
use Rattle.finding.specs.declared.Spotted.{Spotted}
use Rattle.laws.proofs.Refusals.{refusal_stop, refusal_go, refusal_end}
use Rattle.regions.specs.Regions.{eight}
use Rattle.contents.proofs.Laws.{sound_count, holding_eight, holding_inside}
use Rattle.finding.specs.Spotted.{SpotsAt}

-- ---- The answer from the number

module _ (d : List ℕ) where
  number_told : (n : ℕ) → refusal (pointer_rules d) ≡ suc n → Err (refusal_numbered (suc n)) ≡ pointed d
  unfolding pointed
  number_told n e = rw e

  none_told : refusal (pointer_rules d) ≡ 0 → Ok (told d) ≡ pointed d
  unfolding pointed
  none_told e = rw e

  -- ---- 1 and 2

  pub says_1 : sound_dump d ≡ false → Err BadDump ≡ pointed d
  unfolding pointer_rules refusal_numbered
  says_1 e = number_told 0 (refusal_stop _ _ (ap not e))

  pub says_2 : sound_dump d ≡ true → pointers d ≡ [] → Err NoPointer ≡ pointed d
  unfolding pointer_rules no_pointer refusal_numbered
  says_2 s e = number_told 1 (refusal_go _ _ (ap not s) ∙ refusal_stop _ _ (ap none e))

-- ---- Where the first good pointer stands

module _ (d : List ℕ) where
  pub address_unsound : sound_dump d ≡ false → 0 ≡ cond (sound_dump d) (pointer d).address 0
  address_unsound s = rw s

  pub address_none : sound_dump d ≡ true → pointers d ≡ [] → 0 ≡ cond (sound_dump d) (pointer d).address 0
  unfolding pointer
  address_none s e = rw (s, e)

  pub address_spotted : {at : Spotted} → sound_dump d ≡ true → SpotsAt d (pointers d) at → at.address ≡ cond (sound_dump d) (pointer d).address 0
  unfolding pointer
  address_spotted s w = rw s (sym (ap (λ (c : Candidate). c.address) w.first))

-- ---- The region that holds an address, of eight records

module _
    (d : List ℕ) (sound : sound_dump d ≡ true) {rs : List Region} (q : rs ≡ eight (regions d))
    (t : ℕ) {r : Region} (f : r ≡ holding t (take 8 rs)) where
  holding_is : r ≡ holding t (regions d)
  holding_is = f ∙ rw q (holding_eight t (regions d) (sound_count d sound))

  pub holding_fits : (r.offset + r.size ≤ length d) × (r.base ≤ t) × (t ≤ r.base + r.size)
  holding_fits = rw holding_is (holding_inside d t sound)

-- ---- 3 and 4, of a pointer that stands at `place`

flag_of : (n : ℕ) → n < 2 → n ≡ flag (eqb n 1)
flag_of zero h = refl
flag_of (suc zero) h = refl
flag_of (suc (suc n)) h = absurd (omega (arith, h))

-- The IMCR bit as the code has it.
imcr_bit : (n : ℕ) → n < 256 → n / 128 ≡ flag (bit 7 n)
unfolding bit
imcr_bit n h =
    let e : n / 128 % 2 ≡ n / 128 = omega arith in
    rw e (flag_of (n / 128) (omega arith))

module _ (d : List ℕ) {at : Spotted} (sound : sound_dump d ≡ true) (w : SpotsAt d (pointers d) at) where
  abbrev p : List ℕ
  p = part at.place (at.place + pointer_size) d

  address_is : (pointer d).address ≡ at.address
  unfolding pointer
  address_is = ap (λ (c : Candidate). c.address) w.first

  bytes_are : pointer_bytes d ≡ p
  unfolding pointer
  bytes_are = ap (λ (c : Candidate). c.bytes) w.first

  past_2 : refusal (pointer_rules d) ≡ refusal (3 when wrong_pointer_revision d ∷ 4 when wrong_feature d ∷ [])
  unfolding pointer_rules no_pointer
  past_2 = refusal_go _ _ (ap not sound) ∙ refusal_go _ _ w.some

  pub says_3 : (pointer_revision p ≡ spec_revision → ⊥) → Err PointerRevision ≡ pointed d
  unfolding wrong_pointer_revision known_revision refusal_numbered
  says_3 n = number_told d 2 (past_2 ∙ refusal_stop _ _ (rw (bytes_are, ne_eqb _ _ n)))

  -- t is the table's address.
  module _ {t : ℕ} (rev : pointer_revision p ≡ spec_revision) (e : t ≡ pointer_table p) where
    past_3 : refusal (pointer_rules d) ≡ refusal (4 when wrong_feature d ∷ [])
    unfolding wrong_pointer_revision known_revision
    past_3 = past_2 ∙ refusal_go _ _ (rw (bytes_are, eq-eqb _ _ rev))

    table_is : table_address d ≡ t
    table_is = rw (bytes_are, e)

    default_is : is_default d ≡ ltb 0 (feature1 p)
    unfolding is_default
    default_is = rw bytes_are

    says_4 : wrong_feature d ≡ true → Err FeatureByte ≡ pointed d
    unfolding refusal_numbered
    says_4 h = number_told d 3 (past_3 ∙ refusal_stop _ _ h)

    passes_4 : wrong_feature d ≡ false → Ok (told d) ≡ pointed d
    passes_4 h = none_told d (past_3 ∙ refusal_go _ _ h ∙ refusal_end)

    pub over_7 : default_most < feature1 p → Err FeatureByte ≡ pointed d
    unfolding wrong_feature
    over_7 h = says_4 (rw (bytes_are, lt-ltb _ _ h))

    module _ (n : feature1 p ≡ 0 → ⊥) where
      is_default_lem : is_default d ≡ true
      is_default_lem = default_is ∙ lt-ltb 0 (feature1 p) (omega arith)

      pub default_with_table : (t ≡ 0 → ⊥) → Err FeatureByte ≡ pointed d
      unfolding wrong_feature
      default_with_table z = says_4 (rw (is_default_lem, table_is, ne_eqb t 0 z, or-true))

      pub tells_default :
          feature1 p ≤ default_most → t ≡ 0 → byte p 12 < 256 → Ok (Default (feature1 p) (byte p 12 / 128)) ≡ pointed d
      unfolding wrong_feature told
      tells_default h z l =
          let telling : told d ≡ Default (feature1 p) (flag (imcr p)) = rw (is_default_lem, bytes_are) in
          let right : wrong_feature d ≡ false = rw (is_default_lem, table_is, eq-eqb t 0 z, bytes_are, le-ltb _ _ h) in
          rw (imcr_bit (byte p 12) l) (ap Ok (sym telling) ∙ passes_4 right)

    module _ (n : feature1 p ≡ 0) where
      is_table : is_default d ≡ false
      is_table = default_is ∙ le-ltb 0 (feature1 p) (omega arith)

      pub no_table : t ≡ 0 → Err FeatureByte ≡ pointed d
      unfolding wrong_feature
      no_table z = says_4 (rw (is_table, table_is, eq-eqb t 0 z, or-true))

      -- r is the region that holds the table.
      pub tells_table :
          {rs : List Region} {r : Region} → rs ≡ eight (regions d) → r ≡ holding t (take 8 rs) → (t ≡ 0 → ⊥) → byte p 12 < 256
          → Ok (Table at.address (byte p 12 / 128) t (r.offset + (t - r.base)) (r.offset + r.size)) ≡ pointed d
      unfolding wrong_feature told table_start table_end
      tells_table {r} q f z l =
          let telling : told d ≡ Table at.address (flag (imcr p)) t (r.offset + (t - r.base)) (r.offset + r.size) =
          rw (is_table, address_is, table_is, bytes_are, holding_is d sound q t f) in
          let right : wrong_feature d ≡ false = rw (is_table, table_is, ne_eqb t 0 z, bytes_are, n) in
          rw (imcr_bit (byte p 12) l) (ap Ok (sym telling) ∙ passes_4 right)
