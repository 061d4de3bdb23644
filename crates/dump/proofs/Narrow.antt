-- How wide the numbers of an answer are. Assumes nothing.
use Prim.Native.Nat.{ℕ, ◌+◌, ◌≤◌, ◌<◌}
use mathlib.Core.Path.{◌≡◌, ap}
use mathlib.Core.Bool.{Bool, true, false, not, ◌&&◌}
use mathlib.Core.List.{List}
use native.Mathlib.Omega.{arith}
use lib.Dec.{ltb, eqb}
use borrow.Author.Tests.{ltb-true, ltb-false}
use Rattle.std.specs.Prelude.{Ok}
use Rattle.mps.specs.Words.{part, flag}
use Rattle.mps.specs.Layout.{default_most, pointer_size, memory_end, feature1, imcr}
use Rattle.mps.specs.Refusals.{refusal}
use Rattle.mps.specs.Dump.{sound_dump}
use Rattle.mps.specs.Pointer.{Candidate, pointer, pointer_bytes, is_default, table_address, no_pointer, wrong_pointer_revision, wrong_feature}
use Rattle.mps.specs.Judge.{pointer_rules, held}
use Rattle.mps.specs.declared.Held.TheVariants.{Default, Table}
use Rattle.laws.proofs.Tests.{or_parts}
use Rattle.laws.proofs.Small.{Bytes, bytes_part}
use Rattle.laws.proofs.Refusals.{refusal_pass}
use Rattle.numbers.proofs.Laws.{le_below}
use Rattle.finding.proofs.Spots.{spot}
use Rattle.dump.proofs.Laws.{passed_sound, held_none, held_default, held_table}

flag_most : (b : Bool) → flag b ≤ 1
flag_most true = omega arith
flag_most false = omega arith

-- What 1 to 4 have passed.
module _ (d : List ℕ) (e : refusal (pointer_rules d) ≡ 0) where
  one_is : no_pointer d ≡ false
  unfolding pointer_rules
  one_is =
      let a = refusal_pass 1 (not (sound_dump d)) _ (omega arith) e in
      (refusal_pass 2 (no_pointer d) _ (omega arith) a.1).0

  feature_right : wrong_feature d ≡ false
  unfolding pointer_rules
  feature_right =
      let a = refusal_pass 1 (not (sound_dump d)) _ (omega arith) e in
      let b = refusal_pass 2 (no_pointer d) _ (omega arith) a.1 in
      let c = refusal_pass 3 (wrong_pointer_revision d) _ (omega arith) b.1 in
      (refusal_pass 4 (wrong_feature d) _ (omega arith) c.1).0

  feature_most : feature1 (pointer_bytes d) ≤ default_most
  unfolding wrong_feature
  feature_most =
      let f = feature1 (pointer_bytes d) in
      let a = or_parts _ (not (is_default d) && eqb (table_address d) 0) feature_right in
      ltb-false default_most f (or_parts (ltb default_most f) _ a.0).0

  pointer_low : (pointer d).address < memory_end
  unfolding pointer
  pointer_low =
      let k = spot d (passed_sound d e) one_is in
      rw (ap (λ (c : Candidate). c.address) k.there.first) k.low

  table_low : Bytes d → table_address d < memory_end
  unfolding pointer
  table_low b =
      let k = spot d (passed_sound d e) one_is in
      rw (ap (λ (c : Candidate). c.bytes) k.there.first)
      (le_below 4 (part k.at.place (k.at.place + pointer_size) d) 4 (bytes_part k.at.place (k.at.place + pointer_size) d b))

-- A default configuration is 1 to 7, and the bit of a pointer 0 or 1.
pub default_narrow : (d : List ℕ) (n b : ℕ) → held d ≡ Ok (Default n b) → (0 < n) × (n ≤ default_most) × (b ≤ 1)
unfolding is_default
default_narrow d n b q =
    let h = held_default d n b q in
    let f = feature_most d (held_none d h.0) in
    let some = ltb-true 0 (feature1 (pointer_bytes d)) h.1 in
    (omega (arith, h.2, some), omega (arith, h.2, f), rw h.3 (flag_most (imcr (pointer_bytes d))))

-- Addresses have four bytes.
pub table_narrow : (d : List ℕ) (p b a s e : ℕ) → Bytes d → held d ≡ Ok (Table p b a s e) → (p < memory_end) × (b ≤ 1) × (a < memory_end)
table_narrow d p b a s e small q =
    let h = held_table d p b a s e q in
    let none = held_none d h.0 in
    let k = h.1 in (
      rw k.place (pointer_low d none),
      rw k.bit (flag_most (imcr (pointer_bytes d))),
      rw k.address (table_low d none small),
    )
