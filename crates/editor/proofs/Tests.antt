-- The tests of an edit, 20 to 22: the rows, and the entry that the code finds and compares. Assumes nothing.
use Rattle.std.proofs.Common.{◌≡◌, ℕ, ◌+◌, ◌<◌, ◌≤◌, Bool, true, false, not, ◌||◌, eqb, List, [], ◌∷◌, length, sym, ap, ◌∙◌, add-zero, arith, get_or-drop, le-ltb, lt-ltb}
use Rattle.std.specs.Prelude.{Result, Ok, Err}
use Rattle.mps.specs.Words.{byte, same, part}
use Rattle.mps.specs.Refusals.{refusal}
use Rattle.mps.specs.Reasons.{refusal_numbered}
use Rattle.mps.specs.Answers.{answered}
use Rattle.mps.specs.declared.refusals.Refusal.{Refusal}
use Rattle.mps.specs.declared.refusals.Refusal.TheVariants.{NoEntry, OtherEntry, Changed}
use Rattle.laws.proofs.Answers.{told}
use Rattle.mps.specs.Layout.{entry_count, base_entry_length}
use Rattle.mps.specs.Judge.{table_refusal}
use Rattle.mps.specs.Edits.{Edit, standing, offset_of, no_place, other_shape, changed, entry_rules}
use Rattle.laws.proofs.Refusals.{refusal_stop, refusal_go, refusal_end}
use Rattle.editor.specs.Tested.{edit_of}
use Rattle.accepted.proofs.Sound.{sound}
use Rattle.accepted.proofs.Stands.{Stands, stands}

-- ---- The rows

module _ (t : List ℕ) (e : Edit) where
  pub number_20 : entry_count t ≤ e.place → Err NoEntry ≡ answered (refusal (entry_rules t e)) (tt {0})
  unfolding no_place refusal_numbered
  number_20 h = let n : 20 ≡ refusal (entry_rules t e) = sym (refusal_stop {b = no_place t e} 20 _ (rw (le-ltb _ _ h))) in told (tt {0}) n

  module _ (p : e.place < entry_count t) where
    placed : no_place t e ≡ false
    unfolding no_place
    placed = rw (lt-ltb _ _ p)

    number_21 : other_shape t e ≡ true → 21 ≡ refusal (entry_rules t e)
    number_21 h = sym (refusal_go 20 _ placed ∙ refusal_stop 21 _ h)

    number_22 : other_shape t e ≡ false → changed t e ≡ true → 22 ≡ refusal (entry_rules t e)
    number_22 h k = sym (refusal_go 20 _ placed ∙ refusal_go 21 _ h ∙ refusal_stop 22 _ k)

    number_none : other_shape t e ≡ false → changed t e ≡ false → 0 ≡ refusal (entry_rules t e)
    number_none h k = sym (refusal_go 20 _ placed ∙ refusal_go 21 _ h ∙ refusal_go 22 _ k ∙ refusal_end)

-- ---- As the code tests them

-- The place at which the code has found an entry.
pub record Found (t : List ℕ) (place at : ℕ) : Type 0 where
  pub accepted : table_refusal t ≡ 0
  pub exists : place < entry_count t
  pub is : at ≡ offset_of t place

module _ (t : List ℕ) (place at : ℕ) (f : Found t place at) where
  entry : Stands t place
  entry = stands t place (sound t f.accepted) f.exists

  pub found_inside : at < length t
  found_inside = let s = sound t f.accepted in omega (arith, f.is, entry.inside, entry.some, s.inside)

  found_size : {n : ℕ} → n ≡ base_entry_length (byte t at ∷ []) → n ≡ length (standing t place)
  unfolding base_entry_length
  found_size e = rw (e, entry.size, f.is, get_or-drop (offset_of t place) t 0 0, add-zero (offset_of t place))

  pub found_end : {n : ℕ} → n ≡ base_entry_length (byte t at ∷ []) → at + n ≤ length t
  found_end e = let s = sound t f.accepted in omega (arith, f.is, found_size e, entry.inside, s.inside)

  module _ (stated wanted : List ℕ) {n k : ℕ} (s : n ≡ base_entry_length (byte t at ∷ [])) (q : k ≡ byte wanted 0) where
    abbrev tested : Result (Unit {0}) Refusal
    tested = answered (refusal (entry_rules t (edit_of place stated wanted))) (tt {0})

    shape :
        (not (eqb (length stated) n) || not (eqb (length wanted) n) || not (eqb k (byte t at)))
        ≡ other_shape t (edit_of place stated wanted)
    unfolding other_shape
    shape = rw (found_size s, q, f.is, entry.kind)

    seen : not (same stated (part at (at + n) t)) ≡ changed t (edit_of place stated wanted)
    unfolding changed
    seen = rw (found_size s, f.is) (ap (λ (b : List ℕ). not (same stated b)) (sym entry.bytes))

    pub found_21 :
        (not (eqb (length stated) n) || not (eqb (length wanted) n) || not (eqb k (byte t at))) ≡ true
        → Err OtherEntry ≡ tested
    unfolding refusal_numbered
    found_21 h = told (tt {0}) (number_21 t (edit_of place stated wanted) f.exists (sym shape ∙ h))

    module _ (h : (not (eqb (length stated) n) || not (eqb (length wanted) n) || not (eqb k (byte t at))) ≡ false) where
      pub found_22 : {r : Bool} → r ≡ same stated (part at (at + n) t) → r ≡ false
          → Err Changed ≡ tested
      unfolding refusal_numbered
      found_22 e b = told (tt {0}) (number_22 t (edit_of place stated wanted) f.exists (sym shape ∙ h) (sym seen ∙ ap not (sym e ∙ b)))

      pub found_seen : {r : Bool} → r ≡ same stated (part at (at + n) t) → r ≡ true
          → Ok tt ≡ tested
      found_seen e b = told (tt {0}) (number_none t (edit_of place stated wanted) f.exists (sym shape ∙ h) (sym seen ∙ ap not (sym e ∙ b)))
