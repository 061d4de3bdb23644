-- The stores of an exchange: what they leave is the table with the wanted entry and the base checksum for it, and done
-- back they leave the table as it was. Assumes nothing.
use Rattle.std.proofs.Common.{◌≡◌, ℕ, zero, suc, ◌+◌, ◌-◌, ◌%◌, ◌<◌, ◌≤◌, List, length, take, drop, set, sym, refl, ap, ◌∙◌, arith, length-take-le, get_or-take, take-take, set-set, ne_eqb}
use Rattle.std.specs.Prelude.{Result, Ok, Err}
use lib.Seq.{sets, set-get_or, take-set-lt}
use Rattle.mps.specs.Words.{byte}
use Rattle.mps.specs.Sums.{sum256, to_store}
use Rattle.mps.specs.Layout.{header_size, checksum_at, id_of, base_length, base_bytes}
use Rattle.mps.specs.Judge.{table_refusal, judged}
use Rattle.mps.specs.Edits.{Edit, standing, offset_of, sealed, edited_table, inner_refusal}
use Rattle.mps.specs.declared.Sections.{Sections}
use Rattle.mps.specs.Reasons.{refusal_numbered}
use Rattle.mps.specs.declared.refusals.Refusal.{Refusal}
use Rattle.mps.specs.declared.refusals.EditRefusal.TheVariants.{Inner}
use Rattle.judge.proofs.Laws.{judged_accepted, judged_refused}
use Rattle.laws.proofs.Parts.{drop_take}
use Rattle.laws.proofs.Small.{Bytes}
use Rattle.laws.proofs.Stores.{sets_byte, take_sets, sets_set, sets_sets, sets_standing}
use Rattle.sums.proofs.Laws.{stored_sets}
use Rattle.numbers.proofs.Laws.{le_before}
use Rattle.accepted.proofs.Sound.{Sound, sound}
use Rattle.accepted.proofs.Sealed.{base_set}
use Rattle.accepted.proofs.Stands.{Stands, stands}
use Rattle.accepted.proofs.Replaced.{replaced_sound, replaced_sections, replaced_bytes, replaced_length}
use Rattle.judge.proofs.Accepted.{placed}
use Rattle.editor.specs.Tested.{Ready, exchanged_of, exchanged, exchange_left}
use Rattle.editor.specs.Amended.{Amended}

inner_some : (n : ℕ) {r : Refusal} → (n ≡ 0 → ⊥) → r ≡ refusal_numbered n → Err (Inner r) ≡ exchanged_of n
inner_some zero z q = absurd (z refl)
inner_some (suc n) z q = rw q

module _ (t : List ℕ) (p : Sections) (e : Edit) (r : Ready t p e) where
  s : Sound t
  s = sound t r.table.number

  h : Stands t e.place
  h = stands t e.place s r.shaped.place

  abbrev at : ℕ
  at = offset_of t e.place

  abbrev n : ℕ
  n = base_length t

  -- The wanted bytes are as many as the stated ones, and lie in the base, behind the checksum.
  alike : length e.wanted ≡ length e.stated
  alike = r.shaped.wanted ∙ sym r.shaped.stated

  pub inside : (checksum_at < at) × (at + length e.wanted ≤ n) × (n ≤ length t) × (header_size ≤ length t)
  inside =
      let l = h.low in
      let i : at + length e.wanted ≤ n = rw r.shaped.wanted h.inside in
      (omega arith, i, s.inside, s.long)

  -- The stated bytes stand there.
  stated_stand : take (length e.wanted) (drop at t) ≡ e.stated
  stated_stand =
      let width : at + length (standing t e.place) - at ≡ length (standing t e.place) = omega arith in
      rw r.shaped.wanted (sym (r.seen ∙ rw width at h.bytes))

  -- ---- The checksum

  abbrev stored : List ℕ
  stored = sets t at e.wanted

  base_stays : base_length (set stored checksum_at 0) ≡ n
  base_stays = base_set stored 0 ∙ le_before t at e.wanted 2 4 (omega (arith, inside.0))

  base_stored : base_bytes (set stored checksum_at 0) ≡ set (sets (take n t) at e.wanted) checksum_at 0
  base_stored =
      let i = inside in
      rw (base_stays, take-set-lt n stored 7 0 (omega (arith, i.0, i.1)), take_sets n t at e.wanted i.1)

  pub new_checksum :
      (byte t checksum_at + sum256 e.stated + to_store (sum256 e.wanted)) % 256 ≡ to_store (sum256 (base_bytes (set stored checksum_at 0)))
  new_checksum =
      let i = inside in
      let w = e.wanted in
      let base = take n t in
      let size : length base ≡ n = length-take-le n t i.2 in
      let here : byte base checksum_at ≡ byte t checksum_at = get_or-take n t checksum_at 0 (omega (arith, i.0, i.1)) in
      let there : take (length w) (drop at base) ≡ e.stated =
      ap (take (length w)) (drop_take at n t) ∙ take-take (length w) (n - at) (drop at t) (omega (arith, i.1)) ∙ stated_stand in
      rw base_stored
      (sym (rw (here, there) at
      (stored_sets base checksum_at at w (omega (arith, size, i.0, i.1)) (sets_byte base at w checksum_at i.0)
      (omega (arith, size, i.1)) s.sum)))

  -- ---- The stores

  module _ {u : List ℕ} {o new : ℕ} (a : o ≡ at) (c : new ≡ (byte t checksum_at + sum256 e.stated + to_store (sum256 e.wanted)) % 256)
      (f : u ≡ set (sets t o e.wanted) checksum_at new) where
    -- The wanted entry and the checksum for it make the edited table.
    put_in : u ≡ edited_table t e
    unfolding edited_table sealed
    put_in = f ∙ rw (a, c, new_checksum)

    pub kept_length : length u ≡ length t
    kept_length = rw put_in (replaced_length t e s r.shaped)

    pub left_long : header_size ≤ length u
    left_long = rw (put_in, replaced_length t e s r.shaped) s.long

    -- What the second judging may use.
    pub amended : Bytes t → Bytes e.wanted → {id : ℕ} → id ≡ byte e.stated 1 → Amended u p o id
    amended b w q =
        let again = replaced_sound t e s r.shaped in
        let small = replaced_bytes t e s r.shaped b w in
        record {
          was = t;
          edit = e;
          accepted = r.table.number;
          shaped = r.shaped;
          is = put_in;
          here = a;
          gone = q ∙ ap id_of r.seen;
          placed =
              rw (put_in, r.table.places, ← replaced_sections t e s r.shaped)
              (placed (edited_table t e) small again.low again.extended_inside again.walked again.extended_walked);
        }

    -- The stated entry and the old checksum are put back.
    put_back : set (sets u o e.stated) checksum_at (byte t checksum_at) ≡ t
    put_back =
        let old = byte t 7 in
        let l = inside.0 in
        rw (f, a, sets_set (set stored 7 new) 7 old at e.stated l, set-set stored 7 new old, sets_set t 7 old at e.wanted l, set-get_or t 7 0)
        (sets_sets t at e.wanted e.stated alike
        ∙ sets_standing t at e.stated (omega (arith, inside, alike)) (rw alike at stated_stand))

    module _ {again : Result (Unit {0}) Refusal} (k : again ≡ judged u) where
      is_number : inner_refusal t e ≡ table_refusal u
      unfolding inner_refusal
      is_number = sym (ap table_refusal put_in)

      pub exchange_done : {x : Unit {0}} → again ≡ Ok x → (Ok tt ≡ exchanged t e) × (u ≡ exchange_left t e)
      unfolding exchanged exchange_left
      exchange_done q = let z = judged_accepted u k q in (rw (is_number, z), rw (is_number, z) put_in)

      pub exchange_refused : {r : Refusal} → again ≡ Err r → {v : List ℕ} → v ≡ set (sets u o e.stated) checksum_at (byte t checksum_at)
          → (Err (Inner r) ≡ exchanged t e) × (v ≡ exchange_left t e)
      unfolding exchanged exchange_left
      exchange_refused q w =
          let g = judged_refused u k q in
          (rw is_number (inner_some (table_refusal u) g.0 g.1), rw (is_number, ne_eqb (table_refusal u) 0 g.0) (w ∙ put_back))
