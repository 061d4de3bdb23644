-- The full listing: what is made and listed of a default, and what the call answers and leaves. Assumes nothing.
use Prim.Native.Nat.{ℕ, ◌≤◌}
use mathlib.Core.Path.{◌≡◌, refl, sym, ◌∙◌}
use mathlib.Core.Bool.{true, false, cond}
use mathlib.Core.List.{List, [], ◌∷◌, ◌++◌, append_assoc}
use native.Mathlib.Omega.{arith}
use lib.ListN.{length, take, replicate, length-replicate}
use Rattle.mps.specs.Words.{among, each, first, part}
use Rattle.mps.specs.Refusals.{Rule, ◌when◌, refusal, room_number, default_number}
use Rattle.mps.specs.Rooms.{too_small, room_rules, lent_refusal, fitted_bytes, fit_left}
use Rattle.mps.specs.Dump.{sound_dump}
use Rattle.mps.specs.Pointer.{pointer, is_default, imcr_of}
use Rattle.mps.specs.Judge.{pointer_rules, table_rules, dump_rules, dump_refusal, table_refusal, held}
use Rattle.mps.specs.Listing.{listing, list_refusal, listed, list_left}
use Rattle.mps.specs.Defaults.{default_table, made, make_left, default_of, wrong_boot, full_listing, full_rules, full_refusal, full_listed, full_left}
use Rattle.mps.specs.declared.Held.TheVariants.{Default}
use Rattle.std.specs.Prelude.{Result, Ok, Err}
use Rattle.mps.specs.Reasons.{refusal_numbered}
use Rattle.mps.specs.declared.refusals.Refusal.{Refusal}
use Rattle.laws.proofs.Answers.{answered_err}
use Rattle.laws.proofs.Tests.{whether}
use Rattle.laws.proofs.Refusals.{number, first_some, first_none, refusal_append, refusal_pass, row_passed}
use Rattle.laws.proofs.Lent.{lent_early, lent_none, left_kept}
use Rattle.dump.proofs.Laws.{Pointed, held_none, held_default, passed_sound}
use Rattle.defaults.proofs.Laws.{there_accepted}
use Rattle.defaults.proofs.Calls.{there_is, offer_none, offer_fits, made_refused, made_counted}
use Rattle.accepted.proofs.Sound.{sound}
use Rattle.defaults.specs.Offered.{offer_refusal, offered, offer_left}
use Rattle.listing.specs.Texts.{table_text}
use Rattle.listing.proofs.Laws.{dump_given, list_written, table_text_lem}
use Rattle.listing.proofs.Longest.{listing_most, table_longest}

-- ---- A default's table, made and listed

-- What making it answers, in a room that holds every table.
pub list_unmade : (w : List ℕ) (n boot : ℕ) (room : List ℕ) {r : Refusal} → Err r ≡ made n boot (replicate 252 0)
    → (Err r ≡ offered w n boot room) × (room ≡ offer_left w n boot room)
list_unmade w n boot room e =
    let q = made_refused n boot (replicate 252 0) (omega (arith, length-replicate {A = ℕ} 252 0)) e in
    rw q.0 (offer_none w n boot room q.1)

module _ (n boot : ℕ) {k : ℕ} {u : List ℕ} (e : Ok k ≡ made n boot (replicate 252 0)) (v : u ≡ make_left n boot (replicate 252 0)) where
  pub made_inside : k ≤ length u
  made_inside = (made_counted n boot (replicate 252 0) e v).1

  pub made_accepted : table_refusal (take k u) ≡ 0
  made_accepted = let c = made_counted n boot (replicate 252 0) e v in rw c.2 (there_accepted c.0)

  pub list_made_lem :
      (pointer imcr : ℕ) (room : List ℕ) {r : Result ℕ Refusal} {x : List ℕ} → let w = table_text pointer imcr 0 (take k u) in
      (r ≡ fitted_bytes w room) × (x ≡ fit_left w room)
      → let t = table_text pointer imcr 0 (default_table n boot) in (r ≡ offered t n boot room) × (x ≡ offer_left t n boot room)
  list_made_lem pointer imcr room q =
      let c = made_counted n boot (replicate 252 0) e v in
      let g = rw c.2 at q in
      let s = offer_fits (table_text pointer imcr 0 (default_table n boot)) n boot room c.0 in
      (g.0 ∙ s.0, g.1 ∙ s.1)

-- ---- The dump's number, 30 and the room's

abbrev boot_rules : List ℕ → ℕ → List Rule
boot_rules d boot = default_number when wrong_boot d boot ∷ []

full_number : (d : List ℕ) (boot : ℕ) → refusal (full_rules d boot) ≡ first (dump_refusal d) (refusal (boot_rules d boot))
unfolding full_rules dump_refusal
full_number d boot = refusal_append (dump_rules d) (boot_rules d boot) (dump_given d).0

pub full_given : (d : List ℕ) (boot : ℕ) → among 0 (each number (full_rules d boot)) ≡ false
unfolding full_rules dump_rules pointer_rules table_rules among each
full_given d boot = whether (is_default d) (λ t. rw t refl) (λ f. rw f refl)

module _ (d : List ℕ) (boot : ℕ) (room : List ℕ) where
  pub full_refused :
      {r : Refusal} → (dump_refusal d ≡ 0 → ⊥) → r ≡ refusal_numbered (dump_refusal d)
      → (Err r ≡ full_listed d boot room) × (room ≡ full_left d boot room)
  unfolding full_listed full_left full_refusal
  full_refused z q =
      let n = dump_refusal d in
      let k : full_refusal d boot room ≡ n = lent_early (full_rules d boot) (full_given d boot) _ (full_number d boot ∙ first_some n _ z) z in
      (rw k (answered_err n _ z q), rw k (sym (left_kept n _ room z)))

-- Of a dump that is accepted.
module _ (d : List ℕ) (boot : ℕ) (room : List ℕ) (e : dump_refusal d ≡ 0) where
  -- A default: what is made and listed goes into the room, or 30.
  module _ {p n b : ℕ} (t : is_default d ≡ true) (f : n ≡ default_of d) (g : b ≡ imcr_of d) (h : p ≡ (pointer d).address) where
    text_is : table_text p b 0 (default_table n boot) ≡ full_listing d boot
    unfolding full_listing table_text
    text_is = rw (t, f, g, h)

    refusal_is : offer_refusal (table_text p b 0 (default_table n boot)) n boot room ≡ full_refusal d boot room
    unfolding offer_refusal full_refusal full_rules lent_refusal room_rules wrong_boot dump_refusal
    refusal_is =
        let small = room_number when too_small (length (full_listing d boot)) room ∷ [] in
        let a = append_assoc (dump_rules d) (boot_rules d boot) small in
        let q = refusal_append (dump_rules d) (boot_rules d boot ++ small) (dump_given d).0 in
        rw (text_is, a, q, e, t, ← f)

    pub full_made :
        {r : Result ℕ Refusal} {u : List ℕ} → let w = table_text p b 0 (default_table n boot) in
        (r ≡ offered w n boot room) × (u ≡ offer_left w n boot room) → (r ≡ full_listed d boot room) × (u ≡ full_left d boot room)
    unfolding offered offer_left full_listed full_left
    full_made q = (rw (refusal_is, text_is) at q.0, rw (refusal_is, text_is) at q.1)

-- Where the finder says that its pointer stands, it does.
accepted_pointer : (d : List ℕ) → dump_refusal d ≡ 0 → cond (sound_dump d) (pointer d).address 0 ≡ (pointer d).address
accepted_pointer d e = rw (passed_sound d (held_none d e))

pub full_default :
    (d : List ℕ) (boot : ℕ) (room : List ℕ) {p n b : ℕ} → Ok (Default n b) ≡ held d → p ≡ cond (sound_dump d) (pointer d).address 0
    → {r : Result ℕ Refusal} {u : List ℕ} → let w = table_text p b 0 (default_table n boot) in
    (r ≡ offered w n boot room) × (u ≡ offer_left w n boot room) → (r ≡ full_listed d boot room) × (u ≡ full_left d boot room)
full_default d boot room {n = n} {b = b} e f q =
    let h = held_default d n b (sym e) in
    full_made d boot room h.0 h.1 h.2 h.3 (f ∙ accepted_pointer d h.0) q

-- "a listing tests it only for a default": of a dump with a table the full listing is the listing, whatever boot processor is said.
module _ (d : List ℕ) (boot : ℕ) (room : List ℕ) (f : is_default d ≡ false) where
  same_listing : full_listing d boot ≡ listing d
  unfolding full_listing
  same_listing = rw f

  same_number : full_refusal d boot room ≡ list_refusal d room
  unfolding full_refusal list_refusal lent_refusal room_rules full_rules wrong_boot
  same_number = rw (f, same_listing) (row_passed default_number (dump_rules d) (room_number when too_small (length (listing d)) room ∷ []))

  pub full_same : (full_listed d boot room ≡ listed d room) × (full_left d boot room ≡ list_left d room)
  unfolding full_listed full_left listed list_left
  full_same = (rw (same_number, same_listing), rw (same_number, same_listing))

pub full_written :
    (d : List ℕ) (boot : ℕ) (room : List ℕ) → dump_refusal d ≡ 0 → {p b a s f : ℕ} → Pointed d p b a s f → {r : Result ℕ Refusal} {u : List ℕ}
    → let w = table_text p b a (part s f d) in
    (r ≡ fitted_bytes w room) × (u ≡ fit_left w room) → (r ≡ full_listed d boot room) × (u ≡ full_left d boot room)
full_written d boot room e h q =
    let s = list_written d room e (table_text_lem d h) q in
    let t = full_same d boot room h.table in
    (s.0 ∙ sym t.0, s.1 ∙ sym t.1)

-- ---- A room of 65,536 bytes holds every full listing

pub full_none : (d : List ℕ) (boot : ℕ) (room : List ℕ) → full_refusal d boot room ≡ 0 → (dump_refusal d ≡ 0) × (wrong_boot d boot ≡ false)
unfolding full_refusal
full_none d boot room e =
    let n = lent_none (full_rules d boot) (full_given d boot) _ e in
    let f = first_none (dump_refusal d) _ (sym (full_number d boot) ∙ n.0) in
    (f.0, (refusal_pass default_number (wrong_boot d boot) [] (omega arith) f.1).0)

pub full_most : (d : List ℕ) (boot : ℕ) → dump_refusal d ≡ 0 → wrong_boot d boot ≡ false → length (full_listing d boot) ≤ 65536
unfolding full_listing table_text wrong_boot
full_most d boot e w =
    let n = default_of d in
    whether (is_default d)
    (λ t.
    let a = there_accepted (there_is n boot (rw t at w)) in
    let s = sound (default_table n boot) a in
    rw t (omega (arith, table_longest (default_table n boot) a (pointer d).address (imcr_of d) 0, s.most, s.extended_most)))
    (λ f. rw f (listing_most d e))
