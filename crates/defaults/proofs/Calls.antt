-- What the call answers, and what it leaves. Assumes nothing.
use Prim.Native.Nat.{ℕ, ◌≤◌, ◌<◌}
use mathlib.Core.Path.{◌≡◌, refl, sym, ap, ◌∙◌}
use mathlib.Core.Bool.{true, false, not, or-true}
use mathlib.Core.List.{List, [], ◌++◌}
use native.Mathlib.Omega.{arith}
use lib.ListN.{length, take, drop, replicate, length-append, length-replicate}
use lib.Dec.{leb, ltb}
use lib.Seq.{sets, take_at, length-sets}
use borrow.Author.Tests.{lt-ltb, le-ltb, le-leb, lt-leb, ltb-true, ltb-false, leb-true, not-false}
use Rattle.mps.specs.Words.{among, each, within, put}
use Rattle.mps.specs.Refusals.{refusal, default_number}
use Rattle.mps.specs.Rooms.{too_small, lent_left, room_refusal, fitted, fitted_bytes, fit_left}
use Rattle.mps.specs.Layout.{part_most, default_most, boot_most}
use Rattle.mps.specs.Writing.{base_size, image_size, written, write_left}
use Rattle.mps.specs.Defaults.{default_fields, default_parts, default_table, no_default, make_refusal, made, make_left}
use Rattle.mps.specs.declared.Fields.{Fields}
use Rattle.std.specs.Prelude.{Result, Ok, Err}
use Rattle.mps.specs.Reasons.{refusal_numbered}
use Rattle.mps.specs.declared.refusals.Refusal.{Refusal}
use Rattle.mps.specs.declared.refusals.Refusal.TheVariants.{NoDefault}
use Rattle.laws.proofs.Answers.{answered_ok, given_ok, given_err}
use Rattle.laws.proofs.Tests.{whether, and_parts, or_parts}
use Rattle.laws.proofs.Refusals.{refusal_pass}
use Rattle.laws.proofs.Lent.{lent_early, lent_none, left_kept, left_put, fits, fit_put, fit_short, fit_late}
use Rattle.laws.proofs.Stores.{sets_at_start}
use Rattle.writer.specs.Laid.{parts_given}
use Rattle.writer.proofs.Laws.{length_image}
use Rattle.writer.proofs.Calls.{write_room, write_done}
use Rattle.defaults.specs.Offered.{offer_rules, offer_refusal, offered, offer_left}
use Rattle.defaults.specs.Laid.{laid}
use Rattle.defaults.proofs.Laws.{There, there_accepted, there_most, laid_is}

-- ---- Which there are

pub no_zero : (n boot : ℕ) → n ≡ 0 → no_default n boot ≡ true
unfolding no_default
no_zero n boot e = rw e

pub no_more : (n boot : ℕ) → default_most < n → no_default n boot ≡ true
unfolding no_default
no_more n boot h = rw (le-leb 1 n (omega (arith, h)), lt-leb n default_most h)

pub no_boot : (n boot : ℕ) → boot_most < boot → no_default n boot ≡ true
unfolding no_default
no_boot n boot h = rw (lt-ltb boot_most boot h) (or-true (not (within 1 default_most n)))

pub there_none : {n boot : ℕ} → There n boot → no_default n boot ≡ false
unfolding no_default
there_none {n} {boot} h = rw (le-leb 1 n (omega (arith, h.some)), le-leb n default_most h.most, le-ltb boot_most boot h.boots)

pub there_is : (n boot : ℕ) → no_default n boot ≡ false → There n boot
unfolding no_default
there_is n boot e =
    let p = or_parts (not (within 1 default_most n)) _ e in
    let w = and_parts (leb 1 n) (leb n default_most) (not-false _ p.0) in
    record { some = omega (arith, leb-true 1 n w.0); most = leb-true n default_most w.1; boots = ltb-false boot_most boot p.1 }

-- ---- An answer for one of them, whatever it is

module _ (answer : List ℕ) (n boot : ℕ) (room : List ℕ) where
  offer_thirty : no_default n boot ≡ true → offer_refusal answer n boot room ≡ default_number
  unfolding offer_refusal refusal among each
  offer_thirty e = lent_early (offer_rules n boot) refl (too_small (length answer) room) (rw e) (λ q. omega (arith, q))

  pub offer_none : no_default n boot ≡ true → (Err NoDefault ≡ offered answer n boot room) × (room ≡ offer_left answer n boot room)
  unfolding offered offer_left refusal_numbered
  offer_none e =
      let z : default_number ≡ 0 → ⊥ = λ q. omega (arith, q) in
      let k = offer_thirty e in
      (rw k, rw k (sym (left_kept 30 answer room z)))

  by_room : There n boot → offer_refusal answer n boot room ≡ room_refusal answer room
  unfolding offer_refusal refusal among each
  by_room h = fit_late (offer_rules n boot) refl answer room (rw (there_none h))

  -- It goes into the room as any answer does.
  pub offer_fits : There n boot → (fitted_bytes answer room ≡ offered answer n boot room) × (fit_left answer room ≡ offer_left answer n boot room)
  unfolding fitted fit_left offered offer_left
  offer_fits h = let k = by_room h in (rw k, rw k)

-- ---- The table is such an answer

module _ (n boot : ℕ) (room : List ℕ) where
  made_offered : (offered (default_table n boot) n boot room ≡ made n boot room) × (offer_left (default_table n boot) n boot room ≡ make_left n boot room)
  unfolding made make_left make_refusal offered offer_left offer_refusal
  made_offered = (refl, refl)

  pub none_made : no_default n boot ≡ true → (Err NoDefault ≡ made n boot room) × (room ≡ make_left n boot room)
  none_made e =
      let f = offer_none (default_table n boot) n boot room e in
      let g = made_offered in
      (f.0 ∙ g.0, f.1 ∙ g.1)

-- ---- Of one that there is it is what the writer makes

module _ {n boot : ℕ} (h : There n boot) (room : List ℕ) where
  pub make_fits : (fitted_bytes (default_table n boot) room ≡ made n boot room) × (fit_left (default_table n boot) room ≡ make_left n boot room)
  make_fits =
      let f = offer_fits (default_table n boot) n boot room h in
      let g = made_offered n boot room in
      (f.0 ∙ g.0, f.1 ∙ g.1)

  pub written_made : (written (default_parts n boot) room ≡ made n boot room) × (write_left (default_parts n boot) room ≡ make_left n boot room)
  unfolding default_table default_parts
  written_made =
      let p = default_parts n boot in
      let t = default_table n boot in
      let size : length t ≡ image_size p = length_image p in
      let most = there_most h in
      let b : base_size p ≤ part_most = omega (arith, size, most) in
      let x : length p.extended ≤ part_most = omega arith in
      let f = make_fits in
      whether (ltb (length room) (length t))
      (λ q.
      let l = ltb-true _ _ q in
      let w = write_room p room b x (rw size at l) in
      let s = fit_short t (length t) room l in
      (sym w.0 ∙ s.0 ∙ f.0, sym w.1 ∙ s.1 ∙ f.1))
      (λ q.
      let l = ltb-false _ _ q in
      let w = write_done p room b x (rw size at l) (answered_ok _ tt (there_accepted h)) refl refl in
      let s = fit_put t (length t) room refl l refl in (
        sym w.0 ∙ ap Ok (sym size) ∙ s.0 ∙ f.0,
        sym w.1 ∙ ap (λ (k : ℕ). t ++ drop k room) (sym size) ∙ sym (sets_at_start room t l) ∙ s.1 ∙ f.1,
      ))

  laid_fits : length (laid n boot) ≤ 208
  unfolding default_table default_parts
  laid_fits =
      let p = default_parts n boot in
      omega (arith, ap length (laid_is h), length_image p, there_most h)

  pub laid_inside : {size : ℕ} {v : List ℕ} → size ≡ length (laid n boot) → v ≡ sets (replicate 208 0) 0 (laid n boot) → size ≤ length v
  laid_inside s w =
      omega (arith, s, ap length w, length-sets (replicate 208 0) 0 (laid n boot), length-replicate {A = ℕ} 208 0, laid_fits)

  parts_are : parts_given default_fields (default_parts n boot).base [] ≡ default_parts n boot
  unfolding default_parts
  parts_are = refl

  -- What the writer is handed, and makes of it.
  pub make_written :
      {size : ℕ} {v : List ℕ} {fields : Fields} {base extended : List ℕ} {r : Result ℕ Refusal} {u : List ℕ}
      → size ≡ length (laid n boot) → v ≡ sets (replicate 208 0) 0 (laid n boot) → fields ≡ default_fields
      → base ≡ take size v → extended ≡ []
      → (r ≡ written (parts_given fields base extended) room) × (u ≡ write_left (parts_given fields base extended) room)
      → (r ≡ made n boot room) × (u ≡ make_left n boot room)
  make_written {base = base} s w f b x q =
      let l = laid n boot in
      let e : base ≡ (default_parts n boot).base =
      b ∙ rw (s, w) (ap (take (length l)) (sets_at_start (replicate 208 0) l (rw (length-replicate {A = ℕ} 208 0) laid_fits)) ∙ take_at l _ (length l) refl)
      ∙ laid_is h in
      let g = rw (f, e, x, parts_are) at q in
      (g.0 ∙ written_made.0, g.1 ∙ written_made.1)

-- ---- What an answer tells

pub made_there : (n boot : ℕ) (room : List ℕ) → make_refusal n boot room ≡ 0 → There n boot
unfolding make_refusal refusal among each
made_there n boot room e =
    let p = lent_none (offer_rules n boot) refl (too_small (length (default_table n boot)) room) e in
    there_is n boot (refusal_pass default_number (no_default n boot) [] (omega arith) p.0).0

pub make_most : (n boot : ℕ) (room : List ℕ) → make_refusal n boot room ≡ 0 → length (default_table n boot) ≤ 252
make_most n boot room e = there_most (made_there n boot room e)

-- In a room that holds every one, nothing but 30 is refused;
pub made_refused : (n boot : ℕ) (room : List ℕ) {r : Refusal} → 252 ≤ length room → Err r ≡ made n boot room → (r ≡ NoDefault) × (no_default n boot ≡ true)
unfolding made make_refusal offer_refusal refusal_numbered
made_refused n boot room h e =
    let t = default_table n boot in
    let g = given_err (make_refusal n boot room) _ e in
    whether (no_default n boot)
    (λ q. (g.1 ∙ ap refusal_numbered (offer_thirty t n boot room q), q))
    (λ f.
    let there = there_is n boot f in
    let none = by_room t n boot room there ∙ fits t room (omega (arith, there_most there, h)) in
    absurd (g.0 none))

-- and what is counted is the table.
pub made_counted :
    (n boot : ℕ) (room : List ℕ) {k : ℕ} {u : List ℕ} → Ok k ≡ made n boot room → u ≡ make_left n boot room
    → There n boot × (k ≤ length u) × (take k u ≡ default_table n boot)
unfolding made make_left
made_counted n boot room {k} {u} e w =
    let t = default_table n boot in
    let g = given_ok (make_refusal n boot room) _ e in
    let u-is : u ≡ put t room = w ∙ ap (λ (m : ℕ). lent_left m t room) g.0 ∙ left_put t room in (
      made_there n boot room g.0,
      omega (arith, ap length u-is, length-append t (drop (length t) room), g.1),
      ap (take k) u-is ∙ take_at t (drop (length t) room) k (sym g.1),
    )
