-- Demand 2: "Writing the parts of an accepted table gives its bytes again, and reading what was written gives the parts
-- again." Assumes nothing.
use Prim.Native.Nat.{ℕ, zero, suc, ◌^◌, ◌<◌, ◌≤◌}
use mathlib.Core.Path.{◌≡◌, refl, ap, sym, ◌∙◌}
use mathlib.Core.Bool.{Bool, true, false, true≢false}
use mathlib.Core.List.{List, [], ◌∷◌, append_assoc}
use native.Mathlib.Omega.{arith}
use native.Mathlib.Nat.{mod-eq_of_lt}
use lib.ListN.{length, get_or, take, drop, length-append}
use lib.Seq.{length-take-le, take-take, take-append-le}
use Rattle.mps.specs.Words.{exactly, part, put}
use Rattle.mps.specs.Layout.{header_size, base_length, extended_end, base_part, extended_part}
use Rattle.mps.specs.Judge.{table_refusal}
use Rattle.mps.specs.Writing.{Parts, parts_of, fields_of, parted, image, image_size, base_size, early_refusal, write_refusal, written, finished, write_left}
use Rattle.std.specs.Prelude.{Ok}
use Rattle.mps.specs.declared.Parted.{Parted}
use Rattle.laws.proofs.Answers.{given_ok}
use Rattle.laws.proofs.Lists.{exactly_all}
use Rattle.laws.proofs.Refusals.{first_none}
use Rattle.laws.proofs.Parts.{length_part, take_part}
use Rattle.laws.proofs.Small.{Bytes}
use Rattle.numbers.proofs.Laws.{le_below}
use Rattle.accepted.proofs.Sound.{Sound, sound}
use Rattle.accepted.proofs.Agree.{agree_refusal, agree_parts}
use Rattle.writer.proofs.Calls.{write_none}
use Rattle.laws.proofs.Lent.{left_put}
use Rattle.writer.proofs.Most.{Fits, early_fits}
use Rattle.writer.proofs.Reading.{fields_inside}
use Rattle.promises.proofs.Headers.{image_reads, image_base, image_extended, base_again, extended_again, header_again, base_sum_again, extended_sum_again}

-- Parts of the widths that their types have: what a call of the writer is given is always so.
pub record Proper (p : Parts) : Type 0 where
  pub oem : length p.fields.oem ≡ 8
  pub product : length p.fields.product ≡ 12
  pub pointer : p.fields.pointer < 2 ^ 32
  pub size : p.fields.size < 2 ^ 16
  pub apic : p.fields.apic < 2 ^ 32

module _ (p : Parts) (room : List ℕ) where
  fits_early : Fits p room → early_refusal p room ≡ 0
  fits_early f = write_none p room f.base f.extended f.whole

  left_image : early_refusal p room ≡ 0 → table_refusal (image p) ≡ 0 → write_left p room ≡ put (image p) room
  unfolding write_left finished
  left_image e f = rw (e, f, left_put (image p) room)

-- "Writing the parts of an accepted table gives its bytes again"
module _ (t : List ℕ) (b : Bytes t) (a : table_refusal t ≡ 0) where
  -- the image is the table, from its first byte to its extended end,
  pub image_again : image (parts_of t) ≡ take (extended_end t) t
  unfolding image parts_of
  image_again =
      let s = sound t a in
      rw (base_sum_again t b s, extended_sum_again t b s, ← header_again t b s, ← append_assoc (take header_size t) (base_part t) (extended_part t))
      (rw (take_part header_size (base_length t) t s.low) (take_part (base_length t) (extended_end t) t (omega arith)))

  pub parts_proper : Proper (parts_of t)
  unfolding parts_of fields_of
  parts_proper =
      let s = sound t a in
      let l = s.long in
      record {
        oem = length_part 8 16 t (omega arith);
        product = length_part 16 28 t (omega arith);
        pointer = le_below 4 t 28 b;
        size = le_below 2 t 32 b;
        apic = le_below 4 t 36 b;
      }

  -- which is accepted too,
  again_accepted : table_refusal (image (parts_of t)) ≡ 0
  again_accepted =
      let s = sound t a in
      let n = extended_end t in
      let l = length-take-le n t s.extended_inside in
      rw image_again (agree_refusal t (take n t) s (omega arith) (take-take n n t (omega arith)) ∙ a)

  -- and the call answers so in every room that holds it.
  pub written_again : (room : List ℕ) → extended_end t ≤ length room
      → (written (parts_of t) room ≡ Ok (extended_end t)) × (write_left (parts_of t) room ≡ put (take (extended_end t) t) room)
  unfolding written write_refusal
  written_again room h =
      let s = sound t a in
      let b = base_again t s in
      let x = extended_again t s in
      let n : image_size (parts_of t) ≡ extended_end t = omega arith in
      let e = fits_early (parts_of t) room (record { base = rw b s.most; extended = rw x s.extended_most; whole = rw n h }) in
      (rw (e, again_accepted, n), left_image (parts_of t) room e again_accepted ∙ rw image_again)

-- ---- The same by the calls: what `parts` and `fields` answer of a table is what `write` needs to make it again

pub calls_again : (t : List ℕ) (base end : ℕ) (room : List ℕ) → Bytes t → parted t ≡ Ok (record { base = base; end = end }) → end ≤ length room
    → let p : Parts = record { fields = fields_of (exactly header_size t); base = part header_size base t; extended = part base end t } in
    (written p room ≡ Ok end) × (write_left p room ≡ put (take end t) room)
unfolding parted parts_of
calls_again t base end room b e h =
    let k = given_ok (table_refusal t) _ (sym e) in
    let at_base : base_length t ≡ base = ap (λ (r : Parted). r.base) (sym k.1) in
    let at_end : extended_end t ≡ end = ap (λ (r : Parted). r.end) (sym k.1) in
    rw (fields_inside t (sound t k.0).long, ← at_base, ← at_end) (written_again t b k.0 room (rw at_end h))

-- The answer of a table's parts, told by them.
parted_parts : (t : List ℕ) → table_refusal t ≡ 0
    → parted t ≡ Ok (record { base = base_size (parts_of t); end = image_size (parts_of t) })
unfolding parted parts_of
parted_parts t a = let s = sound t a in rw (a, base_again t s, extended_again t s)

-- ".. and reading what was written gives the parts again": the table that stands in the room is accepted, and these are its parts.
module _ (p : Parts) (room : List ℕ) (proper : Proper p) (a : write_refusal p room ≡ 0) where
  not_refused : (early_refusal p room ≡ 0) × (table_refusal (image p) ≡ 0)
  unfolding write_refusal
  not_refused = first_none (early_refusal p room) (table_refusal (image p)) a

  left_so : write_left p room ≡ put (image p) room
  left_so = left_image p room not_refused.0 not_refused.1

  image_sound : Sound (image p)
  image_sound = sound (image p) not_refused.1

  long : extended_end (image p) ≤ length (put (image p) room)
  long = let l = image_sound.extended_inside in omega (arith, length-append (image p) (drop (length (image p)) room))

  same : take (extended_end (image p)) (put (image p) room) ≡ take (extended_end (image p)) (image p)
  same = take-append-le (extended_end (image p)) (image p) (drop (length (image p)) room) image_sound.extended_inside

  pub read_accepted : table_refusal (write_left p room) ≡ 0
  read_accepted = rw left_so (agree_refusal (image p) (put (image p) room) image_sound long same ∙ not_refused.1)

  image_fields : fields_of (image p) ≡ p.fields
  unfolding fields_of
  image_fields =
      let f = p.fields in
      let r = image_reads p in
      rw (
        r.oem ∙ exactly_all 8 f.oem proper.oem,
        r.product ∙ exactly_all 12 f.product proper.product,
        r.pointer ∙ mod-eq_of_lt proper.pointer,
        r.size ∙ mod-eq_of_lt proper.size,
        r.apic ∙ mod-eq_of_lt proper.apic,
        r.reserved,
      )

  image_parts : parts_of (image p) ≡ p
  unfolding parts_of
  image_parts =
      let f = early_fits p room not_refused.0 in
      let b : base_size p < 256 ^ 2 = let l = f.base in omega arith in
      let x : length p.extended < 256 ^ 2 = let l = f.extended in omega arith in
      rw (image_fields, image_base p b x, image_extended p b x)

  pub read_again : parts_of (write_left p room) ≡ p
  read_again = rw left_so (agree_parts (image p) (put (image p) room) image_sound long same ∙ image_parts)

  -- As the calls answer: where the entries end, and the header fields.
  pub read_parted : parted (write_left p room) ≡ Ok (record { base = base_size p; end = image_size p })
  read_parted = rw (parted_parts (write_left p room) read_accepted, read_again)

  pub read_fields : fields_of (exactly header_size (write_left p room)) ≡ p.fields
  unfolding parts_of
  read_fields =
      fields_inside (write_left p room) (sound (write_left p room) read_accepted).long
      ∙ ap (λ (q : Parts). q.fields) read_again
