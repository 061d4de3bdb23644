-- A header and its fields: what is read of a written one, and how one is written from what was read. Assumes nothing.
use Prim.Native.Nat.{ℕ, ◌+◌, ◌-◌, ◌%◌, ◌^◌, ◌≤◌, ◌<◌}
use mathlib.Core.Path.{◌≡◌, refl, sym, ap, ◌∙◌}
use mathlib.Core.List.{List, [], ◌∷◌, ◌++◌, append_assoc}
use native.Mathlib.Omega.{arith}
use lib.ListN.{length, take, drop, length-drop, length-append}
use lib.Seq.{length-take-le, take_at, take-length, take-append_seam, drop_at, drop-append_seam, drop-drop}
use Rattle.mps.specs.Words.{byte, text, exactly}
use Rattle.mps.specs.Sums.{total, sum256}
use Rattle.mps.specs.Numbers.{le, bytes}
use Rattle.mps.specs.Layout.{spec_revision, header_size, base_length, oem_id, product_of, oem_pointer, oem_size, local_apic, reserved43, extended_length}
use Rattle.mps.specs.Layout.{checksum_at, extended_checksum, entry_count, extended_end, base_bytes, base_part, extended_part, base_entries}
use Rattle.mps.specs.Writing.{Parts, parts_of, fields_of, base_size, count_of, header, image, base_sum_of, extended_sum_of}
use Rattle.laws.proofs.Lists.{length_exactly, exactly_all}
use Rattle.laws.proofs.Parts.{length_part, pieces_join, pieces_split, piece_pair, take_part}
use Rattle.laws.proofs.Rows.{row_byte}
use Rattle.laws.proofs.Small.{Bytes}
use Rattle.sums.proofs.Laws.{stored_is}
use Rattle.numbers.proofs.Laws.{length_bytes, bytes_le, piece_number}
use Rattle.accepted.proofs.Sound.{Sound}
use Rattle.writer.proofs.Laws.{length_header}

-- ---- What is read of a written header

pub record Reads (p : Parts) (s : List ℕ) : Type 0 where
  pub base : base_length s ≡ base_size p % 256 ^ 2
  pub oem : oem_id s ≡ exactly 8 p.fields.oem
  pub product : product_of s ≡ exactly 12 p.fields.product
  pub pointer : oem_pointer s ≡ p.fields.pointer % 256 ^ 4
  pub size : oem_size s ≡ p.fields.size % 256 ^ 2
  pub apic : local_apic s ≡ p.fields.apic % 256 ^ 4
  pub extended : extended_length s ≡ length p.extended % 256 ^ 2
  pub reserved : reserved43 s ≡ p.fields.reserved

pub header_reads : (p : Parts) (a b : ℕ) (s : List ℕ) → take header_size s ≡ header p a b → Reads p s
unfolding header text extended_length
header_reads p a b s e =
    let f4 = pieces_split s 0 4 40 (text "PCMP") _ refl e in
    let f6 = pieces_split s 4 2 38 (bytes 2 _) _ (length_bytes 2 _) f4.1 in
    let f8 = pieces_split s 6 2 36 (spec_revision ∷ a ∷ []) _ refl f6.1 in
    let f16 = pieces_split s 8 8 28 (exactly 8 _) _ (length_exactly 8 _) f8.1 in
    let f28 = pieces_split s 16 12 16 (exactly 12 _) _ (length_exactly 12 _) f16.1 in
    let f32 = pieces_split s 28 4 12 (bytes 4 _) _ (length_bytes 4 _) f28.1 in
    let f34 = pieces_split s 32 2 10 (bytes 2 _) _ (length_bytes 2 _) f32.1 in
    let f36 = pieces_split s 34 2 8 (bytes 2 _) _ (length_bytes 2 _) f34.1 in
    let f40 = pieces_split s 36 4 4 (bytes 4 _) _ (length_bytes 4 _) f36.1 in
    let f42 = pieces_split s 40 2 2 (bytes 2 _) _ (length_bytes 2 _) f40.1 in
    record {
      base = piece_number s 4 2 _ f6.0;
      oem = f16.0;
      product = f28.0;
      pointer = piece_number s 28 4 _ f32.0;
      size = piece_number s 32 2 _ f34.0;
      apic = piece_number s 36 4 _ f40.0;
      extended = piece_number s 40 2 _ f42.0;
      reserved = sym (row_byte 2 s 42 1 (omega arith)) ∙ rw f42.1;
    }

-- ---- What is read of a written table, where its lengths fit their fields

module _ (p : Parts) where
  pub image_reads : Reads p (image p)
  unfolding image
  image_reads =
      let h = header p (base_sum_of p) (extended_sum_of p) in
      header_reads p _ _ (image p) (take_at h (p.base ++ p.extended) header_size (length_header p _ _))

  image_behind : drop header_size (image p) ≡ p.base ++ p.extended
  unfolding image
  image_behind = drop_at (header p (base_sum_of p) (extended_sum_of p)) (p.base ++ p.extended) header_size (length_header p _ _)

  -- Its base bytes, where its length is read as it is.
  pub image_front : take (base_size p) (image p) ≡ header p (base_sum_of p) (extended_sum_of p) ++ p.base
  unfolding image
  image_front =
      let h = header p (base_sum_of p) (extended_sum_of p) in
      rw (← append_assoc h p.base p.extended)
      (take_at (h ++ p.base) p.extended (base_size p)
      (length-append h p.base ∙ ap (λ (n : ℕ). n + length p.base) (length_header p _ _)))

  module _ (base : base_size p < 256 ^ 2) (extended : length p.extended < 256 ^ 2) where
    pub image_base_length : base_length (image p) ≡ base_size p
    image_base_length = image_reads.base ∙ omega arith

    pub image_extended_length : extended_length (image p) ≡ length p.extended
    image_extended_length = image_reads.extended ∙ omega arith

    pub image_base : base_part (image p) ≡ p.base
    image_base =
        let n : base_size p - header_size ≡ length p.base = omega arith in
        rw (image_base_length, n, image_behind) (take-append_seam p.base p.extended)

    pub image_extended : extended_part (image p) ≡ p.extended
    image_extended =
        let n : base_size p + length p.extended - base_size p ≡ length p.extended = omega arith in
        rw (image_base_length, image_extended_length, n, ← drop-drop (length p.base) header_size (image p), image_behind, drop-append_seam)
        (take-length p.extended)

-- ---- The checksums

-- The base checksum counts in its place as it would before the rest.
pub header_sum : (p : Parts) (a b : ℕ) (c : List ℕ) → sum256 (header p a b ++ c) ≡ sum256 (a ∷ header p 0 b ++ c)
unfolding header text bytes sum256 total
header_sum p a b c = omega arith

-- ---- A header is written again

module _ (t : List ℕ) (s : Sound t) where
  pub base_again : base_size (parts_of t) ≡ base_length t
  unfolding parts_of
  base_again = let l = s.low in omega (arith, length_part header_size (base_length t) t s.inside)

  pub extended_again : length (parts_of t).extended ≡ extended_length t
  unfolding parts_of
  extended_again = omega (arith, length_part (base_length t) (extended_end t) t s.extended_inside)

  pub count_again : count_of (parts_of t) ≡ entry_count t
  unfolding parts_of base_entries
  count_again = s.counted

module _ (t : List ℕ) (b : Bytes t) (s : Sound t) where
  number_again : (at k n : ℕ) → at + k ≤ header_size → n ≡ le k t at → take k (drop at t) ≡ bytes k n
  number_again at k n h e = let l = s.long in rw e (sym (bytes_le k t at (omega arith) b))

  bytes_again : (at k : ℕ) → at + k ≤ header_size → take k (drop at t) ≡ exactly k (take k (drop at t))
  bytes_again at k h =
      let l = s.long in
      sym (exactly_all k (take k (drop at t)) (length-take-le k (drop at t) (omega (arith, length-drop at t))))

  pub header_again : take header_size t ≡ header (parts_of t) (byte t checksum_at) (extended_checksum t)
  unfolding header text parts_of fields_of extended_length
  header_again =
      let l = s.long in
      pieces_join t 0 4 40 (text "PCMP") _ s.signed
      (pieces_join t 4 2 38 (bytes 2 _) _ (number_again 4 2 _ (omega arith) (base_again t s))
      (pieces_join t 6 2 36 (spec_revision ∷ byte t checksum_at ∷ []) _ (piece_pair t 6 (omega arith) ∙ rw s.revised)
      (pieces_join t 8 8 28 (exactly 8 _) _ (bytes_again 8 8 (omega arith))
      (pieces_join t 16 12 16 (exactly 12 _) _ (bytes_again 16 12 (omega arith))
      (pieces_join t 28 4 12 (bytes 4 _) _ (number_again 28 4 _ (omega arith) refl)
      (pieces_join t 32 2 10 (bytes 2 _) _ (number_again 32 2 _ (omega arith) refl)
      (pieces_join t 34 2 8 (bytes 2 _) _ (number_again 34 2 _ (omega arith) (count_again t s))
      (pieces_join t 36 4 4 (bytes 4 _) _ (number_again 36 4 _ (omega arith) refl)
      (pieces_join t 40 2 2 (bytes 2 _) _ (number_again 40 2 _ (omega arith) (extended_again t s))
      (piece_pair t 42 (omega arith)))))))))))

  -- with both checksums.
  pub extended_sum_again : extended_sum_of (parts_of t) ≡ extended_checksum t
  unfolding extended_sum_of parts_of
  extended_sum_again = stored_is (extended_part t) (extended_checksum t) (b 42) s.extended_sum

  pub base_sum_again : base_sum_of (parts_of t) ≡ byte t checksum_at
  unfolding base_sum_of parts_of
  base_sum_again =
      let p = parts_of t in
      let x = byte t checksum_at in
      let e = extended_checksum t in
      let w : header p x e ++ p.base ≡ base_bytes t = rw (← header_again) (take_part header_size (base_length t) t s.low) in
      rw extended_sum_again (stored_is (header p 0 e ++ p.base) x (b checksum_at) (sym (header_sum p x e p.base) ∙ rw w s.sum))
