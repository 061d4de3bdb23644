-- A sound table in which one entry has been replaced by one of its length and type: what stays, and what does not. Assumes
-- nothing.
use Prim.Native.Nat.{ℕ, zero, suc, ◌+◌, ◌≤◌, ◌<◌}
use mathlib.Core.Path.{◌≡◌, refl, ◌∙◌}
use mathlib.Core.List.{List, [], ◌∷◌}
use native.Mathlib.Omega.{arith}
use lib.ListN.{length, get_or, drop, set, length-set}
use lib.Seq.{sets, length-sets}
use lib.Dec.{eqb}
use Rattle.mps.specs.Words.{byte, part, keep, each}
use Rattle.mps.specs.Sums.{total, sum256}
use Rattle.mps.specs.Numbers.{le}
use Rattle.mps.specs.Layout.{Entry, type, of_type, processor_type, header_size, signature, checksum_at, base_entry_length, base_length, base_bytes, entry_count, extended_end, extended_length, base_part, extended_part, base_entries, extended_entries}
use Rattle.mps.specs.Table.{entry_fault, walk_from}
use Rattle.mps.specs.Sections.{span, base_after, extended_after, sections}
use Rattle.mps.specs.Writing.{fields_of}
use Rattle.mps.specs.Edits.{Edit, standing, before, offset_of, edited_table}
use Rattle.laws.proofs.Tests.{whether}
use Rattle.laws.proofs.Small.{Bytes, bytes_sets}
use Rattle.laws.proofs.Stores.{sets_take, sets_drop, sets_byte, sets_part, part_sets}
use Rattle.numbers.proofs.Laws.{le_before}
use Rattle.accepted.proofs.Fields.{fields_by}
use Rattle.accepted.proofs.Sound.{Sound}
use Rattle.accepted.proofs.Pieces.{piece_set, base_told, walked_whole}
use Rattle.accepted.proofs.Stands.{Stands, stands}
use Rattle.accepted.proofs.Shaped.{Shaped}
use Rattle.accepted.proofs.Sealed.{sealed_length, sealed_byte, sealed_take, sealed_drop, sealed_part, sealed_le, sealed_base, sealed_sum, sealed_bytes}

-- The walk asks for an entry's length and type alone.
fault_alike : (last : ℕ) (e w : Entry) → length w ≡ length e → type w ≡ type e → entry_fault last w ≡ entry_fault last e
unfolding entry_fault base_entry_length
fault_alike last e w l k = rw (l, k)

walk_set : (last : ℕ) (es : List Entry) (k : ℕ) (w : Entry) → length w ≡ length (get_or es k []) → type w ≡ type (get_or es k [])
    → walk_from last (set es k w) ≡ walk_from last es
unfolding walk_from
walk_set last [] k w l h = refl
walk_set last (e ∷ es) zero w l h = rw (fault_alike last e w l h, h)
walk_set last (e ∷ es) (suc k) w l h = rw (walk_set (type e) es k w l h)

-- So do the bytes that entries of a type take, and those of some types.
module _ (w : Entry) where
  taken_set : (n : ℕ) (es : List Entry) (k : ℕ) → length w ≡ length (get_or es k []) → type w ≡ type (get_or es k [])
      → total (each length (keep (of_type n) (set es k w))) ≡ total (each length (keep (of_type n) es))
  unfolding total each keep
  taken_set n [] k l h = refl
  taken_set n (e ∷ es) zero l h = whether (eqb (type e) n) (λ t. rw (h, t, l)) (λ f. rw (h, f))
  taken_set n (e ∷ es) (suc k) l h =
      whether (eqb (type e) n) (λ t. rw (t, keep, taken_set n es k l h)) (λ f. rw (f, keep) (taken_set n es k l h))

  span_set : (es : List Entry) (k : ℕ) → length w ≡ length (get_or es k []) → type w ≡ type (get_or es k [])
      → (first n : ℕ) → span first n (set es k w) ≡ span first n es
  unfolding span
  span_set es k l h first zero = refl
  span_set es k l h first (suc n) = rw (span_set es k l h first n, taken_set (first + n) es k l h)

module _ (t : List ℕ) (e : Edit) (s : Sound t) (h : Shaped t e) where
  abbrev at : ℕ
  at = offset_of t e.place

  -- The wanted bytes in the entry's stead, the checksum as it was.
  abbrev stored : List ℕ
  stored = sets t at e.wanted

  there : Stands t e.place
  there = stands t e.place s h.place

  pub replaced_length : length (edited_table t e) ≡ length t
  unfolding edited_table
  replaced_length = sealed_length stored ∙ length-sets t at e.wanted

  -- "alters no byte outside that entry and the base checksum": before it, and behind it.
  pub replaced_before : (i : ℕ) → (i ≡ checksum_at → ⊥) → i < offset_of t e.place → byte (edited_table t e) i ≡ byte t i
  unfolding edited_table
  replaced_before i n b = sealed_byte stored i n ∙ sets_byte t at e.wanted i b

  pub replaced_behind : (n : ℕ) → offset_of t e.place + length (standing t e.place) ≤ n → drop n (edited_table t e) ≡ drop n t
  unfolding edited_table
  replaced_behind n b =
      sealed_drop stored n (omega (arith, there.low, b)) ∙ sets_drop t at e.wanted n (omega (arith, h.wanted, b))

  -- The header's numbers and parts behind the checksum.
  header_le : (k i : ℕ) → checksum_at < i → i + k ≤ header_size → le k (edited_table t e) i ≡ le k t i
  unfolding edited_table
  header_le k i b c = sealed_le stored k i b ∙ le_before t at e.wanted k i (omega (arith, there.low, c))

  header_part : (m n : ℕ) → checksum_at < m → n ≤ header_size → part m n (edited_table t e) ≡ part m n t
  unfolding edited_table
  header_part m n b c = sealed_part stored m n b ∙ sets_part t at e.wanted m n (omega (arith, there.low, c))

  header_byte : (i : ℕ) → (i ≡ checksum_at → ⊥) → i < header_size → byte (edited_table t e) i ≡ byte t i
  header_byte i n b = replaced_before i n (omega (arith, there.low, b))

  pub replaced_base : base_length (edited_table t e) ≡ base_length t
  unfolding edited_table
  replaced_base = sealed_base stored ∙ le_before t at e.wanted 2 4 (omega (arith, there.low))

  replaced_extended_length : extended_length (edited_table t e) ≡ extended_length t
  unfolding extended_length
  replaced_extended_length = header_le 2 40 (omega arith) (omega arith)

  pub replaced_end : extended_end (edited_table t e) ≡ extended_end t
  replaced_end = rw (replaced_base, replaced_extended_length)

  pub replaced_count : entry_count (edited_table t e) ≡ entry_count t
  replaced_count = header_le 2 34 (omega arith) (omega arith)

  pub replaced_fields : fields_of (edited_table t e) ≡ fields_of t
  replaced_fields = fields_by t (edited_table t e) (header_part 8 header_size (omega arith) (omega arith))

  pub replaced_extended : extended_part (edited_table t e) ≡ extended_part t
  replaced_extended = rw (replaced_base, replaced_extended_length, replaced_behind (base_length t) there.inside)

  -- The base entries' bytes are those that stood there, with the wanted ones stored.
  part_stored : base_part (edited_table t e) ≡ sets (base_part t) (before e.place (base_entries t)) e.wanted
  unfolding edited_table offset_of
  part_stored =
      rw replaced_base
      (sealed_part stored header_size (base_length t) (omega arith)
      ∙ part_sets header_size (base_length t) t (before e.place (base_entries t)) e.wanted (omega (arith, there.inside, h.wanted)))

  pub replaced_entries : base_entries (edited_table t e) ≡ set (base_entries t) e.place e.wanted
  unfolding base_entries standing
  replaced_entries =
      rw part_stored
      (piece_set base_entry_length base_told (base_part t) e.place e.wanted
      (walked_whole 0 _ s.walked) (omega (arith, s.counted, h.place)) h.wanted h.kind)

  replaced_signature : signature (edited_table t e) ≡ signature t
  unfolding edited_table
  replaced_signature = sealed_take stored 4 (omega arith) ∙ sets_take t at e.wanted 4 (omega (arith, there.low))

  replaced_sum : sum256 (base_bytes (edited_table t e)) ≡ 0
  unfolding edited_table
  replaced_sum =
      let b = le_before t at e.wanted 2 4 (omega (arith, there.low)) in
      sealed_sum stored (rw b (omega (arith, s.low))) (rw (b, length-sets t at e.wanted) s.inside)

  replaced_walk : walk_from 0 (base_entries (edited_table t e)) ≡ walk_from 0 (base_entries t)
  unfolding standing
  replaced_walk = rw replaced_entries (walk_set 0 (base_entries t) e.place e.wanted h.wanted h.kind)

  pub replaced_extended_entries : extended_entries (edited_table t e) ≡ extended_entries t
  unfolding extended_entries
  replaced_extended_entries = rw replaced_extended

  -- 5 to 13 are passed again, so that "the inner number" is of 14 to 18.
  pub replaced_sound : Sound (edited_table t e)
  replaced_sound = record {
    long = rw replaced_length s.long;
    signed = replaced_signature ∙ s.signed;
    low = rw replaced_base s.low;
    most = rw replaced_base s.most;
    inside = rw (replaced_base, replaced_length) s.inside;
    sum = replaced_sum;
    revised = header_byte 6 (λ n. omega arith) (omega arith) ∙ s.revised;
    walked = replaced_walk ∙ s.walked;
    counted = rw (replaced_entries, replaced_count) (length-set (base_entries t) e.place e.wanted ∙ s.counted);
    extended_most = rw replaced_extended_length s.extended_most;
    extended_inside = rw (replaced_end, replaced_length) s.extended_inside;
    extended_sum = rw (replaced_extended, header_byte 42 (λ n. omega arith) (omega arith)) s.extended_sum;
    extended_walked = rw replaced_extended_entries s.extended_walked;
  }

  -- The entries of each type stand where they stood.
  pub replaced_sections : sections (edited_table t e) ≡ sections t
  unfolding sections base_after extended_after standing
  replaced_sections =
      let after = span_set e.wanted (base_entries t) e.place h.wanted h.kind processor_type in
      rw (replaced_entries, after 1, after 2, after 3, after 4, replaced_base, replaced_extended_length, replaced_extended_entries)

  pub replaced_bytes : Bytes t → Bytes e.wanted → Bytes (edited_table t e)
  unfolding edited_table
  replaced_bytes b w = sealed_bytes stored (bytes_sets t at e.wanted b w)
