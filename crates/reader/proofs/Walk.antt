-- The reader at any place of any bytes (`Stays`, `Gives`), and what it hands out of an accepted table (`Reads`). In a buffer
-- under 44 bytes, below 44, and at or past the ends, no entry is given and the place stays. In the base part and in the
-- extended part an entry is given exactly when document 01's words hold of the bytes there (`given-`), and it is those
-- bytes; else the place stays (`stays-`). Of an accepted table the reader hands out the base entries and then the extended
-- entries, all of them in order. Assumes nothing.
use Prim.Native.Nat.{ℕ, zero, suc, ◌+◌, ◌≤◌, ◌<◌, ◌-◌}
use mathlib.Core.Path.{◌≡◌, refl, sym, ◌∙◌}
use mathlib.Core.Bool.{false, not, and-false}
use mathlib.Core.List.{List, [], ◌∷◌, ◌++◌}
use native.Mathlib.Omega.{arith}
use lib.ListN.{length, take, drop, get_or, length-take, get_or-eq_default}
use lib.Dec.{ltb, eqb}
use lib.Seq.{take-take, get_or-take}
use borrow.Author.Tests.{ltb-true, ltb-false, eqb-true, not-false, le-leb, lt-leb}
use Rattle.mps.specs.Layout.{header_size, Entry, type, last_base_type, first_extended_type, least_length, base_length, extended_end}
use Rattle.mps.specs.Layout.{base_entry_length, extended_entry_length, own_length, base_entries, extended_entries}
use Rattle.mps.specs.Reader.{read_base_end, read_extended_end, base_step, extended_step, whole, size_at, entry_at, next_place}
use Rattle.mps.specs.Words.{part, cut}
use Rattle.mps.specs.Table.{entry_fault, walk_from, extended_fault, extended_from}
use Rattle.mps.specs.Judge.{table_refusal}
use Rattle.laws.proofs.Tests.{whether, or_parts}
use Rattle.laws.proofs.Refusals.{first_none}
use Rattle.laws.proofs.Parts.{length_part, drop_part}
use Rattle.laws.proofs.Cut.{cut_first}
use Rattle.accepted.proofs.Sound.{sound}
use Rattle.accepted.proofs.Pieces.{base_told, no_fault}
use Rattle.reader.specs.Walked.{Stays, Gives, Reads}
use Rattle.reader.specs.Walked.Reads.{reads_none, reads_more}
use Rattle.reader.proofs.Laws.{whole_fits, whole_cut, size_short, size_header, size_base, size_extended, size_past, base_whole as whole_step}
use Rattle.reader.proofs.Laws.{found_none, found_some}

module _ (t : List ℕ) (place : ℕ) where
  stays : 0 ≡ size_at t place → Stays t place
  unfolding entry_at next_place
  stays e = record { none = sym (found_none t place e refl); empty = rw (sym e); same = omega (arith, e) }

  gives : (n : ℕ) → n ≡ size_at t place → 0 < n → place + n ≤ length t → Gives t place n
  unfolding entry_at next_place
  gives n e h k =
      let s = sym (found_some t place n e (λ z. omega (arith, h, z))) in
      record { more = h; some = s; bytes = rw (← e); next = omega (arith, e); inside = k }

  -- No place both gives an entry and stays.
  pub not_both : {n : ℕ} → Gives t place n → Stays t place → ⊥
  not_both g s = omega (arith, g.more, g.next, s.same)

  -- "so does any place in a buffer under 44 bytes"
  pub stays_short : length t < header_size → Stays t place
  stays_short h = stays (size_short t place h)

  -- "A place below 44"
  pub stays_header : place < header_size → Stays t place
  stays_header h = stays (size_header t place h)

  -- ".. at or past the end": the header's ends, cut at the buffer's.
  pub stays_past : read_base_end t ≤ place → read_extended_end t ≤ place → Stays t place
  stays_past h k =
      whether (ltb (length t) header_size)
      (λ s. stays_short (ltb-true (length t) header_size s))
      (λ s.
      whether (ltb place header_size)
      (λ p. stays_header (ltb-true place header_size p))
      (λ p. stays (size_past t place (ltb-false (length t) header_size s) (ltb-false place header_size p) refl refl h k)))

-- ---- In a part of any buffer

module _ (t : List ℕ) (place : ℕ) (long : header_size ≤ length t) (high : header_size ≤ place) where
  -- The bytes from the place on.
  abbrev here : List ℕ
  here = drop place t

  module _ (below : place < read_base_end t) where
    abbrev type_length : ℕ
    type_length = base_entry_length here

    base_whole : (n : ℕ) → n ≡ base_step here → whole place n (read_base_end t) ≡ size_at t place
    base_whole n e = size_base t place long high refl below (whole_step t place (read_base_end t) e refl)

    -- ".. or where no whole entry stands": no such type, or cut by the end.
    pub stays_base_type : last_base_type < type here → Stays t place
    unfolding base_step
    stays_base_type k =
        let e = base_whole 0 (rw (lt-leb (type here) last_base_type k)) in
        stays t place (whole_fits place 0 (read_base_end t) below (omega arith) ∙ e)

    module _ (kind : type here ≤ last_base_type) where
      typed : whole place type_length (read_base_end t) ≡ size_at t place
      unfolding base_step
      typed = base_whole type_length (rw (le-leb (type here) last_base_type kind))

      -- "From 44 to the base end an entry has its type's length"
      pub given_base : place + type_length ≤ read_base_end t → Gives t place type_length
      given_base k =
          let e = whole_fits place type_length (read_base_end t) below (omega arith) ∙ typed in
          gives t place type_length e (base_told.some here) (omega arith)

      pub stays_base_cut : read_base_end t < place + type_length → Stays t place
      stays_base_cut k = stays t place (whole_cut place type_length (read_base_end t) below (omega arith) ∙ typed)

  module _ (past : read_base_end t ≤ place) (below : place < read_extended_end t) where
    abbrev length_byte : ℕ
    length_byte = extended_entry_length here

    extended_whole : (n : ℕ) → n ≡ extended_step here → whole place n (read_extended_end t) ≡ size_at t place
    extended_whole n e = size_extended t place long high refl refl past below e refl

    no_length : 0 ≡ extended_step here → Stays t place
    no_length e = stays t place (whole_fits place 0 (read_extended_end t) below (omega arith) ∙ extended_whole 0 e)

    -- ".. with type at least 128 and length at least 2"; a length byte past the buffer's end is 0.
    pub stays_extended_type : type here < first_extended_type → Stays t place
    unfolding extended_step
    stays_extended_type k = no_length (rw (lt-leb first_extended_type (type here) k))

    pub stays_extended_length : length_byte < least_length → Stays t place
    unfolding extended_step
    stays_extended_length k = no_length (rw (lt-leb least_length length_byte k, and-false))

    module _ (kind : first_extended_type ≤ type here) (enough : least_length ≤ length_byte) where
      stated : whole place length_byte (read_extended_end t) ≡ size_at t place
      unfolding extended_step
      stated =
          extended_whole length_byte (rw (le-leb first_extended_type (type here) kind, le-leb least_length length_byte enough))

      -- ".. from there to the extended end its length byte's"
      pub given_extended : place + length_byte ≤ read_extended_end t → Gives t place length_byte
      given_extended k =
          let e = whole_fits place length_byte (read_extended_end t) below (omega arith) ∙ stated in
          gives t place length_byte e (omega arith) (omega arith)

      pub stays_extended_cut : read_extended_end t < place + length_byte → Stays t place
      stays_extended_cut k = stays t place (whole_cut place length_byte (read_extended_end t) below (omega arith) ∙ stated)

-- ---- The walk over an accepted table

-- The entries from a place up to an end.
module _ (t : List ℕ) (size : List ℕ → ℕ) (end : ℕ) where
  abbrev up_to : ℕ → List Entry
  up_to at = cut size 0 (part at end t)

  reads_done : (at : ℕ) → at ≡ end → Reads t at (up_to at) end
  unfolding cut
  reads_done at e = let z : end - at ≡ 0 = omega arith in rw (z, ← e) reads_none

  up_to_first : (at : ℕ) → end ≤ length t → at < end → 0 < size (part at end t)
      → let k = size (part at end t) in up_to at ≡ take k (part at end t) ∷ up_to (at + k)
  up_to_first at inside below some =
      let u : List ℕ = part at end t in
      let some_left : 0 < length u = omega (arith, length_part at end t inside) in
      rw (← drop_part at end (size u) t) (cut_first size u (size u) some_left refl some)

module _ (t : List ℕ) (long : header_size ≤ length t) (inside : base_length t ≤ length t) where
  -- From any place in the base where an entry begins.
  base_from :
      (n at before : ℕ) → base_length t - at ≤ n → header_size ≤ at → at ≤ base_length t
      → walk_from before (up_to t base_entry_length (base_length t) at) ≡ 0
      → Reads t at (up_to t base_entry_length (base_length t) at) (base_length t)
  unfolding walk_from
  base_from zero at before h low high w = reads_done t base_entry_length (base_length t) at (omega arith)
  base_from (suc n) at before h low high w =
      let base = base_length t in
      let here : List ℕ = drop at t in
      let u : List ℕ = part at base t in
      let k = base_entry_length u in
      let some = base_told.some u in
      whether (ltb at base)
      (λ l.
      let below = ltb-true at base l in
      let c = up_to_first t base_entry_length base at inside below some in
      let rest = walk_from (type (take k u)) (up_to t base_entry_length base (at + k)) in
      let p = first_none (entry_fault before (take k u)) rest (rw c at w) in
      let q = no_fault before (take k u) p.0 in
      let b = get_or-take k u 0 0 some in
      let same_size = base_told.by_first (take k u) u b in
      let fit : k ≤ base - at = omega (arith, q.1, same_size, length-take k u, length_part at base t inside) in
      let first = get_or-take (base - at) here 0 0 (omega arith) in
      let size : base_entry_length here ≡ k = base_told.by_first here u (sym first) in
      let g : Gives t at k =
      rw size at (given_base t at long low (omega arith) (omega (arith, q.0, b, first)) (omega (arith, size, fit))) in
      let r = base_from n (at + k) (type (take k u)) (omega arith) (omega arith) (omega arith) p.1 in
      rw (c, take-take k (base - at) here fit) (reads_more g r))
      (λ l. reads_done t base_entry_length base at (omega (arith, ltb-false at base l)))

-- "From 44 to the base end": the base entries of an accepted table, in its order.
pub reads_base : (t : List ℕ) → table_refusal t ≡ 0 → Reads t header_size (base_entries t) (base_length t)
unfolding base_entries
reads_base t a =
    let s = sound t a in
    base_from t s.long s.inside (base_length t) header_size 0 (omega arith) (omega arith) s.low s.walked

-- ---- The extended entries

-- An extended entry without a fault has all its bytes, a type of its part and the length of its type.
pub no_extended_fault :
    (before : ℕ) (e : Entry) → extended_fault before e ≡ false
    → (least_length ≤ extended_entry_length e) × (extended_entry_length e ≤ length e) × (first_extended_type ≤ type e)
    × (extended_entry_length e ≡ own_length e)
unfolding extended_fault
no_extended_fault before e f =
    let own = or_parts _ (not (eqb (extended_entry_length e) (own_length e))) f in
    let order = or_parts _ (ltb (type e) before) own.0 in
    let kind = or_parts _ (ltb (type e) first_extended_type) order.0 in
    let size = or_parts (ltb (extended_entry_length e) least_length) (ltb (length e) (extended_entry_length e)) kind.0 in
    (ltb-false _ _ size.0, ltb-false _ _ size.1, ltb-false _ _ kind.1, eqb-true _ _ (not-false _ own.1))

first_piece :
    (before : ℕ) (u : List ℕ) → 0 < length u → extended_from before (cut extended_entry_length 0 u) ≡ false
    → extended_fault before (take (extended_entry_length u) u) ≡ false
unfolding cut extended_from
first_piece before [] h f = absurd (omega arith)
first_piece before (x ∷ xs) h f = (or_parts (extended_fault before (take (extended_entry_length (x ∷ xs)) (x ∷ xs))) _ f).0

-- A length under 2 leaves no length byte in its piece.
least :
    (u : List ℕ) → least_length ≤ extended_entry_length (take (extended_entry_length u) u) → least_length ≤ extended_entry_length u
least u h =
    let m = extended_entry_length u in
    whether (ltb 1 m)
    (λ l. ltb-true 1 m l)
    (λ l.
    let short = ltb-false 1 m l in
    let none : get_or (take m u) 1 0 ≡ 0 = get_or-eq_default (take m u) 0 (omega (arith, length-take m u, short)) in
    absurd (omega (arith, h, none)))

module _
    (t : List ℕ) (long : header_size ≤ length t) (low : header_size ≤ base_length t) (inside : extended_end t ≤ length t) where
  extended_from_lem :
      (n at before : ℕ) → extended_end t - at ≤ n → base_length t ≤ at → at ≤ extended_end t
      → extended_from before (up_to t extended_entry_length (extended_end t) at) ≡ false
      → Reads t at (up_to t extended_entry_length (extended_end t) at) (extended_end t)
  unfolding extended_from
  extended_from_lem zero at before h past high w = reads_done t extended_entry_length (extended_end t) at (omega arith)
  extended_from_lem (suc n) at before h past high w =
      let end = extended_end t in
      let here : List ℕ = drop at t in
      let u : List ℕ = part at end t in
      let k = extended_entry_length u in
      let lu = length_part at end t inside in
      whether (ltb at end)
      (λ l.
      let below = ltb-true at end l in
      let q = no_extended_fault before (take k u) (first_piece before u (omega (arith, lu)) w) in
      let two = least u q.0 in
      let c = up_to_first t extended_entry_length end at inside below (omega arith) in
      let rest = extended_from (type (take k u)) (up_to t extended_entry_length end (at + k)) in
      let p = or_parts (extended_fault before (take k u)) rest (rw c at w) in
      let kind = get_or-take k u 0 0 (omega arith) ∙ get_or-take (end - at) here 0 0 (omega arith) in
      let fit : k ≤ end - at = omega (arith, q.1, get_or-take k u 1 0 (omega arith), length-take k u, lu) in
      let size : extended_entry_length here ≡ k = sym (get_or-take (end - at) here 1 0 (omega arith)) in
      let g : Gives t at k =
      rw size at (given_extended t at long (omega arith) (omega arith) (omega arith)
      (omega (arith, q.2, kind)) (omega (arith, size, two)) (omega (arith, size, fit))) in
      let r = extended_from_lem n (at + k) (type (take k u)) (omega arith) (omega arith) (omega arith) p.1 in
      rw (c, take-take k (end - at) here fit) (reads_more g r))
      (λ l. reads_done t extended_entry_length end at (omega (arith, ltb-false at end l)))

-- ".. from there to the extended end": the extended entries, in order.
pub reads_extended : (t : List ℕ) → table_refusal t ≡ 0 → Reads t (base_length t) (extended_entries t) (extended_end t)
unfolding extended_entries
reads_extended t a =
    let s = sound t a in
    extended_from_lem t s.long s.low s.extended_inside (extended_end t) (base_length t) 0
    (omega arith) (omega arith) (omega arith) s.extended_walked

-- ---- Both

reads_append : {t : List ℕ} {p q r : ℕ} {es fs : List Entry} → Reads t p es q → Reads t q fs r → Reads t p (es ++ fs) r
reads_append reads_none b = b
reads_append (reads_more g a) b = reads_more g (reads_append a b)

-- Of an accepted table the reader hands out, from place 44 on, the base entries and then the extended entries, all of them in
-- order, and comes to the extended end; there it stays.
pub reads_table : (t : List ℕ) → table_refusal t ≡ 0
    → Reads t header_size (base_entries t ++ extended_entries t) (extended_end t) × Stays t (extended_end t)
reads_table t a =
    (reads_append (reads_base t a) (reads_extended t a), stays_past t (extended_end t) (omega arith) (omega arith))

-- ---- One step of a walk

-- Where the place stays, no entry is left;
pub reads_stop : {t : List ℕ} {p q : ℕ} {es : List Entry} → Reads t p es q → next_place t p ≤ p → es ≡ []
reads_stop reads_none e = refl
reads_stop (reads_more g r) e = absurd (omega (arith, g.more, g.next, e))

-- elsewhere the bytes up to the next place are the first entry, and the reader hands out the others from there.
pub record Ahead (t : List ℕ) (p : ℕ) (es : List Entry) (q next : ℕ) : Type 0 where
  pub rest : List Entry
  pub first : es ≡ part p next t ∷ rest
  pub reads : Reads t next rest q
  pub inside : next ≤ length t

pub reads_go :
    {t : List ℕ} {p q next : ℕ} {es : List Entry} → Reads t p es q → Stays t q → next ≡ next_place t p → p < next
    → Ahead t p es q next
reads_go reads_none s e f = absurd (omega (arith, e, s.same, f))
reads_go {next = next} (reads_more {t} {p} {n} {q} {es} g r) s e f =
    let k : next ≡ p + n = e ∙ g.next in
    let l : p + n - p ≡ n = omega arith in
    record { rest = es; first = rw (k, l); reads = rw k r; inside = omega (arith, k, g.inside) }
