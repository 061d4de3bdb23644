-- Laws of the search: what makes sixteen bytes a good pointer, what the loop meets at a place, and what the place found says
-- of a region's candidates. Assumes nothing.
use Prim.Native.Nat.{ℕ, zero, suc, ◌+◌, ◌-◌, ◌*◌, ◌≤◌, ◌<◌}
use mathlib.Core.Path.{◌≡◌, refl, ap, sym, ◌∙◌}
use mathlib.Core.Bool.{Bool, true, false, ◌||◌, ◌&&◌, and-false}
use mathlib.Core.List.{List, [], ◌∷◌, ◌++◌}
use native.Mathlib.Omega.{arith}
use native.Mathlib.Nat.{add-zero, add_assoc}
use lib.ListN.{length, take, drop, length-drop, length-take, length-append}
use lib.Seq.{take_all, drop-drop}
use Rattle.std.proofs.lemmas.List.{take_at, drop_at}
use lib.Dec.{eqb, ltb}
use borrow.Author.Tests.{eq-eqb, ne_eqb, eqb-false, ltb-true, ltb-false}
use Rattle.mps.specs.Words.{text, same, part, cut, keep}
use Rattle.mps.specs.Numbers.{le, bytes}
use Rattle.mps.specs.Sums.{sum256}
use Rattle.mps.specs.Layout.{pointer_size, pointer_paragraphs, one_paragraph}
use Rattle.mps.specs.Pointer.{Candidate, addressed, sixteen, good, good_one}
use Rattle.laws.proofs.Tests.{whether, contrary, or_parts}
use Rattle.laws.proofs.Lists.{keep_in, keep_out}
use Rattle.laws.proofs.Small.{Bytes}
use Rattle.laws.proofs.Parts.{length_part}
use Rattle.laws.proofs.Cut.{cut_done, cut_next}
use Rattle.numbers.proofs.Laws.{le_take, le_row, bytes_le}
use Rattle.slices.proofs.Laws.{same_is, same_true}
use Rattle.std.specs.Prelude.{Option, None, Some}
use Rattle.pointers.specs.Search.{first_good, search_of, left, Seeks}

-- ---- good

-- "_MP_", as the code has it: bytes, and the number that stands in them.
abbrev signature_bytes : List ℕ
signature_bytes = 0x5f ∷ 0x4d ∷ 0x50 ∷ 0x5f ∷ []

abbrev signature_number : ℕ
signature_number = 0x5f504d5f

signed_number : (p : List ℕ) → take 4 p ≡ signature_bytes → le 4 p 0 ≡ signature_number
unfolding le
signed_number p e = sym (le_take 4 4 p 0 (omega arith)) ∙ ap (λ (s : List ℕ). le 4 s 0) e

number_signed : (p : List ℕ) → 4 ≤ length p → Bytes p → le 4 p 0 ≡ signature_number → take 4 p ≡ signature_bytes
unfolding bytes
number_signed p h b e = sym (bytes_le 4 p 0 (omega arith) b) ∙ ap (bytes 4) e

-- Fewer bytes than a pointer's are none.
good_short : (p : List ℕ) → (length p ≡ pointer_size → ⊥) → good p ≡ false
unfolding good text
good_short p n = rw (ne_eqb (length p) pointer_size n)

-- x is the number in the first four of sixteen bytes.
module _ (p : List ℕ) {x : ℕ} (l : length p ≡ pointer_size) (e : x ≡ le 4 p 0) where
  pub is_unsigned : (x ≡ signature_number → ⊥) → false ≡ good p
  unfolding good text
  is_unsigned n =
      let f = contrary (same (take 4 p) signature_bytes) (eqb x signature_number)
      (λ t. eq-eqb x signature_number (e ∙ signed_number p (same_true (take 4 p) signature_bytes t))) (ne_eqb x signature_number n) in
      rw (f, and-false)

  module _ (b : Bytes p) (s : x ≡ signature_number) where
    is_signed : good p ≡ (eqb (pointer_paragraphs p) one_paragraph && eqb (sum256 p) 0)
    unfolding good text
    is_signed =
        rw (eq-eqb (length p) pointer_size l, same_is (take 4 p) signature_bytes (number_signed p (omega arith) b (sym e ∙ s)))

    pub is_other_size : (pointer_paragraphs p ≡ one_paragraph → ⊥) → false ≡ good p
    is_other_size n = rw (is_signed, ne_eqb (pointer_paragraphs p) one_paragraph n)

    pub is_summed : {y : ℕ} → pointer_paragraphs p ≡ one_paragraph → y ≡ sum256 p → eqb y 0 ≡ good p
    is_summed {y} o q = rw (is_signed, eq-eqb (pointer_paragraphs p) one_paragraph o, q)

-- ---- The pieces from place `at` on

module _ (s : List ℕ) (at : ℕ) where
  pieces_next :
      pointer_size ≤ length s - at
      → cut sixteen 0 (drop at s) ≡ part at (at + pointer_size) s ∷ cut sixteen 0 (drop (at + pointer_size) s)
  pieces_next h =
      let e : at + pointer_size - at ≡ pointer_size = omega arith in
      rw e (cut_next sixteen s at pointer_size (omega arith) refl (omega arith))

  -- Less than a pointer is left.
  pieces_last : at < length s → length s - at < pointer_size → cut sixteen 0 (drop at s) ≡ drop at s ∷ []
  pieces_last h l =
      cut_next sixteen s at pointer_size h refl (omega arith)
      ∙ rw (take_all pointer_size (drop at s) (omega (arith, length-drop at s)), cut_done sixteen s (at + pointer_size) (omega arith))

  last_short : length s - at < pointer_size → good (drop at s) ≡ false
  last_short l = good_short (drop at s) (λ e. omega (arith, e, length-drop at s))

-- ---- first_good: what the loop meets at a place

module _ (s : List ℕ) (at : ℕ) where
  pub left_done : length s - at < pointer_size → left s at ≡ None
  unfolding first_good
  left_done l =
      whether (ltb at (length s))
      (λ t. rw (pieces_last s at (ltb-true _ _ t) l, last_short s at l))
      (λ f. rw (cut_done sixteen s at (ltb-false _ _ f)))

  module _ (h : pointer_size ≤ length s - at) {r : Bool} (e : r ≡ good (part at (at + pointer_size) s)) where
    pub left_stop : r ≡ true → left s at ≡ Some at
    unfolding first_good
    left_stop t = rw (pieces_next s at h, ← e, t)

    pub left_next : r ≡ false → left s at ≡ left s (at + pointer_size)
    unfolding first_good
    left_next f = rw (pieces_next s at h, ← e, f)

-- Four paragraphs at once: the step over one that does not begin with the signature, at place i of their 64 bytes.
module _ (s : List ℕ) (at : ℕ) (h : at + 64 ≤ length s) where
  left_over :
      (i : ℕ) {x : ℕ} → i + pointer_size ≤ 64 → x ≡ le 4 (part at (at + 64) s) i → eqb x signature_number ≡ false
      → left s (at + i) ≡ left s (at + (i + pointer_size))
  left_over i {x} l e f =
      let p = part (at + i) (at + i + pointer_size) s in
      let n : x ≡ le 4 p 0 =
      e ∙ le_row 4 (at + 64 - at) s at i (omega arith)
      ∙ sym (rw add-zero at (le_row 4 (at + i + pointer_size - (at + i)) s (at + i) 0 (omega arith))) in
      let w : length p ≡ pointer_size = length_part (at + i) (at + i + pointer_size) s (omega arith) ∙ omega arith in
      rw (← add_assoc at i pointer_size) (left_next s (at + i) (omega arith) (is_unsigned p w n (eqb-false x signature_number f)) refl)

-- p is the four.
pub left_four :
    (s : List ℕ) (at : ℕ) (p : List ℕ) → p ≡ part at (at + 64) s → length p ≡ 64
    → {a b c d : ℕ} → a ≡ le 4 p 0 → b ≡ le 4 p 16 → c ≡ le 4 p 32 → d ≡ le 4 p 48
    → (((eqb a signature_number || eqb b signature_number) || eqb c signature_number) || eqb d signature_number) ≡ false
    → left s at ≡ left s (at + 64)
left_four s at p e w p0 p1 p2 p3 f =
    let x = or_parts _ _ f in
    let y = or_parts _ _ x.0 in
    let z = or_parts _ _ y.0 in
    let h : at + 64 ≤ length s = omega (arith, length-take (at + 64 - at) (drop at s), length-drop at s, ap length e, w) in
    rw add-zero at (left_over s at h 0 (omega arith) (rw e at p0) z.0)
    ∙ left_over s at h 16 (omega arith) (rw e at p1) z.1
    ∙ left_over s at h 32 (omega arith) (rw e at p2) y.1
    ∙ left_over s at h 48 (omega arith) (rw e at p3) x.1

-- ---- The loops: over pieces of n bytes from place `start` on, of which `count` are passed

pub seeks_start : (s : List ℕ) → Seeks s 0
unfolding search_of
seeks_start s = (refl, omega arith)

-- What is left of the pieces stands behind those that are passed, and answers as the whole does.
abbrev pub Goes : ℕ → ℕ → List ℕ → ℕ → List ℕ → ℕ → Type 0
Goes n start s size rest count = (size ≡ n) × (rest ≡ drop (start + n * count) s) × Seeks s (start + n * count)

pub goes_start : {size count : ℕ} {rest : List ℕ} (n start : ℕ) (s : List ℕ) → size ≡ n → rest ≡ drop start s → count ≡ 0 → Seeks s start → Goes n start s size rest count
goes_start n start s z r c k = let e : start + n * 0 ≡ start = omega arith in rw (c, e) (z, r, k)

module _
    (n start : ℕ) (s : List ℕ) {size : ℕ} (count : ℕ) {rest : List ℕ} (goes : Goes n start s size rest count)
    (e next : List ℕ) (cut : rest ≡ e ++ next) (whole : length e ≡ size) where
  abbrev at : ℕ
  at = start + n * count

  pub goes_part : e ≡ part at (at + n) s
  goes_part = let k : at + n - at ≡ n = omega arith in rw (k, ← goes.1, cut) (sym (take_at e next n (whole ∙ goes.0)))

  pub goes_whole : n ≤ length s - at
  goes_whole = omega (arith, length-drop at s, ap length (sym goes.1 ∙ cut), length-append e next, whole, goes.0)

  pub goes_next :
      {size2 count2 : ℕ} → size2 ≡ size → count2 ≡ count + 1 → left s at ≡ left s (at + n) → Goes n start s size2 next count2
  goes_next z c l =
      let k : start + n * (count + 1) ≡ at + n = omega arith in
      rw (c, k) (
        z ∙ goes.0,
        rw (← drop-drop n at s, ← goes.1, cut) (sym (drop_at e next n (whole ∙ goes.0))),
        (sym l ∙ goes.2.0, omega (arith, goes_whole, goes.2.1)),
      )

-- Less than a piece is left.
pub goes_done :
    (n start : ℕ) (s : List ℕ) {size : ℕ} (count : ℕ) {rest : List ℕ} → Goes n start s size rest count → length rest < size
    → length s - (start + n * count) < n
goes_done n start s count goes h = omega (arith, h, goes.0, ap length goes.1, length-drop (start + n * count) s)

-- What the search finds, where the pieces are sixteen bytes.
module _ (s : List ℕ) (at : ℕ) (inv : Seeks s at) where
  pub seeks_done : length s - at < pointer_size → None ≡ search_of s
  seeks_done l = sym (left_done s at l) ∙ inv.0

  module _ (h : pointer_size ≤ length s - at) (p : List ℕ) (e : p ≡ part at (at + pointer_size) s) {r : Bool} (t : r ≡ good p) where
    pub seeks_stop : r ≡ true → Some at ≡ search_of s
    seeks_stop g = sym (left_stop s at h (rw e at t) g) ∙ inv.0

    pub seeks_next : r ≡ false → left s at ≡ left s (at + pointer_size)
    seeks_next g = left_next s at h (rw e at t) g

-- ---- The place found, and the candidates of a region that has these bytes

number_of : Option ℕ → ℕ
number_of (Some at) = suc at
number_of None = 0

-- None is found: no candidate is good.
none_left : (a at : ℕ) (ps : List (List ℕ)) → first_good at ps ≡ None → keep good_one (addressed a ps) ≡ []
unfolding first_good addressed keep number_of
none_left a at [] e = refl
none_left a at (p ∷ ps) e =
    whether (good p)
    (λ t. absurd (omega (arith, ap number_of (rw t at e))))
    (λ f. rw (f, keep) (none_left (a + pointer_size) (at + pointer_size) ps (rw f at e)))

pub none_found : (a : ℕ) (s : List ℕ) → search_of s ≡ None → keep good_one (addressed a (cut sixteen 0 s)) ≡ []
unfolding search_of
none_found a s e = none_left a 0 (cut sixteen 0 s) e

-- Something is found: the first good one of these candidates stands there, in a body that begins at address a.
pub record Found (a at : ℕ) (s : List ℕ) (cs : List Candidate) : Type 0 where
  pub rest : List Candidate
  pub first : keep good_one cs ≡ record { address = a + at; bytes = part at (at + pointer_size) s } ∷ rest
  pub inside : at + pointer_size ≤ length s

-- .. from place `at` on: there, or behind the piece there.
module _ (a : ℕ) (s : List ℕ) (at found : ℕ) where
  abbrev Here : Type 0
  Here = Found a found s (addressed (a + at) (cut sixteen 0 (drop at s)))

  found_not : length s - at < pointer_size → left s at ≡ Some found → ⊥
  unfolding number_of
  found_not l e = omega (arith, ap number_of (sym e ∙ left_done s at l))

  module _ (h : pointer_size ≤ length s - at) where
    found_here : good (part at (at + pointer_size) s) ≡ true → left s at ≡ Some found → Here
    unfolding addressed number_of
    found_here t e =
        let q : found ≡ at = omega (arith, ap number_of (sym e ∙ left_stop s at h refl t)) in
        rw (pieces_next s at h, q)
        (record { rest = _; first = keep_in good_one _ _ t; inside = omega arith })

    found_later :
        good (part at (at + pointer_size) s) ≡ false
        → Found a found s (addressed (a + (at + pointer_size)) (cut sixteen 0 (drop (at + pointer_size) s))) → Here
    unfolding addressed
    found_later f r =
        rw (pieces_next s at h)
        (record {
          rest = r.rest;
          first = keep_out good_one _ _ f ∙ rw add_assoc r.first;
          inside = r.inside;
        })

-- .. anywhere; k is any number of bytes that the rest does not pass.
found_left :
    (a : ℕ) (s : List ℕ) (found k at : ℕ) → at ≤ length s → length s - at ≤ k → left s at ≡ Some found → Here a s at found
found_left a s found zero at h l e = absurd (found_not a s at found (omega arith) e)
found_left a s found (suc k) at h l e =
    whether (ltb (length s - at) pointer_size)
    (λ t. absurd (found_not a s at found (ltb-true _ _ t) e))
    (λ f.
    let r = ltb-false (length s - at) pointer_size f in
    whether (good (part at (at + pointer_size) s))
    (λ t. found_here a s at found r t e)
    (λ g.
    found_later a s at found r g
    (found_left a s found k (at + pointer_size) (omega arith) (omega arith) (sym (left_next s at r refl g) ∙ e))))

pub found_first : (a : ℕ) (s : List ℕ) (found : ℕ) → search_of s ≡ Some found → Found a found s (addressed a (cut sixteen 0 s))
unfolding search_of
found_first a s found e = rw add-zero at (found_left a s found (length s) 0 (omega arith) (omega arith) e)
