-- The length of the entry at a place, by the ways out of the code. Assumes nothing.
use Prim.Native.Nat.{ℕ, zero, suc, ◌+◌, ◌-◌, ◌≤◌, ◌<◌}
use mathlib.Core.Path.{◌≡◌, refl, sym, ap, ◌∙◌}
use mathlib.Core.Bool.{Bool, true, false, cond, ◌||◌, ◌&&◌, or-true}
use mathlib.Core.List.{List, [], ◌∷◌}
use native.Mathlib.Omega.{arith}
use native.Mathlib.Nat.{add-zero}
use lib.ListN.{length, get_or, drop}
use lib.Seq.{get_or-drop}
use lib.Dec.{leb, ltb}
use borrow.Author.Tests.{lt-ltb, le-ltb, le-leb, lt-leb, leb-true, leb-false, ltb-true, ltb-false}
use Rattle.mps.specs.Layout.{type, last_base_type, first_extended_type, least_length, header_size, base_entry_length, extended_entry_length}
use Rattle.mps.specs.Reader.{read_base_end, read_extended_end, base_step, extended_step, whole, size_at, next_place, found}
use Rattle.std.specs.Prelude.{Option, Some, None}
use Rattle.std.specs.Bool.{then_some}
use Rattle.std.proofs.lemmas.Option.{none-some, same_Some}
use Rattle.mps.specs.Answers.{found_of}
use Rattle.laws.proofs.Tests.{whether}
use Rattle.laws.proofs.Small.{Bytes, bytes_drop}
use Rattle.entries.proofs.Laws.{size_bounds}

-- ---- A length or none

pub some_found : (n : ℕ) → 0 < n → Some n ≡ found_of n
some_found zero h = absurd (omega (arith, h))
some_found (suc n) h = refl

pub none_given : (n : ℕ) → None ≡ found_of n → 0 ≡ n
none_given zero e = refl
none_given (suc n) e = absurd (none-some (suc n) e)

pub some_given : (n : ℕ) {m : ℕ} → Some m ≡ found_of n → (0 < m) × (m ≡ n)
some_given zero {m} e = absurd (none-some m (sym e))
some_given (suc n) {m} e = let q = same_Some m (suc n) e in (omega (arith, q), q)

-- ---- An entry before an end

module _ (place size end : ℕ) where
  pub whole_fits : place < end → size ≤ end - place → size ≡ whole place size end
  whole_fits h k = rw (le-leb (place + size) end (omega arith))

  pub whole_cut : place < end → end - place < size → 0 ≡ whole place size end
  whole_cut h k = rw (lt-leb (place + size) end (omega arith))

  -- As the code asks it.
  pub whole_told : place < end → 0 < size → then_some (leb size (end - place)) size ≡ found_of (whole place size end)
  whole_told h z =
      whether (leb size (end - place))
      (λ y. rw y (some_found size z ∙ ap found_of (whole_fits h (leb-true size (end - place) y))))
      (λ n. rw n (ap found_of (whole_cut h (leb-false size (end - place) n))))

-- ---- Steps

-- The bytes from a place on begin with the byte there.
byte_at : (t : List ℕ) (place i : ℕ) → get_or (drop place t) i 0 ≡ get_or t (place + i) 0
byte_at t place i = get_or-drop place t i 0

module _ (t : List ℕ) (place : ℕ) where
  type_at : get_or (drop place t) 0 0 ≡ get_or t place 0
  type_at = byte_at t place 0 ∙ ap (λ i. get_or t i 0) (add-zero place)

  pub base_none : last_base_type < get_or t place 0 → 0 ≡ base_step (drop place t)
  unfolding base_step
  base_none h = rw (type_at, lt-leb (get_or t place 0) last_base_type h)

  pub base_size_lem :
      {n : ℕ} → get_or t place 0 ≤ last_base_type → n ≡ base_entry_length (get_or t place 0 ∷ []) → n ≡ base_step (drop place t)
  unfolding base_step base_entry_length
  base_size_lem h e = e ∙ rw (type_at, le-leb (get_or t place 0) last_base_type h)

  -- What stands whole of a step that is known.
  pub base_whole : (end : ℕ) {n r : ℕ} → n ≡ base_step (drop place t) → r ≡ whole place n end → r ≡ whole place (base_step (drop place t)) end
  base_whole end e w = rw (← e) w

  pub base_unknown : (end : ℕ) → place < end → last_base_type < get_or t place 0 → 0 ≡ whole place (base_step (drop place t)) end
  base_unknown end h k = base_whole end (base_none k) (whole_fits place 0 end h (omega arith))

  pub extended_none : get_or t place 0 < first_extended_type → 0 ≡ extended_step (drop place t)
  unfolding extended_step
  extended_none h = rw (type_at, lt-leb first_extended_type (get_or t place 0) h)

  module _ {n : ℕ} (h : first_extended_type ≤ get_or t place 0) (e : n ≡ get_or t (place + 1) 0) where
    pub extended_short : n < least_length → 0 ≡ extended_step (drop place t)
    unfolding extended_step
    extended_short k = rw (type_at, byte_at t place 1, ← e, le-leb first_extended_type (get_or t place 0) h, lt-leb least_length n k)

    pub extended_size : least_length ≤ n → n ≡ extended_step (drop place t)
    unfolding extended_step
    extended_size k = rw (type_at, byte_at t place 1, ← e, le-leb first_extended_type (get_or t place 0) h, le-leb least_length n k)

    pub extended_told : then_some (leb least_length n) n ≡ found_of (extended_step (drop place t))
    extended_told =
        whether (leb least_length n)
        (λ y. let k = leb-true least_length n y in rw y (some_found n (omega (arith, k)) ∙ ap found_of (extended_size k)))
        (λ f. rw f (ap found_of (extended_short (leb-false least_length n f))))

-- ---- The length at a place

module _ (t : List ℕ) (place : ℕ) where
  pub size_short : length t < header_size → 0 ≡ size_at t place
  unfolding size_at
  size_short h = rw (lt-ltb (length t) header_size h)

  pub size_header : place < header_size → 0 ≡ size_at t place
  unfolding size_at
  size_header h = rw (lt-ltb place header_size h, or-true)

  module _ (long : header_size ≤ length t) (high : header_size ≤ place) where
    behind :
        size_at t place
        ≡ cond (ltb place (read_base_end t)) (whole place (base_step (drop place t)) (read_base_end t))
        (cond (ltb place (read_extended_end t)) (whole place (extended_step (drop place t)) (read_extended_end t)) 0)
    unfolding size_at
    behind = rw (le-ltb (length t) header_size long, le-ltb place header_size high)

    module _ {base : ℕ} (e : base ≡ read_base_end t) where
      pub size_base : {r : ℕ} → place < base → r ≡ whole place (base_step (drop place t)) base → r ≡ size_at t place
      size_base h w = rw (behind, ← e, lt-ltb place base h) w

      module _ {end : ℕ} (f : end ≡ read_extended_end t) (past : base ≤ place) where
        pub size_extended :
            {n r : ℕ} → place < end → n ≡ extended_step (drop place t) → r ≡ whole place n end → r ≡ size_at t place
        size_extended h s w = rw (behind, ← e, ← f, le-ltb place base past, lt-ltb place end h, ← s) w

        pub size_past : end ≤ place → 0 ≡ size_at t place
        size_past h = rw (behind, ← e, ← f, le-ltb place base past, le-ltb place end h)

-- ---- An entry has fewer than 256 bytes

below : (b : Bool) (x y n : ℕ) → x < n → y < n → cond b x y < n
below true x y n h k = h
below false x y n h k = k

base_most : (s : List ℕ) → base_step s < 256
unfolding base_step
base_most s = below (leb (type s) last_base_type) (base_entry_length s) 0 256 (omega (arith, size_bounds s)) (omega arith)

extended_most : (s : List ℕ) → Bytes s → extended_step s < 256
unfolding extended_step
extended_most s small =
    below (leb first_extended_type (type s) && leb least_length (extended_entry_length s)) (extended_entry_length s) 0 256 (small 1) (omega arith)

pub size_most : (t : List ℕ) (place : ℕ) → Bytes t → size_at t place < 256
unfolding size_at
size_most t place small =
    let s = drop place t in
    let base = below (leb (place + base_step s) (read_base_end t)) (base_step s) 0 256 (base_most s) (omega arith) in
    let extended =
    below (leb (place + extended_step s) (read_extended_end t)) (extended_step s) 0 256
    (extended_most s (bytes_drop place t small)) (omega arith) in
    below (ltb (length t) header_size || ltb place header_size) 0 _ 256 (omega arith)
    (below (ltb place (read_base_end t)) _ _ 256 base (below (ltb place (read_extended_end t)) _ 0 256 extended (omega arith)))

-- ---- The place after it

module _ (t : List ℕ) (place : ℕ) where
  -- No step leads out of the buffer.
  pub next_inside : place ≤ length t → next_place t place ≤ length t
  unfolding next_place size_at
  next_inside h =
      inside (ltb (length t) header_size || ltb place header_size) 0 _ (omega arith)
      (inside (ltb place (read_base_end t)) _ _ (fits (base_step (drop place t)) (read_base_end t) (omega arith))
      (inside (ltb place (read_extended_end t)) _ 0 (fits (extended_step (drop place t)) (read_extended_end t) (omega arith)) (omega arith)))
    where
      inside : (b : Bool) (x y : ℕ) → place + x ≤ length t → place + y ≤ length t → place + cond b x y ≤ length t
      inside true x y a c = a
      inside false x y a c = c

      fits : (size end : ℕ) → end ≤ length t → place + whole place size end ≤ length t
      fits size end k =
          whether (leb (place + size) end)
          (λ q. rw q (omega (arith, leb-true (place + size) end q)))
          (λ q. rw q (omega arith))

  past_stays : length t ≤ place → 0 ≡ size_at t place
  past_stays h =
      whether (ltb (length t) header_size)
      (λ s. size_short t place (ltb-true (length t) header_size s))
      (λ s.
      let long = ltb-false (length t) header_size s in
      size_past t place long (omega arith) refl refl (omega arith) (omega arith))

  -- A sum that does not overflow.
  pub next_fits : (n : ℕ) → length t < n → place < n → place + size_at t place < n
  unfolding next_place
  next_fits n h k =
      whether (ltb place (length t))
      (λ l. omega (arith, next_inside (omega (arith, ltb-true place (length t) l))))
      (λ l. omega (arith, past_stays (ltb-false place (length t) l)))

  pub next_is : {n r : ℕ} → n ≡ size_at t place → r ≡ place + n → r ≡ next_place t place
  unfolding next_place
  next_is e f = rw (f, e)

-- ---- The answer

module _ (t : List ℕ) (place : ℕ) where
  pub found_none : {n : ℕ} → n ≡ size_at t place → n ≡ 0 → None ≡ found t place
  unfolding found
  found_none e z = rw (← e, z)

  pub found_some : (n : ℕ) → n ≡ size_at t place → (n ≡ 0 → ⊥) → Some n ≡ found t place
  unfolding found
  found_some n e z = some_found n (omega (arith, z)) ∙ ap found_of e

  pub found_whole : {n : ℕ} {r : Option ℕ} → r ≡ found_of n → n ≡ size_at t place → r ≡ found t place
  unfolding found
  found_whole e f = e ∙ ap found_of f

  module _ {r : Option ℕ} (e : r ≡ found t place) where
    pub given_at : {n : ℕ} → r ≡ Some n → n ≡ size_at t place
    unfolding found
    given_at i = (some_given (size_at t place) (sym i ∙ e)).1

    pub stays_at : r ≡ None → 0 ≡ size_at t place
    unfolding found
    stays_at i = none_given (size_at t place) (sym i ∙ e)
