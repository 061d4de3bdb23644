-- Laws of `rows`, the whole pieces of n bytes, for a loop over a slice. Assumes nothing.
use Prim.Native.Nat.{ℕ, zero, suc, pred, ◌+◌, ◌-◌, ◌/◌, ◌≤◌, ◌<◌}
use mathlib.Core.Path.{◌≡◌, refl, sym, ap, ◌∙◌}
use mathlib.Core.Bool.{Bool, true, false}
use mathlib.Core.List.{List, [], ◌∷◌, ◌++◌}
use denote.Ref.{Bor}
use denote.Param.Members.{Mut}
use native.Mathlib.Omega.{arith}
use lib.ListN.{length, get_or, take, drop, length-drop, length-append, drop_of_length-le}
use Rattle.std.proofs.lemmas.List.{take_at, drop_at}
use Rattle.std.specs.Fn.{Called}
use Rattle.std.specs.Iterator.{Yields, ChecksAny}
use Rattle.std.specs.List.{FoldsTo}
use Rattle.std.specs.Option.{MatchOption}
use Rattle.std.specs.Slice.Iter.{chunks_exact_rest, chunks_exact_size, chunks_exact_steps}
use Rattle.std.specs.declared.slice.ChunksExact.{ChunksExact}
use Rattle.std.specs.declared.option.Option.{Option}
use Rattle.std.specs.declared.option.Option.TheVariants.{None, Some}
use lib.Seq.{drop-drop, get_or-drop, get_or-take, length-take-le, take_all}
use lib.Dec.{ltb}
use borrow.Author.Tests.{eq-eqb, ne_eqb, ltb-true, ltb-false}
use Rattle.mps.specs.Words.{keep, any, cut}
use Rattle.mps.specs.Layout.{Entry}
use Rattle.mps.specs.Sections.{rows}
use Rattle.laws.proofs.Tests.{whether}
use Rattle.laws.proofs.Cut.{cut_skip, cut_next}

-- Fewer bytes than a row takes hold none.
pub rows_short : (n : ℕ) (s : List ℕ) → length s < n → rows n s ≡ []
unfolding rows keep cut
rows_short n [] h = refl
rows_short n (x ∷ s) h =
    rw (
      keep,
      take_all n (x ∷ s) (omega arith),
      ne_eqb (length (x ∷ s)) n (omega arith),
      cut_skip (λ _. n) (pred n) s,
      drop_of_length-le s {i = pred n} (omega arith),
    )

module _ (n : ℕ) (s : List ℕ) (at : ℕ) where
  -- Nothing whole is left.
  pub rows_done : at ≤ length s → length s - at < n → rows n (drop at s) ≡ []
  rows_done h f = rows_short n (drop at s) (omega (arith, length-drop at s))

  -- One row, and those behind it.
  pub rows_next : 0 < n → at ≤ length s → n ≤ length s - at → rows n (drop at s) ≡ take n (drop at s) ∷ rows n (drop (at + n) s)
  unfolding rows keep
  rows_next p h f =
      rw (
        cut_next (λ _. n) s at n (omega arith) refl p,
        keep,
        eq-eqb (length (take n (drop at s))) n (length-take-le n (drop at s) (omega (arith, length-drop at s))),
      )

  -- The bytes of a row are those of the slice.
  pub row_byte : (k : ℕ) → k < n → get_or (take n (drop at s)) k 0 ≡ get_or s (at + k) 0
  row_byte k h = get_or-take n (drop at s) k 0 h ∙ get_or-drop at s k 0

-- A loop over the pieces that `chunks_exact` cuts off, a row each: those that are left are the rows of what is left.
pub rows_cut : (n : ℕ) (e rest : List ℕ) → 0 < n → length e ≡ n → rows n (e ++ rest) ≡ e ∷ rows n rest
rows_cut n [] rest z h = absurd (omega (arith, z, h))
rows_cut n (x ∷ e) rest z h =
    let s = x ∷ e ++ rest in
    let k : 0 + n ≡ n = omega arith in
    (rw k at (rows_next n s 0 z (omega arith) (omega (arith, length-append (x ∷ e) rest, h))))
    ∙ rw (take_at (x ∷ e) rest n h, drop_at (x ∷ e) rest n h)

module _ (p : Entry → Bool) (n : ℕ) (rest : List ℕ) where
  pub any_end : length rest < n → any p (rows n rest) ≡ false
  unfolding any
  any_end f = rw (rows_short n rest f)

  module _ (e left : List ℕ) (z : 0 < n) (h : length e ≡ n) (c : rest ≡ e ++ left) where
    pub any_stop : p e ≡ true → any p (rows n rest) ≡ true
    unfolding any
    any_stop t = rw (c, rows_cut n e left z h, t)

    pub any_next : p e ≡ false → any p (rows n rest) ≡ any p (rows n left)
    unfolding any
    any_next t = rw (c, rows_cut n e left z h, t)

-- One row there, and those behind it: what stands so of a list of entries stands so of the rows that are left.
module _ (n : ℕ) (rest e left : List ℕ) (z : 0 < n) (h : length e ≡ n) (c : rest ≡ e ++ left) where
  pub rows_more : rows n rest ≡ e ∷ rows n left
  rows_more = rw (c, rows_cut n e left z h)

-- What a `for` over pieces steps by, for a function of the rows left.
pub ruleset row_steps = (rows_short, rows_more)

-- `any` of `chunks_exact`, whose closure says of each piece what p says of a row.
module _ {F : Type 0} {g : Mut F (Bor (List ℕ) × Unit {0}) Bool} (p : Entry → Bool) {n : ℕ} {f : F} (z : 0 < n)
    (says : (x : Bor (List ℕ)) (b : Bool) (q : F) → length x.now ≡ n → Called g f (x, tt) b q → (q ≡ f) × (p x.now ≡ b))
  where
    any_left :
        (xs : List (Bor (List ℕ))) (s t u : ChunksExact ℕ) (h : F) (o : Option (Bor (List ℕ))) (r : Bool)
        → chunks_exact_size s ≡ n → Yields chunks_exact_steps s xs t → chunks_exact_steps t o u
        → FoldsTo (λ q x k. Called g q (x, tt) false k) f xs h
        → MatchOption o (r ≡ false) (λ x. (r ≡ true) × ((k : F) × Called g h (x, tt) true k))
        → r ≡ any p (rows n (chunks_exact_rest s))
    any_left [] s t u h None r k y w c e =
        let m = rw y at k in
        rw y (e ∙ sym (any_end p n (chunks_exact_rest t) (omega (arith, w.1.0, m))))
    any_left [] s t u h (Some x) r k y w c e =
        let m = rw y at k in
        let a : length x.now ≡ n = w.1.1 ∙ m in
        let b = says x true e.1.0 a (rw c e.1.1) in
        rw y (e.0 ∙ sym (any_stop p n (chunks_exact_rest t) x.now (chunks_exact_rest u) z a w.1.0 b.1))
    any_left (x ∷ xs) s t u h o r k y w c e =
        let a : length x.now ≡ n = y.1.1.1 ∙ k in
        let b = says x false c.0 a c.1 in
        any_left xs y.0 t u h o r (y.1.0 ∙ k) y.2 w (rw (← b.0) c.2) e
        ∙ sym (any_next p n (chunks_exact_rest s) x.now (chunks_exact_rest y.0) z a y.1.1.0 b.1)

    pub any_of_pieces :
        {s u : ChunksExact ℕ} {bytes : List ℕ} {r : Bool} → ChecksAny chunks_exact_steps g s f r u → chunks_exact_size s ≡ n → chunks_exact_rest s ≡ bytes
        → r ≡ any p (rows n bytes)
    any_of_pieces {s} {u} {bytes} {r} d k l = rw (← l) (any_left d.0 s d.3.0 u d.2 d.1 r k d.3.1 d.3.2 d.4 d.5)

-- Where a loop over the pieces from a place on has come to.
module _ (n : ℕ) (s : List ℕ) (place : ℕ) where
  module _ (e left : List ℕ) (c : drop place s ≡ e ++ left) (h : length e ≡ n) where
    pub piece_fits : 0 < n → n ≤ length s - place
    piece_fits z = omega (arith, h, length-drop place s, ap length c, length-append e left)

    pub piece_byte : (k : ℕ) → k < n → get_or e k 0 ≡ get_or s (place + k) 0
    piece_byte k f = let row : take n (drop place s) ≡ e = rw (c, take_at e left n h) in ap (λ (x : List ℕ). get_or x k 0) (sym row) ∙ row_byte n s place k f

    pub piece_first : 0 < n → get_or e 0 0 ≡ get_or s place 0
    piece_first z = let here : place + 0 ≡ place = omega arith in rw here at (piece_byte 0 z)

    pub piece_left : left ≡ drop (place + n) s
    piece_left = sym (drop_at e left n h) ∙ ap (drop n) (sym c) ∙ drop-drop n place s

-- What is so of no rows, and of one row and those behind it where it is so of those, is so of all rows from a place on. P
-- is told the place too; k is any number of bytes that the rest does not pass.
pub rows_all :
    (n : ℕ) (s : List ℕ) (P : ℕ → List Entry → Type 0) → 0 < n
    → ((at : ℕ) → at ≤ length s → length s - at < n → P at [])
    → ((at : ℕ) (es : List Entry) → n ≤ length s - at → P (at + n) es → P at (take n (drop at s) ∷ es))
    → (k at : ℕ) → at ≤ length s → length s - at ≤ k → P at (rows n (drop at s))
rows_all n s P z f g zero at h l = rw (rows_done n s at h (omega arith)) (f at h (omega arith))
rows_all n s P z f g (suc k) at h l =
    whether (ltb (length s - at) n)
    (λ q. let r = ltb-true (length s - at) n q in rw (rows_done n s at h r) (f at h r))
    (λ q. let r = ltb-false (length s - at) n q in
    rw (rows_next n s at z h r)
    (g at (rows n (drop (at + n) s)) r (rows_all n s P z f g k (at + n) (omega arith) (omega arith))))

-- How many rows there are, where to divide by n is to count how often n can be taken away.
pub rows_count_by :
    (n : ℕ) → 0 < n → ((k : ℕ) → k < n → k / n ≡ 0) → ((k : ℕ) → n ≤ k → k / n ≡ suc ((k - n) / n))
    → (s : List ℕ) → length (rows n s) ≡ length s / n
rows_count_by n some none more s =
    let start : length s - 0 ≡ length s = omega arith in
    rw start at
    (rows_all n s (λ at es. length es ≡ (length s - at) / n) some
    (λ at h l. sym (none (length s - at) l))
    (λ at es l e. let rest : length s - (at + n) ≡ length s - at - n = omega arith in rw (e, more (length s - at) l, rest))
    (length s) 0 (omega arith) (omega arith))

-- Of 8 bytes, and of 20.
pub rows_count : (s : List ℕ) → length (rows 8 s) ≡ length s / 8
rows_count = rows_count_by 8 (omega arith) (λ k h. omega (arith, h)) (λ k h. omega (arith, h))

pub rows_count_20 : (s : List ℕ) → length (rows 20 s) ≡ length s / 20
rows_count_20 = rows_count_by 20 (omega arith) (λ k h. omega (arith, h)) (λ k h. omega (arith, h))
