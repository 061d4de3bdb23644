-- Laws of runs, the same for both parts of a table. Assumes nothing.
use Prim.Native.Nat.{ℕ, zero, suc, ◌+◌, ◌-◌, ◌≤◌, ◌<◌}
use mathlib.Core.Path.{◌≡◌, refl, ap, sym, ◌∙◌}
use mathlib.Core.Bool.{Bool, true, false, cond}
use mathlib.Core.List.{List, [], ◌∷◌, ◌++◌, append_assoc}
use native.Mathlib.Omega.{arith}
use native.Mathlib.Nat.{zero-add}
use lib.ListN.{length, take, drop, length-append, length-drop}
use lib.Seq.{drop-drop, take_at, drop_at, length-take-le}
use lib.Dec.{eqb}
use borrow.Author.Tests.{eqb-true, eq-eqb, ne_eqb}
use Rattle.mps.specs.Words.{keep, each, cut, part}
use Rattle.mps.specs.Sums.{total}
use Rattle.mps.specs.Layout.{Entry, type, of_type}
use Rattle.laws.proofs.Tests.{and_parts, whether}
use Rattle.laws.proofs.Cut.{cut_next}
use Rattle.runs.specs.Runs.{bytes, one, lead, rest, Ran}
use Rattle.runs.proofs.Pieces.{glued, length_glued}

module _ (own : Entry → ℕ) where
  pub one_parts : (k : ℕ) (e : Entry) → one own k e ≡ true → (type e ≡ k) × (own e ≡ 0)
  unfolding one
  one_parts k e h =
      let p = and_parts (eqb (type e) k) (eqb (own e) 0) h in
      (eqb-true (type e) k p.0, eqb-true (own e) 0 p.1)

  pub one_is : (k : ℕ) (e : Entry) → type e ≡ k → own e ≡ 0 → one own k e ≡ true
  unfolding one
  one_is k e h o = rw (eq-eqb (type e) k h, eq-eqb (own e) 0 o)

  pub one_not : (k : ℕ) (e : Entry) → (type e ≡ k → own e ≡ 0 → ⊥) → one own k e ≡ false
  one_not k e h = whether (one own k e) (λ o. absurd (h (one_parts k e o).0 (one_parts k e o).1)) (λ o. o)

  -- Entries of another type are all behind it.
  pub keep_rest : (k j : ℕ) (es : List Entry) → (k ≡ j → ⊥) → keep (of_type j) (rest own k es) ≡ keep (of_type j) es
  unfolding rest keep
  keep_rest k j [] d = refl
  keep_rest k j (e ∷ es) d = cases (one own k e) refl (keep_rest k j es d)
    where
      cases :
          (t : Bool) → one own k e ≡ t → keep (of_type j) (rest own k es) ≡ keep (of_type j) es
          → keep (of_type j) (cond t (rest own k es) (e ∷ es)) ≡ keep (of_type j) (e ∷ es)
      cases true h ih = ih ∙ rw (keep, ne_eqb (type e) j (λ q. d (sym (one_parts k e h).0 ∙ q)))
      cases false h ih = refl

  -- A run and what is behind it are the whole.
  pub glued_run : (k : ℕ) (es : List Entry) → glued es ≡ glued (lead own k es) ++ glued (rest own k es)
  unfolding lead rest glued
  glued_run k [] = refl
  glued_run k (e ∷ es) = cases (one own k e) (glued_run k es)
    where
      cases :
          (t : Bool) → glued es ≡ glued (lead own k es) ++ glued (rest own k es)
          → e ++ glued es ≡ glued (cond t (e ∷ lead own k es) []) ++ glued (cond t (rest own k es) (e ∷ es))
      cases true ih = ap (λ (l : List ℕ). e ++ l) ih ∙ sym (append_assoc e (glued (lead own k es)) (glued (rest own k es)))
      cases false ih = refl

  -- ---- Runs of one type after the other

  -- What is behind the runs of k types, from type f on, and how many bytes they take.
  unfoldable pub after : ℕ → ℕ → List Entry → List Entry
  after f zero es = es
  after f (suc k) es = rest own (f + k) (after f k es)

  unfoldable pub taken : ℕ → ℕ → List Entry → ℕ
  taken f zero es = 0
  taken f (suc k) es = taken f k es + bytes (lead own (f + k) (after f k es))

  pub keep_after : (f k j : ℕ) (es : List Entry) → k ≤ j → keep (of_type (f + j)) (after f k es) ≡ keep (of_type (f + j)) es
  unfolding after
  keep_after f zero j es h = refl
  keep_after f (suc k) j es h =
      keep_rest (f + k) (f + j) (after f k es) (λ q. omega (arith, q, h)) ∙ keep_after f k j es (omega (arith, h))

  drop_run : (k : ℕ) (es : List Entry) → drop (bytes (lead own k es)) (glued es) ≡ glued (rest own k es)
  drop_run k es =
      rw (glued_run k es) (drop_at (glued (lead own k es)) (glued (rest own k es)) (bytes (lead own k es)) (length_glued (lead own k es)))

  take_run : (k : ℕ) (es : List Entry) → take (bytes (lead own k es)) (glued es) ≡ glued (lead own k es)
  take_run k es =
      rw (glued_run k es) (take_at (glued (lead own k es)) (glued (rest own k es)) (bytes (lead own k es)) (length_glued (lead own k es)))

  pub drop_after : (f k : ℕ) (es : List Entry) → drop (taken f k es) (glued es) ≡ glued (after f k es)
  unfolding after taken
  drop_after f zero es = refl
  drop_after f (suc k) es =
      let b = bytes (lead own (f + k) (after f k es)) in
      sym (drop-drop b (taken f k es) (glued es)) ∙ ap (λ (l : List ℕ). drop b l) (drop_after f k es) ∙ drop_run (f + k) (after f k es)

  -- The bytes of the run of type f + k.
  pub part_after : (f k : ℕ) (es : List Entry) → part (taken f k es) (taken f (suc k) es) (glued es) ≡ glued (lead own (f + k) (after f k es))
  unfolding taken
  part_after f k es =
      let b = bytes (lead own (f + k) (after f k es)) in
      let d : taken f k es + b - taken f k es ≡ b = omega arith in
      rw (d, drop_after f k es) (take_run (f + k) (after f k es))

  bytes_run : (k : ℕ) (es : List Entry) → bytes es ≡ bytes (lead own k es) + bytes (rest own k es)
  bytes_run k es =
      sym (length_glued es)
      ∙ ap length (glued_run k es)
      ∙ length-append (glued (lead own k es)) (glued (rest own k es))
      ∙ rw (length_glued (lead own k es), length_glued (rest own k es))

  pub bytes_after : (f k : ℕ) (es : List Entry) → bytes es ≡ taken f k es + bytes (after f k es)
  unfolding after taken
  bytes_after f zero es = sym (zero-add (bytes es))
  bytes_after f (suc k) es = omega (arith, bytes_after f k es, bytes_run (f + k) (after f k es))

  -- ---- One entry of a run

  bytes_took : (k : ℕ) (e : Entry) (es : List Entry) → one own k e ≡ true → bytes (lead own k (e ∷ es)) ≡ length e + bytes (lead own k es)
  unfolding lead bytes each total
  bytes_took k e es o = rw o

  rest_took : (k : ℕ) (e : Entry) (es : List Entry) → one own k e ≡ true → rest own k (e ∷ es) ≡ rest own k es
  unfolding rest
  rest_took k e es o = rw o

  -- Whether a list begins with an entry of a run.
  unfoldable starts : ℕ → List Entry → Bool
  starts k [] = false
  starts k (e ∷ es) = one own k e

  run_none : (k : ℕ) (es : List Entry) → starts k es ≡ false → (bytes (lead own k es) ≡ 0) × (rest own k es ≡ es)
  unfolding starts lead rest bytes each total
  run_none k [] h = (refl, refl)
  run_none k (e ∷ es) h = (rw h, rw h)

  starts_cut :
      (k : ℕ) (len : List ℕ → ℕ) (t : List ℕ)
      → (0 < length t → one own k (take (len t) t) ≡ false) → starts k (cut len 0 t) ≡ false
  unfolding starts cut
  starts_cut k len [] h = refl
  starts_cut k len (x ∷ t) h = h (omega arith)

  -- ---- The loop of a run, and the places that runs end at

  module _ (len : List ℕ → ℕ) (s : List ℕ) where
    -- From a place on the run goes on as from its start.
    pub record Upto (k at place : ℕ) : Type 0 where
      pub bytes_left : place + bytes (lead own k (cut len 0 (drop place s))) ≡ at + bytes (lead own k (cut len 0 (drop at s)))
      pub same_rest : rest own k (cut len 0 (drop place s)) ≡ rest own k (cut len 0 (drop at s))
      pub within : place ≤ length s

    pub upto_start : (k at : ℕ) → at ≤ length s → Upto k at at
    upto_start k at h = record { bytes_left = refl; same_rest = refl; within = h }

    -- The entry there is one more of the run.
    pub upto_next :
        (k at place n : ℕ) → Upto k at place → 0 < n → n ≤ length s - place → n ≡ len (drop place s)
        → one own k (take n (drop place s)) ≡ true → Upto k at (place + n)
    upto_next k at place n u p h l o =
        let e = take n (drop place s) in
        let es = cut len 0 (drop (place + n) s) in
        let c = cut_next len s place n (omega (arith, u.within)) l p in
        let b = ap (λ (x : List Entry). bytes (lead own k x)) c ∙ bytes_took k e es o in
        record {
          bytes_left = omega (arith, b, u.bytes_left, length-take-le n (drop place s) (omega (arith, length-drop place s)));
          same_rest = sym (ap (λ (x : List Entry). rest own k x) c ∙ rest_took k e es o) ∙ u.same_rest;
          within = omega (arith, u.within);
        }

    -- It is not, or there is none.
    pub upto_stop :
        (k at place : ℕ) → Upto k at place → (place < length s → one own k (take (len (drop place s)) (drop place s)) ≡ false)
        → Ran own k len s at place
    upto_stop k at place u o =
        let es = cut len 0 (drop place s) in
        let f = run_none k es (starts_cut k len (drop place s) (λ h. o (omega (arith, h, length-drop place s)))) in
        record {
          place = omega (arith, f.0, u.bytes_left);
          behind = sym f.1 ∙ u.same_rest;
          fits = u.within;
        }

    -- The place behind the runs of k types.
    pub record Behind (f k place : ℕ) : Type 0 where
      pub place_is : place ≡ taken f k (cut len 0 s)
      pub entries : cut len 0 (drop place s) ≡ after f k (cut len 0 s)
      pub inside : place ≤ length s

    pub behind_none : (f : ℕ) → Behind f 0 0
    unfolding after taken
    behind_none f = record { place_is = refl; entries = refl; inside = omega arith }

    pub behind_next : (f k at place : ℕ) → Behind f k at → Ran own (f + k) len s at place → Behind f (suc k) place
    unfolding after taken
    behind_next f k at place b r = record {
      place_is = r.place ∙ rw (b.entries, b.place_is);
      entries = r.behind ∙ rw b.entries;
      inside = r.fits;
    }
