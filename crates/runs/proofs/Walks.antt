-- Laws of walks, the same for both parts of a table. Assumes nothing.
use Prim.Native.Nat.{ℕ, zero, suc, ◌+◌, ◌≤◌, ◌<◌}
use mathlib.Core.Path.{◌≡◌, refl, ap, sym, ◌∙◌}
use mathlib.Core.Bool.{Bool, true, false, cond, true≢false}
use mathlib.Core.List.{List, [], ◌∷◌}
use native.Mathlib.Omega.{arith}
use native.Mathlib.Nat.{add-zero, add-suc}
use lib.ListN.{length}
use lib.Dec.{eqb, ltb}
use borrow.Author.Tests.{eqb-true, eqb-false, eq-eqb, ne_eqb, ltb-true, ltb-false, lt-ltb, le-ltb}
use Rattle.mps.specs.Words.{first, keep, every, cut, part}
use Rattle.mps.specs.Layout.{Entry, type, of_type}
use Rattle.mps.specs.Sections.{span, rows}
use Rattle.laws.proofs.Refusals.{first_none}
use Rattle.laws.proofs.Tests.{and_parts, same_test}
use Rattle.runs.specs.Runs.{bytes, one, lead, rest}
use Rattle.runs.proofs.Pieces.{every_keep, glued, length_glued, rows_glued, glued_cut}
use Rattle.runs.proofs.Runs.{one_parts, after, taken, keep_after, part_after, bytes_after}

ltb_next : (a k : ℕ) → eqb a k ≡ false → ltb a k ≡ ltb a (suc k)
ltb_next a k h =
    same_test (ltb a k) (ltb a (suc k))
    (λ e. lt-ltb a (suc k) (omega (arith, ltb-true a k e)))
    (λ e. lt-ltb a k (omega (arith, ltb-true a (suc k) e, eqb-false a k h)))

-- A walk: the number of the first faulty entry. An entry is faulty by itself (own), or as its type is below the one before.
module _ (own : Entry → ℕ) (n : ℕ) where
  unfoldable pub fault : ℕ → Entry → ℕ
  fault before e = first (own e) (cond (ltb (type e) before) (suc n) 0)

  unfoldable pub walk : ℕ → List Entry → ℕ
  walk before [] = 0
  walk before (e ∷ es) = first (fault before e) (walk (type e) es)

  -- ---- fault

  pub fault_none : (b : ℕ) (e : Entry) → own e ≡ 0 → b ≤ type e → fault b e ≡ 0
  unfolding fault
  fault_none b e o h = rw (o, le-ltb (type e) b h)

  pub fault_parts : (b : ℕ) (e : Entry) → fault b e ≡ 0 → (own e ≡ 0) × (b ≤ type e)
  unfolding fault
  fault_parts b e f =
      let h = first_none (own e) (cond (ltb (type e) b) (suc n) 0) f in
      (h.0, cases (ltb (type e) b) refl h.1)
    where
      cases : (t : Bool) → ltb (type e) b ≡ t → cond t (suc n) 0 ≡ 0 → b ≤ type e
      cases true g z = absurd (omega arith)
      cases false g z = ltb-false (type e) b g

  -- An entry that no run of type k takes is as faulty behind one more type.
  pub fault_same : (k : ℕ) (e : Entry) → one own k e ≡ false → fault k e ≡ fault (suc k) e
  unfolding fault one
  fault_same k e h = cases (own e) refl (eqb (type e) k) refl
    where
      cases :
          (o : ℕ) → own e ≡ o → (t : Bool) → eqb (type e) k ≡ t
          → first o (cond (ltb (type e) k) (suc n) 0) ≡ first o (cond (ltb (type e) (suc k)) (suc n) 0)
      cases (suc o) p t q = refl
      cases zero p true q = absurd (true≢false (sym (rw (q, p)) ∙ h))
      cases zero p false q = rw (ltb_next (type e) k q)

  -- ---- walk

  pub walk_parts : (b : ℕ) (e : Entry) (es : List Entry) → walk b (e ∷ es) ≡ 0 → (own e ≡ 0) × (b ≤ type e) × (walk (type e) es ≡ 0)
  unfolding walk
  walk_parts b e es w =
      let h = first_none (fault b e) (walk (type e) es) w in
      let f = fault_parts b e h.0 in
      (f.0, f.1, h.1)

  -- ---- A run

  walk_took : (k : ℕ) (e : Entry) (es : List Entry) → one own k e ≡ true → walk k (e ∷ es) ≡ walk k es
  unfolding walk
  walk_took k e es h =
      let p = one_parts own k e h in
      rw (fault_none k e p.1 (omega (arith, p.0)), p.0)

  walk_left : (k : ℕ) (e : Entry) (es : List Entry) → one own k e ≡ false → walk k (e ∷ es) ≡ walk (suc k) (e ∷ es)
  unfolding walk
  walk_left k e es h = rw (fault_same k e h)

  -- What a walk finds is what it finds behind a run, if it takes no entry of that type any more.
  pub walk_run : (k : ℕ) (es : List Entry) → walk k es ≡ walk (suc k) (rest own k es)
  unfolding walk rest
  walk_run k [] = refl
  walk_run k (e ∷ es) = cases (one own k e) refl (walk_run k es)
    where
      cases :
          (t : Bool) → one own k e ≡ t → walk k es ≡ walk (suc k) (rest own k es)
          → walk k (e ∷ es) ≡ walk (suc k) (cond t (rest own k es) (e ∷ es))
      cases true h ih = walk_took k e es h ∙ ih
      cases false h ih = walk_left k e es h

  -- Behind the type of an accepted walk's start there is none of a lower type.
  pub walk_above : (b k : ℕ) (es : List Entry) → walk b es ≡ 0 → k < b → keep (of_type k) es ≡ []
  unfolding keep
  walk_above b k [] w h = refl
  walk_above b k (e ∷ es) w h =
      let p = walk_parts b e es w in
      rw (ne_eqb (type e) k (λ q. omega (arith, q, p.1, h)), walk_above (type e) k es p.2 (omega (arith, p.1, h)))

  -- The first run of an accepted walk has all entries of its type.
  pub lead_all : (k : ℕ) (es : List Entry) → walk k es ≡ 0 → lead own k es ≡ keep (of_type k) es
  unfolding lead keep
  lead_all k [] w = refl
  lead_all k (e ∷ es) w = cases (one own k e) refl (lead_all k es)
    where
      cases :
          (t : Bool) → one own k e ≡ t → (walk k es ≡ 0 → lead own k es ≡ keep (of_type k) es)
          → cond t (e ∷ lead own k es) [] ≡ keep (of_type k) (e ∷ es)
      cases true h ih = rw (ih (sym (walk_took k e es h) ∙ w), keep, eq-eqb (type e) k (one_parts own k e h).0)
      cases false h ih = sym (walk_above (suc k) k (e ∷ es) (sym (walk_left k e es h) ∙ w) (omega arith))

  -- ---- Runs of one type after the other

  pub walk_after : (f k : ℕ) (es : List Entry) → walk f es ≡ walk (f + k) (after own f k es)
  unfolding after
  walk_after f zero es = rw (add-zero f)
  walk_after f (suc k) es = rw (add-suc f k) (walk_after f k es ∙ walk_run (f + k) (after own f k es))

  -- Where a walk is accepted, each run has the entries of its type, and the runs end where `span` says.
  pub lead_after : (f k : ℕ) (es : List Entry) → walk f es ≡ 0 → lead own (f + k) (after own f k es) ≡ keep (of_type (f + k)) es
  lead_after f k es w =
      lead_all (f + k) (after own f k es) (sym (walk_after f k es) ∙ w) ∙ keep_after own f k k es (omega arith)

  pub taken_span : (f k : ℕ) (es : List Entry) → walk f es ≡ 0 → taken own f k es ≡ span f k es
  unfolding taken span bytes
  taken_span f zero es w = refl
  taken_span f (suc k) es w = rw (taken_span f k es w, lead_after f k es w)

  -- A walk may as well start behind types that no entry without a fault by itself has.
  pub walk_start : (b : ℕ) → ((e : Entry) → own e ≡ 0 → b ≤ type e) → (es : List Entry) → walk 0 es ≡ walk b es
  unfolding walk fault
  walk_start b h [] = refl
  walk_start b h (e ∷ es) = ap (λ (x : ℕ). first x (walk (type e) es)) (cases (own e) refl)
    where
      cases : (o : ℕ) → own e ≡ o → first o (cond (ltb (type e) 0) (suc n) 0) ≡ first o (cond (ltb (type e) b) (suc n) 0)
      cases zero q = rw (le-ltb (type e) 0 (omega arith), le-ltb (type e) b (h e q))
      cases (suc o) q = refl

  -- What is so of each entry without a fault by itself is so of every entry of an accepted walk.
  pub every_walk :
      (q x : Entry → Bool) → ((e : Entry) → own e ≡ 0 → q e ≡ true → x e ≡ true) → (b : ℕ) (es : List Entry)
      → walk b es ≡ 0 → every q es ≡ true → every x es ≡ true
  unfolding every
  every_walk q x f b [] w h = refl
  every_walk q x f b (e ∷ es) w h =
      let p = walk_parts b e es w in
      let g = and_parts (q e) (every q es) h in
      rw (f e p.0 g.0, every_walk q x f (type e) es p.2 g.1)

  -- ---- A part of a table whose walk is accepted, where no entry is empty

  module _ (len : List ℕ → ℕ) (s : List ℕ) (f : ℕ) (w : walk f (cut len 0 s) ≡ 0) where
    module _ (q : Entry → Bool) (some : (e : Entry) → q e ≡ true → 0 < length e) (h : every q (cut len 0 s) ≡ true) where
      -- The entries of a type, if they have m bytes each, are the rows of its section.
      pub section_rows :
          (k m : ℕ) → 0 < m → ((e : Entry) → type e ≡ f + k → q e ≡ true → length e ≡ m)
          → keep (of_type (f + k)) (cut len 0 s) ≡ rows m (part (span f k (cut len 0 s)) (span f (suc k) (cut len 0 s)) s)
      section_rows k m p sized =
          let es = cut len 0 s in
          let ks = keep (of_type (f + k)) es in
          let there : part (taken own f k es) (taken own f (suc k) es) s ≡ glued ks =
          ap (λ (l : List ℕ). part (taken own f k es) (taken own f (suc k) es) l) (sym (glued_cut len q some 0 s h))
          ∙ part_after own f k es
          ∙ ap glued (lead_after f k es w)
          in
          let all =
          every_keep (of_type (f + k)) q (λ e. eqb (length e) m)
          (λ e t x. eq-eqb (length e) m (sized e (eqb-true (type e) (f + k) t) x)) es h
          in
          sym (rows_glued m ks p all)
          ∙ ap (λ (l : List ℕ). rows m l) (sym there)
          ∙ rw (taken_span f k es w, taken_span f (suc k) es w)

      -- The sections and what is behind them are the whole.
      pub section_end : (k : ℕ) → length s ≡ span f k (cut len 0 s) + bytes (after own f k (cut len 0 s))
      section_end k =
          let es = cut len 0 s in
          ap length (sym (glued_cut len q some 0 s h))
          ∙ length_glued es
          ∙ bytes_after own f k es
          ∙ rw (taken_span f k es w)
