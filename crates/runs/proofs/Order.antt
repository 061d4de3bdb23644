-- In what order the entries of an accepted part stand: those of each type one behind the other. Assumes nothing.
use Prim.Native.Nat.{ℕ, zero, suc, ◌+◌, ◌≤◌, ◌<◌}
use mathlib.Core.Path.{◌≡◌, refl, ap, sym, ◌∙◌}
use mathlib.Core.Bool.{Bool, true, false, cond}
use mathlib.Core.List.{List, [], ◌∷◌, ◌++◌, nil≢cons, head-eq_of_cons-eq, tail-eq_of_cons-eq}
use native.Mathlib.Omega.{arith}
use lib.ListN.{length, take, drop, length-take}
use lib.Seq.{drop-drop}
use Rattle.mps.specs.Words.{keep, every, each, cut}
use Rattle.mps.specs.Sums.{total}
use Rattle.mps.specs.Layout.{Entry, of_type}
use Rattle.mps.specs.Sections.{span}
use Rattle.laws.proofs.Tests.{and_parts}
use Rattle.laws.proofs.Cut.{cut_first}
use Rattle.runs.specs.Runs.{bytes, one, lead, rest}
use Rattle.runs.proofs.Pieces.{every_keep}
use Rattle.runs.proofs.Runs.{after}
use Rattle.runs.proofs.Walks.{walk, lead_after}

-- ---- A run, and what is cut behind entries

-- A run and what is behind it are all entries.
run_whole : (own : Entry → ℕ) (k : ℕ) (es : List Entry) → es ≡ lead own k es ++ rest own k es
unfolding lead rest
run_whole own k [] = refl
run_whole own k (e ∷ es) = cases (one own k e) (run_whole own k es)
  where
    cases :
        (t : Bool) → es ≡ lead own k es ++ rest own k es
        → e ∷ es ≡ cond t (e ∷ lead own k es) [] ++ cond t (rest own k es) (e ∷ es)
    cases true ih = ap (λ (l : List Entry). e ∷ l) ih
    cases false ih = refl

-- To drop as many bytes as a piece has is to drop those it was to have, also where the list ends before.
drop_piece : (n : ℕ) (s : List ℕ) → drop (length (take n s)) s ≡ drop n s
drop_piece zero s = refl
drop_piece (suc n) [] = refl
drop_piece (suc n) (x ∷ s) = drop_piece n s

module _ (len : List ℕ → ℕ) (q : Entry → Bool) (some : (e : Entry) → q e ≡ true → 0 < length e) where
  -- Behind the bytes of the first pieces, if none of these is empty, the others are cut.
  cut_behind : (a b : List Entry) (s : List ℕ) → cut len 0 s ≡ a ++ b → every q a ≡ true → cut len 0 (drop (bytes a) s) ≡ b
  unfolding cut every bytes each total
  cut_behind [] b s c h = c
  cut_behind (e ∷ a) b [] c h = absurd (nil≢cons c)
  cut_behind (e ∷ a) b (x ∷ s) c h =
      let t = x ∷ s in
      let n = len t in
      let g = and_parts (q e) (every q a) h in
      let i : take n t ≡ e = head-eq_of_cons-eq c in
      let l : length (take n t) ≡ length e = ap length i in
      let p : 0 < n = omega (arith, l, some e g.0, length-take n t) in
      let d : drop (length e) t ≡ drop n t = ap (λ (m : ℕ). drop m t) (sym l) ∙ drop_piece n t in
      let r : cut len 0 (drop n t) ≡ a ++ b = tail-eq_of_cons-eq (sym (cut_first len t n (omega arith) refl p) ∙ c) in
      ap (λ (u : List ℕ). cut len 0 u) (sym (drop-drop (bytes a) (length e) t) ∙ ap (λ (u : List ℕ). drop (bytes a) u) d)
      ∙ cut_behind a b (drop n t) r g.1

-- ---- Any number of types

-- The entries of k types, from type f on, one type behind the other, and others behind them.
unfoldable pub sorted : ℕ → ℕ → List Entry → List Entry → List Entry
sorted f zero es others = others
sorted f (suc k) es others = sorted f k es (keep (of_type (f + k)) es ++ others)

-- An accepted part where no entry is empty.
module _
    (own : Entry → ℕ) (n : ℕ) (len : List ℕ → ℕ) (s : List ℕ) (f : ℕ) (w : walk own n f (cut len 0 s) ≡ 0)
    (q : Entry → Bool) (some : (e : Entry) → q e ≡ true → 0 < length e) (h : every q (cut len 0 s) ≡ true)
  where
    abbrev es : List Entry
    es = cut len 0 s

    after_next : (k : ℕ) → after own f k es ≡ keep (of_type (f + k)) es ++ after own f (suc k) es
    unfolding after
    after_next k =
        run_whole own (f + k) (after own f k es)
        ∙ ap (λ (l : List Entry). l ++ rest own (f + k) (after own f k es)) (lead_after own n f k es w)

    -- What is behind the runs is what is cut behind their bytes.
    cut_after : (k : ℕ) → cut len 0 (drop (span f k es) s) ≡ after own f k es
    unfolding after span bytes
    cut_after zero = refl
    cut_after (suc k) =
        let ks = keep (of_type (f + k)) es in
        ap (λ (l : List ℕ). cut len 0 l) (sym (drop-drop (bytes ks) (span f k es) s))
        ∙ cut_behind len q some ks (after own f (suc k) es) (drop (span f k es) s) (cut_after k ∙ after_next k)
        (every_keep (of_type (f + k)) q q (λ e t x. x) es h)

    -- The entries are those of the k types, and behind them the others as they are cut.
    pub order : (k : ℕ) → es ≡ sorted f k es (cut len 0 (drop (span f k es) s))
    unfolding sorted span
    order zero = refl
    order (suc k) =
        order k
        ∙ ap (λ (l : List Entry). sorted f k es l)
        (cut_after k ∙ after_next k ∙ ap (λ (l : List Entry). keep (of_type (f + k)) es ++ l) (sym (cut_after (suc k))))

-- Sections follow each other.
pub span_ascends : (f k : ℕ) (es : List Entry) → span f k es ≤ span f (suc k) es
unfolding span
span_ascends f k es = omega arith
