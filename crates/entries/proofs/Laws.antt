-- How a walk by the entries' lengths meets the entries. Assumes nothing.
use Prim.Native.Nat.{ℕ, ◌+◌, ◌≤◌, ◌<◌}
use mathlib.Core.Path.{◌≡◌, ap, ◌∙◌}
use mathlib.Core.Bool.{Bool, true, false, cond}
use mathlib.Core.List.{List, [], ◌∷◌}
use native.Mathlib.Omega.{arith}
use native.Mathlib.Nat.{add-zero}
use lib.ListN.{length, get_or, take, drop}
use lib.Seq.{get_or-drop}
use lib.Dec.{eqb}
use borrow.Author.Tests.{eq-eqb, ne_eqb}
use Rattle.mps.specs.Words.{cut}
use Rattle.mps.specs.Layout.{processor_size, entry_size, base_entry_length}
use Rattle.laws.proofs.Cut.{cut_next, cut_done}

-- ---- The length of one entry

pub size_processor : {k : ℕ} → k ≡ 0 → processor_size ≡ base_entry_length (k ∷ [])
unfolding base_entry_length
size_processor {k} e = rw (eq-eqb k 0 e)

pub size_other : {k : ℕ} → (k ≡ 0 → ⊥) → entry_size ≡ base_entry_length (k ∷ [])
unfolding base_entry_length
size_other {k} e = rw (ne_eqb k 0 e)

pub size_bounds : (s : List ℕ) → (8 ≤ base_entry_length s) × (base_entry_length s ≤ 20)
unfolding base_entry_length
size_bounds s = cases (eqb (get_or s 0 0) 0)
  where
    cases : (b : Bool) → (8 ≤ cond b processor_size entry_size) × (cond b processor_size entry_size ≤ 20)
    cases true = (omega arith, omega arith)
    cases false = (omega arith, omega arith)

-- The first byte tells it.
size_at_lem : (s : List ℕ) (at : ℕ) → base_entry_length (get_or s at 0 ∷ []) ≡ base_entry_length (drop at s)
unfolding base_entry_length
size_at_lem s at = rw (get_or-drop at s 0 0, add-zero at)

-- ---- The entry at a place, and those behind it

module _ (s : List ℕ) (at : ℕ) {n : ℕ} (h : at < length s) (e : n ≡ base_entry_length (get_or s at 0 ∷ [])) where
  entry_next : cut base_entry_length 0 (drop at s) ≡ take n (drop at s) ∷ cut base_entry_length 0 (drop (at + n) s)
  entry_next =
      cut_next base_entry_length s at n h (e ∙ size_at_lem s at) (let b = size_bounds (get_or s at 0 ∷ []) in omega arith)

-- ---- count: those counted, and those from here on, are all

pub record Counts (s : List ℕ) (at n : ℕ) : Type 0 where
  pub all : n + length (cut base_entry_length 0 (drop at s)) ≡ length (cut base_entry_length 0 s)
  pub near : at ≤ length s + 19
  pub few : n ≤ at

pub counts_first : (s : List ℕ) → Counts s 0 0
counts_first s = record { all = omega arith; near = omega arith; few = omega arith }

pub counts_next :
    (s : List ℕ) {at n k : ℕ} → Counts s at n → at < length s → k ≡ base_entry_length (get_or s at 0 ∷ []) → Counts s (at + k) (n + 1)
counts_next s {at} {n} {k} c h e =
    let b = size_bounds (get_or s at 0 ∷ []) in
    let f = ap length (entry_next s at h e) in
    let a = c.all in
    let w = c.few in
    record { all = omega arith; near = omega arith; few = omega arith }

pub counts_done : (s : List ℕ) {at n : ℕ} → Counts s at n → length s ≤ at → n ≡ length (cut base_entry_length 0 s)
counts_done s {at} {n} c h = rw (cut_done base_entry_length s at h, add-zero) at c.all
