-- Laws of `cut`: how a walk at a place of a list meets the list's pieces. Assumes nothing.
use Prim.Native.Nat.{ℕ, zero, suc, pred, ◌+◌, ◌≤◌, ◌<◌}
use mathlib.Core.Path.{◌≡◌, refl, ap, ◌∙◌}
use mathlib.Core.List.{List, [], ◌∷◌}
use native.Mathlib.Omega.{arith}
use lib.ListN.{length, take, drop, length-drop, drop_of_length-le}
use lib.Seq.{drop-drop}
use Rattle.mps.specs.Words.{cut}

module _ (len : List ℕ → ℕ) where
  -- Passing k bytes over is dropping them.
  pub cut_skip : (k : ℕ) (s : List ℕ) → cut len k s ≡ cut len 0 (drop k s)
  unfolding cut
  cut_skip zero s = refl
  cut_skip (suc k) [] = refl
  cut_skip (suc k) (x ∷ s) = cut_skip k s

  -- Nothing is left to cut.
  pub cut_done : (s : List ℕ) (at : ℕ) → length s ≤ at → cut len 0 (drop at s) ≡ []
  unfolding cut
  cut_done s at h = rw drop_of_length-le

  -- The first piece, and the rest behind it.
  pub cut_first : (s : List ℕ) (n : ℕ) → 0 < length s → n ≡ len s → 0 < n → cut len 0 s ≡ take n s ∷ cut len 0 (drop n s)
  unfolding cut
  cut_first [] n h e p = absurd (omega arith)
  cut_first (x ∷ s) zero h e p = absurd (omega arith)
  cut_first (x ∷ s) (suc m) h e p = rw (← e) (ap (λ (l : List (List ℕ)). take (suc m) (x ∷ s) ∷ l) (cut_skip m s))

  -- The piece at a place, and the rest behind it.
  pub cut_next : (s : List ℕ) (at n : ℕ) → at < length s → n ≡ len (drop at s) → 0 < n
      → cut len 0 (drop at s) ≡ take n (drop at s) ∷ cut len 0 (drop (at + n) s)
  cut_next s at n h e p =
      cut_first (drop at s) n (omega (arith, length-drop at s)) e p
      ∙ ap (λ (l : List ℕ). take n (drop at s) ∷ cut len 0 l) (drop-drop n at s)

  -- No more pieces than bytes.
  pub cut_most : (k : ℕ) (s : List ℕ) → length (cut len k s) ≤ length s
  unfolding cut
  cut_most k [] = omega arith
  cut_most (suc k) (x ∷ s) = omega (arith, cut_most k s)
  cut_most zero (x ∷ s) = omega (arith, cut_most (pred (len (x ∷ s))) s)
