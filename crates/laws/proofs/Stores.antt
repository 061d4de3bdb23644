-- Laws of `sets`: bytes stored one behind the other from a place on (lib.Seq). Assumes nothing.
use Prim.Native.Nat.{ℕ, zero, suc, ◌+◌, ◌-◌, ◌<◌, ◌≤◌}
use mathlib.Core.Path.{◌≡◌, refl, ap, sym, ◌∙◌}
use mathlib.Core.List.{List, [], ◌∷◌, ◌++◌, append_assoc}
use native.Mathlib.Omega.{arith}
use native.Mathlib.Nat.{zero-add, add-zero, add-suc, suc-add}
use lib.ListN.{length, set, take, drop, replicate, take-append-drop}
use lib.Seq.{sets, sets-eq, set_out, set-set, set_comm, get_or-take, take-set-le, take-set-lt, drop-set-lt, drop-set-add}
use lib.Seq.{drop-drop, drop-append-add}
use Rattle.mps.specs.Words.{byte, part, put, exactly}
use Rattle.laws.proofs.Parts.{drop_take}
use Rattle.laws.proofs.Lists.{exactly_none}

-- Past the end nothing is stored.
pub sets_past : (t : List ℕ) (at : ℕ) (w : List ℕ) → length t ≤ at → sets t at w ≡ t
sets_past t at [] h = refl
sets_past t at (x ∷ xs) h = rw (set_out t at x h) (sets_past t (suc at) xs (omega arith))

pub sets_fit :
    (t : List ℕ) (at : ℕ) (w : List ℕ) → at + length w ≤ length t
    → sets t at w ≡ take at t ++ (w ++ drop (at + length w) t)
sets_fit t at w h = sets-eq w t at h ∙ append_assoc (take at t) w _

pub sets_at_start : (t w : List ℕ) → length w ≤ length t → sets t 0 w ≡ w ++ drop (length w) t
sets_at_start t w h = simp zero-add at (sets_fit t 0 w (rw zero-add h))

-- What stands before the stores stays, and so does what stands behind them, whether they fit or not.
pub sets_take : (t : List ℕ) (at : ℕ) (w : List ℕ) (n : ℕ) → n ≤ at → take n (sets t at w) ≡ take n t
sets_take t at [] n h = refl
sets_take t at (x ∷ xs) n h = sets_take (set t at x) (suc at) xs n (omega arith) ∙ take-set-le n t at x h

pub sets_drop :
    (t : List ℕ) (at : ℕ) (w : List ℕ) (n : ℕ) → at + length w ≤ n → drop n (sets t at w) ≡ drop n t
sets_drop t at [] n h = refl
sets_drop t at (x ∷ xs) n h =
    sets_drop (set t at x) (suc at) xs n (omega arith) ∙ drop-set-lt n t at x (omega arith)

-- Two lists joined are stored one behind the other.
pub sets_append :
    (t : List ℕ) (at : ℕ) (v w : List ℕ) → sets t at (v ++ w) ≡ sets (sets t at v) (at + length v) w
sets_append t at [] w = rw add-zero
sets_append t at (x ∷ xs) w = sets_append (set t at x) (suc at) xs w ∙ rw (add-suc, suc-add)

-- ---- What stands before the stores is read as before

module _ (t : List ℕ) (at : ℕ) (w : List ℕ) where
  pub sets_byte : (i : ℕ) → i < at → byte (sets t at w) i ≡ byte t i
  sets_byte i h = rw (← get_or-take at (sets t at w) i 0 h, sets_take t at w at (omega arith)) (get_or-take at t i 0 h)

  pub sets_part : (m n : ℕ) → n ≤ at → part m n (sets t at w) ≡ part m n t
  sets_part m n h = rw (← drop_take m n (sets t at w), sets_take t at w n h) (drop_take m n t)

  pub sets_row : (i k : ℕ) → i + k ≤ at → take k (drop i (sets t at w)) ≡ take k (drop i t)
  sets_row i k h = let e : i + k - i ≡ k = omega arith in rw e at (sets_part i (i + k) h)

-- ---- Stores into a part of a list

pub drop_sets : (n : ℕ) (t : List ℕ) (at : ℕ) (w : List ℕ) → drop n (sets t (n + at) w) ≡ sets (drop n t) at w
drop_sets n t at [] = refl
drop_sets n t at (x ∷ w) =
    rw (← add-suc n at, drop_sets n (set t (n + at) x) (suc at) w, drop-set-add n t at x)

pub take_sets : (n : ℕ) (t : List ℕ) (at : ℕ) (w : List ℕ) → at + length w ≤ n → take n (sets t at w) ≡ sets (take n t) at w
take_sets n t at [] h = refl
take_sets n t at (x ∷ w) h = rw (take_sets n (set t at x) (suc at) w (omega arith), take-set-lt n t at x (omega arith))

-- A part of a list, where the stores lie in it.
pub part_sets : (m n : ℕ) (t : List ℕ) (at : ℕ) (w : List ℕ) → m + at + length w ≤ n → part m n (sets t (m + at) w) ≡ sets (part m n t) at w
part_sets m n t at w h = rw (drop_sets m t at w) (take_sets (n - m) (drop m t) at w (omega arith))

-- ---- Stores one after the other

-- A byte before the stores may as well be stored before them.
pub sets_set : (t : List ℕ) (i x at : ℕ) (w : List ℕ) → i < at → set (sets t at w) i x ≡ sets (set t i x) at w
sets_set t i x at [] h = refl
sets_set t i x at (y ∷ w) h =
    rw (sets_set (set t at y) i x (suc at) w (omega arith), set_comm t at i y x (λ e. omega arith))

-- So may bytes that end before them.
pub sets_swap : (t : List ℕ) (i : ℕ) (v : List ℕ) (j : ℕ) (w : List ℕ) → i + length v ≤ j
    → sets (sets t j w) i v ≡ sets (sets t i v) j w
sets_swap t i [] j w h = refl
sets_swap t i (x ∷ v) j w h = rw (sets_set t i x j w (omega arith)) (sets_swap (set t i x) (suc i) v j w (omega arith))

-- Those that end where others begin are stored with them, whichever come first.
module _ (t : List ℕ) (i : ℕ) (v w : List ℕ) {j : ℕ} {u x : List ℕ} (e : j ≡ i + length v) where
  pub sets_behind : u ≡ sets t i v → x ≡ sets u j w → x ≡ sets t i (v ++ w)
  sets_behind f g = g ∙ rw (f, e) (sym (sets_append t i v w))

  pub sets_before : u ≡ sets t j w → x ≡ sets u i v → x ≡ sets t i (v ++ w)
  sets_before f g = g ∙ rw (f, sets_swap t i v j w (omega arith), e) (sym (sets_append t i v w))

-- Of stores in the same places the last ones count.
pub sets_sets : (t : List ℕ) (at : ℕ) (v w : List ℕ) → length v ≡ length w → sets (sets t at v) at w ≡ sets t at w
sets_sets t at [] [] e = refl
sets_sets t at [] (y ∷ w) e = absurd (omega arith)
sets_sets t at (x ∷ v) [] e = absurd (omega arith)
sets_sets t at (x ∷ v) (y ∷ w) e =
    rw (sets_set (set t at x) at y (suc at) v (omega arith), set-set t at x y)
    (sets_sets (set t at y) (suc at) v w (omega arith))

-- An answer that is no shorter than the one before it stands in its stead.
pub put_put : (a b room : List ℕ) → length a ≤ length b → put b (put a room) ≡ put b room
put_put a b room h =
    let k = length b - length a in
    let n : length b ≡ length a + k = omega (arith, h) in
    ap (λ (r : List ℕ). b ++ r)
    (ap (λ (m : ℕ). drop m (a ++ drop (length a) room)) n
    ∙ drop-append-add a (drop (length a) room) k
    ∙ drop-drop k (length a) room
    ∙ ap (λ (m : ℕ). drop m room) (sym n))

-- Bytes that stand there already.
pub sets_standing : (t : List ℕ) (at : ℕ) (v : List ℕ) → at + length v ≤ length t → take (length v) (drop at t) ≡ v → sets t at v ≡ t
sets_standing t at v h e =
    let f : v ++ drop (at + length v) t ≡ drop at t =
    rw (← drop-drop (length v) at t) (ap (λ (l : List ℕ). l ++ drop (length v) (drop at t)) (sym e) ∙ take-append-drop (length v) (drop at t)) in
    sets_fit t at v h ∙ ap (λ (l : List ℕ). take at t ++ l) f ∙ take-append-drop at t

-- ---- Bytes stored in zeros

sets_cons : (x : ℕ) (s : List ℕ) (at : ℕ) (w : List ℕ) → sets (x ∷ s) (suc at) w ≡ x ∷ sets s at w
sets_cons x s at [] = refl
sets_cons x s at (y ∷ w) = sets_cons x (set s at y) (suc at) w

pub sets_zeros : (n : ℕ) (w : List ℕ) → sets (replicate n 0) 0 w ≡ exactly n w
unfolding exactly
sets_zeros n [] = exactly_none n
sets_zeros zero (x ∷ w) = sets_past [] 1 w (omega arith)
sets_zeros (suc n) (x ∷ w) = sets_cons x (replicate n 0) 0 w ∙ ap (λ (l : List ℕ). x ∷ l) (sets_zeros n w)
