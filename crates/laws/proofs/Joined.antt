-- Laws of `joined`, the lists that a function makes of each element, one behind the other. Assumes nothing.
use Prim.Native.Nat.{ℕ, zero, suc, ◌+◌, ◌*◌, ◌≤◌, ◌<◌}
use mathlib.Core.Path.{◌≡◌, refl, ap, sym, ◌∙◌}
use mathlib.Core.Bool.{Bool, true, false, ◌&&◌}
use mathlib.Core.List.{List, [], ◌∷◌, ◌++◌, append_assoc}
use native.Mathlib.Nat.{zero-add, zero-mul, suc-mul}
use native.Mathlib.Omega.{arith}
use lib.ListN.{length, get_or, length-append, get_or-append}
use Rattle.mps.specs.Words.{byte, only, keep, each, joined}
use Rattle.laws.proofs.Tests.{whether}
use Rattle.laws.proofs.Lists.{byte_right}

pub joined_append : {A B : Type 0} (f : A → List B) (xs ys : List A) → joined f (xs ++ ys) ≡ joined f xs ++ joined f ys
unfolding joined
joined_append f [] ys = refl
joined_append f (x ∷ xs) ys = rw (joined_append f xs ys) (sym (append_assoc (f x) (joined f xs) (joined f ys)))

-- Two functions that agree on every element.
pub joined_same : {A B : Type 0} (f g : A → List B) → ((x : A) → f x ≡ g x) → (xs : List A) → joined f xs ≡ joined g xs
unfolding joined
joined_same f g h [] = refl
joined_same f g h (x ∷ xs) = rw (h x, joined_same f g h xs)

-- What is made of the elements that pass a test is made of all, and of the others nothing.
pub joined_keep : {A B : Type 0} (f : A → List B) (p : A → Bool) (xs : List A) → joined f (keep p xs) ≡ joined (λ (x : A). only (p x) (f x)) xs
unfolding joined keep
joined_keep f p [] = refl
joined_keep f p (x ∷ xs) = whether (p x) (λ e. rw (e, keep, joined, joined_keep f p xs)) (λ e. rw (e, keep, joined_keep f p xs))

pub joined_each : {A B C : Type 0} (f : B → List C) (g : A → B) (xs : List A) → joined f (each g xs) ≡ joined (λ (x : A). f (g x)) xs
unfolding joined each
joined_each f g [] = refl
joined_each f g (x ∷ xs) = rw (joined_each f g xs)

joined_nothing : {A B : Type 0} (xs : List A) → joined {A = A} {B = B} (λ (x : A). []) xs ≡ []
unfolding joined
joined_nothing [] = refl
joined_nothing (x ∷ xs) = joined_nothing xs

-- A test before them all is a test of each.
pub only_joined : {A B : Type 0} (b : Bool) (f : A → List B) (xs : List A) → only b (joined f xs) ≡ joined (λ (x : A). only b (f x)) xs
only_joined true f xs = refl
only_joined false f xs = sym (joined_nothing xs)

pub joined_only : {A B : Type 0} (b : Bool) (p : A → Bool) (f : A → List B) (xs : List A)
    → only b (joined (λ (x : A). only (p x) (f x)) xs) ≡ joined (λ (x : A). only (b && p x) (f x)) xs
joined_only true p f xs = refl
joined_only false p f xs = sym (joined_nothing xs)

pub joined_most : {A B : Type 0} (f : A → List B) (m : ℕ) → ((x : A) → length (f x) ≤ m) → (xs : List A) → length (joined f xs) ≤ length xs * m
unfolding joined
joined_most f m h [] = omega arith
joined_most f m h (x ∷ xs) =
    rw (length-append (f x) (joined f xs), suc-mul (length xs) m) (omega (arith, h x, joined_most f m h xs))

-- ---- Pieces of one length

module _ {A : Type 0} (f : A → List ℕ) (m : ℕ) (all : (x : A) → length (f x) ≡ m) where
  pub joined_length : (xs : List A) → length (joined f xs) ≡ length xs * m
  unfolding joined
  joined_length [] = omega arith
  joined_length (x ∷ xs) = rw (length-append (f x) (joined f xs), suc-mul (length xs) m) (omega (arith, all x, joined_length xs))

  -- The bytes of the piece at a place.
  pub joined_at : (d : A) (xs : List A) (i j : ℕ) → i < length xs → j < m → byte (joined f xs) (i * m + j) ≡ byte (f (get_or xs i d)) j
  unfolding joined
  joined_at d [] i j h k = absurd (omega arith)
  joined_at d (x ∷ xs) zero j h k = rw (zero-mul m, zero-add j) (get_or-append (f x) (joined f xs) 0 j (omega (arith, all x)))
  joined_at d (x ∷ xs) (suc i) j h k =
      rw (suc-mul i m)
      (byte_right (f x) (joined f xs) (i * m + m + j) (omega (arith, all x))
      ∙ ap (byte (joined f xs)) (omega (arith, all x))
      ∙ joined_at d xs i j (omega arith) k)
