-- Laws of the first element that passes a test. Assumes nothing.
use Prim.Native.Nat.{ℕ, zero, suc}
use mathlib.Core.Path.{◌≡◌, refl, ◌∙◌}
use mathlib.Core.Bool.{Bool, true, false}
use mathlib.Core.List.{List, [], ◌∷◌, ◌++◌}
use lib.ListN.{replicate}
use Rattle.mps.specs.Words.{keep, any, every, head}
use Rattle.laws.proofs.Tests.{whether, and_parts, or_parts}
use Rattle.laws.proofs.Lists.{keep_in, keep_out}

module _ {A : Type 0} (p : A → Bool) (d : A) where
  -- What is so of the one given where there is none, and of each that passes, is so of the first that passes.
  pub first_all :
      (q : A → Bool) (P : A → Type 0) → P d → ((x : A) → p x ≡ true → q x ≡ true → P x)
      → (xs : List A) → every q xs ≡ true → P (head d (keep p xs))
  unfolding every keep
  first_all q P z f [] e = z
  first_all q P z f (x ∷ xs) e =
      let h = and_parts (q x) (every q xs) e in
      whether (p x)
      (λ t. rw (keep_in p x xs t) (f x t h.0))
      (λ t. rw (keep_out p x xs t) (first_all q P z f xs h.1))

  -- Elements behind a list change nothing, where the first of them that passes is the one given where there is none.
  pub first_before : (ys : List A) → head d (keep p ys) ≡ d → (xs : List A) → head d (keep p (xs ++ ys)) ≡ head d (keep p xs)
  unfolding keep
  first_before ys e [] = e
  first_before ys e (x ∷ xs) =
      whether (p x)
      (λ t. rw (keep_in p x (xs ++ ys) t, keep_in p x xs t))
      (λ t. rw (keep_out p x (xs ++ ys) t, keep_out p x xs t) (first_before ys e xs))

  -- The same element again and again: it does not pass, or it is that one.
  pub first_replicate : (k : ℕ) (x : A) → (p x ≡ true → x ≡ d) → head d (keep p (replicate k x)) ≡ d
  unfolding keep
  first_replicate zero x f = refl
  first_replicate (suc k) x f =
      whether (p x)
      (λ t. rw (keep_in p x (replicate k x) t) (f t))
      (λ t. rw (keep_out p x (replicate k x) t) (first_replicate k x f))

-- Where no element passes, none is kept.
pub keep_none : {A : Type 0} (p : A → Bool) (xs : List A) → any p xs ≡ false → keep p xs ≡ []
unfolding any keep
keep_none p [] e = refl
keep_none p (x ∷ xs) e =
    let h = or_parts (p x) (any p xs) e in
    keep_out p x xs h.0 ∙ keep_none p xs h.1
