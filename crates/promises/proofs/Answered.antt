-- What a call answers has its number, where that is 0 or a refusal's: which it is, of each call, is in Numbered. Assumes nothing.
use Prim.Native.Nat.{ℕ, zero, suc}
use mathlib.Core.Path.{◌≡◌, refl, ap, sym, ◌∙◌}
use mathlib.Core.Bool.{Bool, true, false, not, ◌||◌, true≢false}
use mathlib.Core.List.{List, [], ◌∷◌}
use native.Mathlib.Omega.{arith}
use lib.Dec.{eqb}
use borrow.Author.Tests.{eqb-true}
use Rattle.std.specs.Prelude.{Result}
use Rattle.mps.specs.Words.{among, any, each}
use Rattle.mps.specs.Refusals.{inner_number}
use Rattle.mps.specs.Reasons.{number_of_refusal, refusals}
use Rattle.mps.specs.Answers.{number_of, answered, numbers_of, edited_numbers, edited_of}
use Rattle.mps.specs.declared.refusals.Refusal.{Refusal}
use Rattle.laws.proofs.Tests.{whether, or_parts}
use Rattle.laws.proofs.Answers.{Known, number_numbered, answered_err, refusal_small, numbered_number}

-- What is among some numbers is among those that have all of them; which they are is computed.
within : (n : ℕ) (xs ys : List ℕ) → any (λ (m : ℕ). not (among m ys)) xs ≡ false → among n xs ≡ true → among n ys ≡ true
unfolding among any
within n [] ys h a = absurd (true≢false (sym a))
within n (x ∷ xs) ys h a =
    let p = or_parts (not (among x ys)) (any (λ (m : ℕ). not (among m ys)) xs) h in
    whether (eqb n x)
    (λ t. rw (eqb-true n x t) (back (among x ys) p.0))
    (λ f. within n xs ys p.1 (rw f at a))
  where
    back : (b : Bool) → not b ≡ false → b ≡ true
    back true e = refl
    back false e = absurd (true≢false e)

pub known : (n : ℕ) (numbers : List ℕ)
    → any (λ (m : ℕ). not (among m (0 ∷ each number_of_refusal refusals))) (0 ∷ numbers) ≡ false
    → among n (0 ∷ numbers) ≡ true → Known n
known n numbers h a = within n (0 ∷ numbers) (0 ∷ each number_of_refusal refusals) h a

-- What is refused with a refusal's number has it, whichever the refusal.
pub answered_refusal : {A : Type 0} (values : A → List ℕ) (r : Refusal) (a : A)
    → number_of (numbers_of values (answered (number_of_refusal r) a)) ≡ number_of_refusal r
answered_refusal {A} values r a =
    let none : number_of_refusal r ≡ 0 → ⊥ = λ z. absurd (omega (arith, (refusal_small r).0, z)) in
    ap (λ (x : Result A Refusal). number_of (numbers_of values x)) (sym (answered_err (number_of_refusal r) a none (sym (numbered_number r))))

-- 23 comes with the inner number, every other one by itself.
pub edited_number : (numbers : List ℕ) (n inner : ℕ)
    → any (λ (m : ℕ). not (among m (inner_number ∷ 0 ∷ each number_of_refusal refusals))) (0 ∷ numbers) ≡ false
    → among n (0 ∷ numbers) ≡ true → number_of (edited_numbers (edited_of n inner)) ≡ n
unfolding among
edited_number numbers zero inner h a = refl
edited_number numbers (suc n) inner h a =
    whether (eqb (suc n) inner_number)
    (λ t. rw t (sym (eqb-true (suc n) inner_number t)))
    (λ f. rw f
    (number_numbered (suc n) (λ z. absurd (omega (arith, z)))
    (rw f at (within (suc n) (0 ∷ numbers) (inner_number ∷ 0 ∷ each number_of_refusal refusals) h a))))
