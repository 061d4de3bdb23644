-- Laws of the words about lists. Assumes nothing.
use Prim.Native.Nat.{ℕ, zero, suc, ◌+◌, ◌-◌, ◌≤◌, ◌<◌}
use mathlib.Core.Path.{◌≡◌, refl, ap, sym, ◌∙◌}
use mathlib.Core.Bool.{Bool, true, false, ◌||◌, ◌&&◌, false≢true, and-false, and_assoc, or-true, or-false, or_assoc}
use mathlib.Core.List.{List, [], ◌∷◌, ◌++◌}
use native.Mathlib.Omega.{arith}
use native.Mathlib.Nat.{sub-zero}
use native.Mathlib.Numerals.{add-one}
use lib.ListN.{length, get_or, take, drop, set, replicate, drop_of_length-le}
use lib.Seq.{drop-cons}
use lib.Dec.{eqb}
use borrow.Author.Tests.{eqb-true, eqb-false, eq-eqb}
use Rattle.mps.specs.Words.{byte, among, keep, any, every, each, exactly}
use Rattle.laws.proofs.Tests.{whether, either, or_parts}

-- ---- among

pub among_none : (x : ℕ) → among x [] ≡ true → ⊥
unfolding among
among_none x a = false≢true a

pub among_first : (x y : ℕ) (ys : List ℕ) → x ≡ y → among x (y ∷ ys) ≡ true
unfolding among
among_first x y ys q = rw (eq-eqb x y q)

pub among_rest : (x y : ℕ) (ys : List ℕ) → among x ys ≡ true → among x (y ∷ ys) ≡ true
unfolding among
among_rest x y ys a = rw a (or-true (eqb x y))

pub among_cases : {C : Type 0} (x y : ℕ) (ys : List ℕ) → among x (y ∷ ys) ≡ true → (x ≡ y → C) → (among x ys ≡ true → C) → C
unfolding among
among_cases x y ys a f g = either (eqb x y) (among x ys) a (λ h. f (eqb-true x y h)) g

-- A list that is longer in its middle has all that it had.
pub among_more : (x : ℕ) (a b c : List ℕ) → among x (a ++ c) ≡ true → among x (a ++ (b ++ c)) ≡ true
unfolding among
among_more x [] [] c e = e
among_more x [] (y ∷ b) c e = among_rest x y (b ++ c) (among_more x [] b c e)
among_more x (y ∷ a) b c e =
    among_cases x y (a ++ c) e
    (λ q. among_first x y (a ++ (b ++ c)) q)
    (λ q. among_rest x y (a ++ (b ++ c)) (among_more x a b c q))

-- What is not the last is before it.
pub among_front : (x y : ℕ) (a : List ℕ) → among x (a ++ (y ∷ [])) ≡ true → eqb x y ≡ false → among x a ≡ true
among_front x y [] e f = absurd (among_cases x y [] e (eqb-false x y f) (among_none x))
among_front x y (z ∷ a) e f =
    among_cases x z (a ++ (y ∷ [])) e (λ q. among_first x z a q) (λ q. among_rest x z a (among_front x y a q f))

-- The number at a place is among them, and one that is among them is at some place.
pub at_among : (xs : List ℕ) (i : ℕ) → i < length xs → among (byte xs i) xs ≡ true
at_among [] i h = absurd (omega arith)
at_among (x ∷ xs) zero h = among_first x x xs refl
at_among (x ∷ xs) (suc i) h = among_rest (byte xs i) x xs (at_among xs i (omega arith))

pub among_at : (x : ℕ) (xs : List ℕ) → among x xs ≡ true → (i : ℕ) × (i < length xs) × (byte xs i ≡ x)
among_at x [] a = absurd (among_none x a)
among_at x (y ∷ xs) a =
    among_cases x y xs a
    (λ q. (0, omega arith, sym q))
    (λ b. let r = among_at x xs b in (suc r.0, omega (arith, r.1), r.2))

-- Every number of one list is among those of another.
abbrev pub Within : List ℕ → List ℕ → Type 0
Within xs ys = (z : ℕ) → among z xs ≡ true → among z ys ≡ true

-- ---- any

-- Where some element passes, there is one that does.
pub any_one : {A : Type 0} (p : A → Bool) (xs : List A) → any p xs ≡ true → (x : A) × (p x ≡ true)
unfolding any
any_one p [] e = absurd (false≢true e)
any_one p (x ∷ xs) e = either (p x) (any p xs) e (λ h. (x, h)) (any_one p xs)

-- One number of a list that passes is enough.
pub any_among : (p : ℕ → Bool) (x : ℕ) (xs : List ℕ) → among x xs ≡ true → p x ≡ true → any p xs ≡ true
unfolding any
any_among p x [] a e = absurd (among_none x a)
any_among p x (y ∷ xs) a e = among_cases x y xs a (λ q. rw (← q, e)) (λ b. rw (any_among p x xs b e) (or-true (p y)))

-- Where none passes, the one at each place does not.
pub any_none : {A : Type 0} (p : A → Bool) (d : A) (xs : List A) → any p xs ≡ false → (i : ℕ) → i < length xs → p (get_or xs i d) ≡ false
unfolding any
any_none p d [] e i h = absurd (omega arith)
any_none p d (x ∷ xs) e zero h = (or_parts (p x) (any p xs) e).0
any_none p d (x ∷ xs) e (suc i) h = any_none p d xs (or_parts (p x) (any p xs) e).1 i (omega arith)

pub any_append : {A : Type 0} (p : A → Bool) (xs ys : List A) → any p (xs ++ ys) ≡ (any p xs || any p ys)
unfolding any
any_append p [] ys = refl
any_append p (x ∷ xs) ys = rw (any_append p xs ys) (sym (or_assoc (p x) (any p xs) (any p ys)))

-- A test before them all is a test of each.
pub any_and : {A : Type 0} (b : Bool) (p : A → Bool) (xs : List A) → any (λ (x : A). b && p x) xs ≡ (b && any p xs)
unfolding any
any_and b p [] = sym (and-false b)
any_and true p (x ∷ xs) = refl
any_and false p (x ∷ xs) = any_and false p xs

-- From place i on: nothing is left, the element there passes the test, or it does not.
module _ {A : Type 0} (p : A → Bool) (l : List A) (d : A) (i : ℕ) where
  pub any_done : length l ≤ i → any p (drop i l) ≡ false
  unfolding any
  any_done h = rw drop_of_length-le

  pub any_stop : i < length l → p (get_or l i d) ≡ true → any p (drop i l) ≡ true
  unfolding any
  any_stop h e = rw (drop-cons l i d h, e)

  pub any_next : i < length l → p (get_or l i d) ≡ false → any p (drop i l) ≡ any p (drop (i + 1) l)
  unfolding any
  any_next h e = rw (add-one i, drop-cons l i d h, e)

-- ---- every

pub every_append : {A : Type 0} (p : A → Bool) (xs ys : List A) → every p (xs ++ ys) ≡ (every p xs && every p ys)
unfolding every
every_append p [] ys = refl
every_append p (x ∷ xs) ys = rw (every_append p xs ys) (sym (and_assoc (p x) (every p xs) (every p ys)))

-- ---- keep

module _ {A : Type 0} (q : A → Bool) (x : A) (xs : List A) where
  pub keep_in : q x ≡ true → keep q (x ∷ xs) ≡ x ∷ keep q xs
  unfolding keep
  keep_in e = rw (e, keep)

  pub keep_out : q x ≡ false → keep q (x ∷ xs) ≡ keep q xs
  unfolding keep
  keep_out e = rw (e, keep)

-- To look among those that pass one test is to look for both tests.
pub any_keep : {A : Type 0} (p q : A → Bool) (xs : List A) → any p (keep q xs) ≡ any (λ (x : A). q x && p x) xs
unfolding keep any
any_keep p q [] = refl
any_keep p q (x ∷ xs) = whether (q x) (λ e. rw (e, keep, any_keep p q xs)) (λ e. rw (e, keep, any_keep p q xs))

-- To keep among those that pass one test is to keep those that pass both.
pub keep_keep : {A : Type 0} (p q : A → Bool) (xs : List A) → keep p (keep q xs) ≡ keep (λ (x : A). q x && p x) xs
unfolding keep
keep_keep p q [] = refl
keep_keep p q (x ∷ xs) = whether (q x) (λ e. rw (e, keep, keep_keep p q xs)) (λ e. rw (e, keep, keep_keep p q xs))

-- Two tests that agree at every place keep the same.
pub keep_agree :
    {A : Type 0} (p q : A → Bool) (d : A) (xs : List A) → ((i : ℕ) → i < length xs → p (get_or xs i d) ≡ q (get_or xs i d)) → keep p xs ≡ keep q xs
unfolding keep
keep_agree p q d [] h = refl
keep_agree p q d (x ∷ xs) h = rw (h 0 (omega arith), keep_agree p q d xs (λ i l. h (suc i) (omega arith)))

-- A test that nothing passes keeps nothing.
pub keep_nothing : {A : Type 0} (xs : List A) → keep (λ (x : A). false) xs ≡ []
unfolding keep
keep_nothing [] = refl
keep_nothing (x ∷ xs) = keep_nothing xs

pub keep_most : {A : Type 0} (p : A → Bool) (xs : List A) → length (keep p xs) ≤ length xs
unfolding keep
keep_most p [] = omega arith
keep_most p (x ∷ xs) =
    whether (p x)
    (λ e. rw (e, keep) (omega (arith, keep_most p xs)))
    (λ e. rw (e, keep) (omega (arith, keep_most p xs)))

pub keep_append : {A : Type 0} (p : A → Bool) (xs ys : List A) → keep p (xs ++ ys) ≡ keep p xs ++ keep p ys
unfolding keep
keep_append p [] ys = refl
keep_append p (x ∷ xs) ys = whether (p x) (λ t. rw (t, keep, keep_append p xs ys)) (λ f. rw (f, keep, keep_append p xs ys))

-- ---- each

pub length_each : {A B : Type 0} (f : A → B) (xs : List A) → length (each f xs) ≡ length xs
unfolding each
length_each f [] = refl
length_each f (x ∷ xs) = ap suc (length_each f xs)

pub keep_each : {A B : Type 0} (f : A → B) (p : B → Bool) (xs : List A) → keep p (each f xs) ≡ each f (keep (λ (x : A). p (f x)) xs)
unfolding keep each
keep_each f p [] = refl
keep_each f p (x ∷ xs) = whether (p (f x)) (λ e. rw (e, keep, each, keep_each f p xs)) (λ e. rw (e, keep, keep_each f p xs))

pub every_each : {A B : Type 0} (f : A → B) (p : B → Bool) (xs : List A) → every p (each f xs) ≡ every (λ (x : A). p (f x)) xs
unfolding every each
every_each f p [] = refl
every_each f p (x ∷ xs) = rw (every_each f p xs)

-- A number is among those that a function makes, where it is made of some element.
pub among_each : {A : Type 0} (x : ℕ) (f : A → ℕ) (xs : List A) → among x (each f xs) ≡ any (λ (y : A). eqb x (f y)) xs
unfolding among each any
among_each x f [] = refl
among_each x f (y ∷ xs) = rw (among_each x f xs)

-- ---- A list with one element exchanged

-- One that fails the test for another that fails it: what is kept stays.
pub keep_set_out :
    {A : Type 0} (q : A → Bool) (d : A) (xs : List A) (i : ℕ) (y : A) → q y ≡ false → q (get_or xs i d) ≡ false
    → keep q (set xs i y) ≡ keep q xs
keep_set_out q d [] i y n o = refl
keep_set_out q d (x ∷ xs) zero y n o = keep_out q y xs n ∙ rw (keep_out q x xs o)
keep_set_out q d (x ∷ xs) (suc i) y n o =
    whether (q x)
    (λ t. rw (keep_in q x (set xs i y) t, keep_in q x xs t, keep_set_out q d xs i y n o))
    (λ f. rw (keep_out q x (set xs i y) f, keep_out q x xs f) (keep_set_out q d xs i y n o))

-- Where none of those that are kept passes another test, the new one decides.
pub any_keep_set :
    {A : Type 0} (p q : A → Bool) (xs : List A) (i : ℕ) (y : A) → i < length xs → q y ≡ true → any p (keep q xs) ≡ false
    → any p (keep q (set xs i y)) ≡ p y
unfolding any
any_keep_set p q [] i y h n e = absurd (omega arith)
any_keep_set p q (x ∷ xs) zero y h n e =
    let rest : any p (keep q xs) ≡ false =
    whether (q x)
    (λ t. (or_parts (p x) (any p (keep q xs)) (rw (keep_in q x xs t) at e)).1)
    (λ f. rw (keep_out q x xs f) at e) in
    rw (keep_in q y xs n, rest) (or-false (p y))
any_keep_set p q (x ∷ xs) (suc i) y h n e =
    whether (q x)
    (λ t. let parts = or_parts (p x) (any p (keep q xs)) (rw (keep_in q x xs t) at e) in
    rw (keep_in q x (set xs i y) t, parts.0) (any_keep_set p q xs i y (omega arith) n parts.1))
    (λ f. rw (keep_out q x (set xs i y) f) (any_keep_set p q xs i y (omega arith) n (rw (keep_out q x xs f) at e)))

-- A number read of a kept element is still read of one, unless it is that of the element that went.
pub among_keep_set :
    {A : Type 0} (f : A → ℕ) (q : A → Bool) (d : A) (xs : List A) (i : ℕ) (y : A) (z : ℕ) → q y ≡ true
    → among z (each f (keep q xs)) ≡ true → (z ≡ f (get_or xs i d) → ⊥) → among z (each f (keep q (set xs i y))) ≡ true
unfolding each
among_keep_set f q d [] i y z n a o = a
among_keep_set f q d (x ∷ xs) zero y z n a o =
    rw (keep_in q y xs n)
    (among_rest z (f y) (each f (keep q xs))
    (whether (q x)
    (λ t. among_cases z (f x) (each f (keep q xs)) (rw (keep_in q x xs t) at a) (λ r. absurd (o r)) (λ r. r))
    (λ s. rw (keep_out q x xs s) at a)))
among_keep_set f q d (x ∷ xs) (suc i) y z n a o =
    whether (q x)
    (λ t. rw (keep_in q x (set xs i y) t)
    (among_cases z (f x) (each f (keep q xs)) (rw (keep_in q x xs t) at a)
    (λ r. among_first z (f x) (each f (keep q (set xs i y))) r)
    (λ r. among_rest z (f x) (each f (keep q (set xs i y))) (among_keep_set f q d xs i y z n r o))))
    (λ s. rw (keep_out q x (set xs i y) s) (among_keep_set f q d xs i y z n (rw (keep_out q x xs s) at a) o))

-- Two tests that agree wherever a first one fails find the same, where it fails everywhere.
pub any_instead :
    {A : Type 0} (p q r : A → Bool) → ((x : A) → p x ≡ false → q x ≡ r x) → (xs : List A) → any p xs ≡ false → any q xs ≡ any r xs
unfolding any
any_instead p q r f [] e = refl
any_instead p q r f (x ∷ xs) e =
    let parts = or_parts (p x) (any p xs) e in
    rw (f x parts.0, any_instead p q r f xs parts.1)

-- ---- Zeros

pub zeros_at : (n i : ℕ) → byte (replicate n 0) i ≡ 0
zeros_at zero i = refl
zeros_at (suc n) zero = refl
zeros_at (suc n) (suc i) = zeros_at n i

-- ---- A byte of two lists, one behind the other, in the second

pub byte_right : (a b : List ℕ) (i : ℕ) → length a ≤ i → byte (a ++ b) i ≡ byte b (i - length a)
byte_right [] b i h = rw (sub-zero i)
byte_right (x ∷ a) b zero h = absurd (omega arith)
byte_right (x ∷ a) b (suc i) h = byte_right a b i (omega arith) ∙ ap (byte b) (omega arith)

-- ---- exactly

pub length_exactly : (k : ℕ) (s : List ℕ) → length (exactly k s) ≡ k
unfolding exactly
length_exactly zero s = refl
length_exactly (suc k) [] = ap suc (length_exactly k [])
length_exactly (suc k) (x ∷ s) = ap suc (length_exactly k s)

pub exactly_all : (k : ℕ) (s : List ℕ) → length s ≡ k → exactly k s ≡ s
unfolding exactly
exactly_all zero [] e = refl
exactly_all zero (x ∷ s) e = absurd (omega arith)
exactly_all (suc k) [] e = absurd (omega arith)
exactly_all (suc k) (x ∷ s) e = ap (λ (l : List ℕ). x ∷ l) (exactly_all k s (omega arith))

pub exactly_none : (n : ℕ) → replicate n 0 ≡ exactly n []
unfolding exactly
exactly_none zero = refl
exactly_none (suc n) = ap (λ (l : List ℕ). 0 ∷ l) (exactly_none n)

pub exactly_take : (n : ℕ) (s : List ℕ) → n ≤ length s → exactly n s ≡ take n s
unfolding exactly
exactly_take zero s h = refl
exactly_take (suc n) [] h = absurd (omega arith)
exactly_take (suc n) (x ∷ s) h = ap (λ (l : List ℕ). x ∷ l) (exactly_take n s (omega arith))
