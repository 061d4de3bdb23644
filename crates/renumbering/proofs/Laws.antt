-- The numbers by sets of words are those of the definition. Assumes nothing.
use Prim.Native.Nat.{ℕ, suc, ◌+◌, ◌<◌}
use mathlib.Core.Path.{◌≡◌, refl, sym, ap, ◌∙◌}
use mathlib.Core.Bool.{Bool, true, false, not, ◌||◌, or_assoc, or_comm}
use mathlib.Core.List.{List, [], ◌∷◌, ◌++◌}
use native.Mathlib.Omega.{arith}
use native.Mathlib.Nat.{add-zero}
use lib.ListN.{length, replicate}
use lib.Dec.{eqb}
use borrow.Author.Tests.{ne_eqb}
use Rattle.mps.specs.Words.{among, twice, none, head, keep, each, rising, below}
use Rattle.mps.specs.Layout.{Entry, id_of, everyone}
use Rattle.mps.specs.Renumber.{free, lowest_free, numbers_from, finds_none}
use Rattle.laws.proofs.Tests.{whether, or_parts}
use Rattle.laws.proofs.Lists.{keep_append}
use Rattle.laws.proofs.Rising.{rising_append}
use Rattle.laws.proofs.Small.{Bytes, Small, small_none, small_more}
use Rattle.laws.proofs.Counting.{Below, among_append, apart_count}
use Rattle.laws.proofs.Renumber.{Same, lowest_below, numbers_new, numbers_own, finds_new, finds_own}
use Rattle.sets.specs.Sets.{holds, with_number, put_all, bits_of, members, lowest_out}
use Rattle.sets.proofs.Laws.{holds_none, length_put, holds_put, length_all, holds_all, members_by, lowest_by}
use Rattle.renumbering.specs.Giving.{number_in, own_with, numbers_in}

-- ---- A set of four words that has the numbers of a list

pub record Has (words xs : List ℕ) : Type 0 where
  pub size : length words ≡ 4
  pub same : (n : ℕ) → n < 256 → holds words n ≡ among n xs

pub has_all : (words xs : List ℕ) → Has words xs → (ns : List ℕ) → Has (put_all words ns) (xs ++ ns)
has_all words xs has ns = record {
  size = length_all words ns ∙ has.size;
  same =
      λ n h.
      holds_all words ns n (omega (arith, h, has.size)) ∙ rw (has.same n h, among_append n xs ns) (or_comm (among n ns) (among n xs));
}

pub has_none : Has (replicate 4 0) []
unfolding among
has_none = record { size = refl; same = λ n h. holds_none 4 n }

-- As many as the list has, where its numbers are bytes that are apart.
pub has_count : (words xs : List ℕ) → Has words xs → twice xs ≡ false → Below 256 xs → length (members words) ≡ length xs
has_count words xs has d b =
    let bits : bits_of words ≡ 256 = omega (arith, has.size) in
    let p : ℕ → Bool = λ (n : ℕ). among n xs in
    ap length
    (members_by p words (λ n h. has.same n (omega (arith, h, has.size))) ∙ ap (λ (k : ℕ). keep p (below k)) bits)
    ∙ apart_count 256 xs d b

-- ---- Two such sets that have them together

pub record Both (a b xs : List ℕ) : Type 0 where
  pub size : length a ≡ 4
  pub same : (n : ℕ) → n < 256 → (holds a n || holds b n) ≡ among n xs

-- It is by their numbers that they are in, not by their order.
pub both_has : (a b xs ys zs : List ℕ) → Has a xs → Has b ys → Same (ys ++ xs) zs → Both a b zs
both_has a b xs ys zs has other e = record {
  size = has.size;
  same = λ n h. rw (has.same n h, other.same n h) (or_comm (among n xs) (among n ys) ∙ sym (among_append n ys xs) ∙ e n);
}

both_more : (a b xs : List ℕ) → Both a b xs → (n : ℕ) → n < 256 → Both (with_number a n) b (n ∷ xs)
unfolding among
both_more a b xs both n l = record {
  size = length_put a n ∙ both.size;
  same =
      λ m h.
      rw (holds_put a n m (λ e. omega (arith, l, both.size)), ← both.same m h) (or_assoc (eqb m n) (holds a m) (holds b m));
}

-- ---- The lowest that is not used: 255 is not, so it is the lowest free number, or 255

head_last : {A : Type 0} (d e : A) (xs : List A) → head d (xs ++ (e ∷ [])) ≡ head e xs
head_last d e [] = refl
head_last d e (x ∷ xs) = refl

keep_one : (p : ℕ → Bool) (n m : ℕ) → n ≡ m → p m ≡ true → keep p (rising 1 n) ≡ m ∷ []
unfolding keep rising
keep_one p n m q e = rw (q, e, keep)

keep_last : (p : ℕ → Bool) (n : ℕ) → p n ≡ true → keep p (below (n + 1)) ≡ keep p (below n) ++ (n ∷ [])
keep_last p n e =
    ap (keep p) (rising_append n 1 0) ∙ keep_append p (below n) (rising 1 (n + 0))
    ∙ ap (λ (l : List ℕ). keep p (below n) ++ l) (keep_one p (n + 0) n (add-zero n) e)

lowest_is : (a b xs : List ℕ) → Both a b xs → among everyone xs ≡ false → lowest_out a b ≡ lowest_free xs
unfolding lowest_free free
lowest_is a b xs both out =
    let p : ℕ → Bool = λ (n : ℕ). not (among n xs) in
    let bits : bits_of a ≡ 256 = omega (arith, both.size) in
    lowest_by (λ (n : ℕ). among n xs) a b (λ n h. both.same n (omega (arith, h, both.size)))
    ∙ ap (λ (b : ℕ). head b (keep p (below b))) bits ∙ ap (head 256) (keep_last p 255 (rw out)) ∙ head_last 256 255 (keep p (below 255))

-- ---- The numbers

module _ (cpus own : List ℕ) (id : ℕ) where
  pub number_new :
      holds cpus id ≡ true → (number_in cpus own id ≡ lowest_out own cpus) × (own_with cpus own id ≡ with_number own (lowest_out own cpus))
  unfolding number_in own_with
  number_new e = (rw e, rw e)

  pub number_own : holds cpus id ≡ false → (number_in cpus own id ≡ id) × (own_with cpus own id ≡ own)
  unfolding number_in own_with
  number_own e = (rw e, rw e)

  numbers_next :
      (ids : List ℕ) {n : ℕ} {u : List ℕ} → (number_in cpus own id ≡ n) × (own_with cpus own id ≡ u)
      → numbers_in cpus own (id ∷ ids) ≡ n ∷ numbers_in cpus u ids
  unfolding numbers_in
  numbers_next ids e = rw (e.0, e.1)

pub length_in : (cpus own ids : List ℕ) → length (numbers_in cpus own ids) ≡ length ids
unfolding numbers_in
length_in cpus own [] = refl
length_in cpus own (id ∷ ids) = ap suc (length_in cpus (own_with cpus own id) ids)

-- Of entries whose IDs are in a set where they share a processor's: where those that are held are used and each finds a number,
-- the numbers by the sets are the definition's.
module _ (shared : Entry → Bool) (cpus : List ℕ) (is : (apic : Entry) → Bytes apic → holds cpus (id_of apic) ≡ shared apic) where
  pub numbers_are :
      {apics : List Entry} → Small apics → (own held : List ℕ) → Both own cpus held → among everyone held ≡ false
      → finds_none shared held apics ≡ false → numbers_in cpus own (each id_of apics) ≡ numbers_from shared held apics
  unfolding numbers_in numbers_from each among
  numbers_are small_none own held both out some = refl
  numbers_are (small_more {e} {es} b h) own held both out some =
      whether (shared e)
      (λ t.
      let low = lowest_free held in
      let found = or_parts (none (free held)) (finds_none shared (low ∷ held) es) (sym (finds_new shared held e es t) ∙ some) in
      let under = lowest_below held found.0 in
      let rest =
      numbers_are h (with_number own low) (low ∷ held) (both_more own cpus held both low (omega (arith, under)))
      (rw (ne_eqb everyone low (λ q. omega (arith, q, under)), out)) found.1 in
      numbers_next cpus own (id_of e) (each id_of es)
      (rw (lowest_is own cpus held both out) at (number_new cpus own (id_of e) (is e b ∙ t)))
      ∙ ap (λ (l : List ℕ). low ∷ l) rest ∙ sym (numbers_new shared held e es t))
      (λ f.
      let rest = numbers_are h own held both out (sym (finds_own shared held e es f) ∙ some) in
      numbers_next cpus own (id_of e) (each id_of es) (number_own cpus own (id_of e) (is e b ∙ f))
      ∙ ap (λ (l : List ℕ). id_of e ∷ l) rest ∙ sym (numbers_own shared held e es f))
