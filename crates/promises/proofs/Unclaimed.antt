-- Document 02's ask 5, "A subtractive bus claims too much". What the query answers through a parent, case by case; that "The
-- earlier steps and the link count stay."; which answers are those of before. Assumes nothing.
use Prim.Native.Nat.{ℕ, zero, suc, ◌+◌, ◌-◌, ◌≤◌}
use mathlib.Core.Path.{◌≡◌, refl, ap, sym, ◌∙◌}
use mathlib.Core.Bool.{Bool, true, false, not, true≢false, false≢true}
use mathlib.Core.Logic.{◌↔◌}
use mathlib.Core.List.{List, [], ◌∷◌}
use native.Mathlib.Omega.{arith}
use lib.ListN.{length}
use lib.Dec.{eqb}
use borrow.Author.Tests.{eqb-true}
use Rattle.mps.specs.Words.{among, keep, any, each, twice, none, head}
use Rattle.mps.specs.Refusals.{refusal}
use Rattle.mps.specs.Layout.{Entry, bus_type, space_kind_most, extended_bus, parent_bus, base_entries, extended_entries}
use Rattle.mps.specs.Rules.{is_listed, ids_of, links, on_bus, parents_of}
use Rattle.mps.specs.Judge.{table_refusal}
use Rattle.std.specs.Prelude.{Ok}
use Rattle.mps.specs.Answers.{answered, links_in, links_of}
use Rattle.laws.proofs.Answers.{given_ok}
use Rattle.mps.specs.Addresses.{Say, says, answer, another, others, claims, silent, claim_beside, silence_beside, unclaimed, leaves, climb, seen_by, address_rules, seen}
use Rattle.mps.specs.declared.Seen.{Seen}
use Rattle.mps.specs.declared.Seen.TheVariants.{No, Yes, Undeclared}
use Rattle.laws.proofs.Tests.{whether, or_parts, eqb_comm}
use Rattle.laws.proofs.Lists.{among_none, keep_in, keep_out}
use Rattle.laws.proofs.Circle.{parents_of_here, parents_of_skip, link_among}
use Rattle.laws.proofs.Claims.{is_yes, is_undeclared, claims_yes, silent_undeclared, another_own, another_elsewhere, unclaimed_cases, unclaimed_all}
use Rattle.addresses.proofs.Links.{links_leaves}
use Rattle.addresses.proofs.Climbs.{parent_linked, answer_above}
use Rattle.promises.specs.Climbed.{onward, parent_of, claim_of, silence_of, climb_before, seen_before, share_parent}
use Rattle.promises.proofs.Addresses.{seen_says}

-- ---- "The earlier steps and the link count stay."

links_answered : (s : Say) (k : ℕ) (x y : Seen) → links_in x ≡ links_in y → links_in (answer s k x) ≡ links_in (answer s k y)
links_answered Say.no k x y e = refl
links_answered Say.yes k x y e = refl
links_answered Say.parent k x y e = e
links_answered Say.undeclared k x y e = refl

links_climbed : (left : ℕ) (xs : List Entry) (bus kind address k : ℕ)
    → links_in (climb left xs bus kind address k) ≡ links_in (climb_before left xs bus kind address k)
unfolding climb climb_before
links_climbed zero xs bus kind address k = refl
links_climbed (suc left) xs bus kind address k =
    let up = head bus (parents_of (links xs) bus) in
    links_answered (says xs bus kind address) k _ _
    (links_leaves xs up bus kind address _ ∙ links_climbed left xs up kind address (k + 1))

links_of_lem : (n : ℕ) (x y : Seen) → links_in x ≡ links_in y → links_of (answered n x) ≡ links_of (answered n y)
links_of_lem zero x y e = e
links_of_lem (suc n) x y e = refl

-- Of every table and question, the links are those of before.
pub links_stay : (t : List ℕ) (bus kind address : ℕ) → links_of (seen t bus kind address) ≡ links_of (seen_before t bus kind address)
unfolding seen seen_before seen_by
links_stay t bus kind address =
    links_of_lem (refusal (address_rules t bus kind)) _ _
    (links_climbed (length (ids_of bus_type (base_entries t)) - 1) (extended_entries t) bus kind address 0)

-- A bus that does not ask its parent answers as before, of every table and question.
steps_climbed : (left : ℕ) (xs : List Entry) (bus kind address k : ℕ) → (says xs bus kind address ≡ Say.parent → ⊥)
    → climb left xs bus kind address k ≡ climb_before left xs bus kind address k
unfolding climb climb_before
steps_climbed zero xs bus kind address k n = refl
steps_climbed (suc left) xs bus kind address k n = answer_above (says xs bus kind address) k (λ p. absurd (n p))

pub steps_stay : (t : List ℕ) (bus kind address : ℕ) → (says (extended_entries t) bus kind address ≡ Say.parent → ⊥)
    → seen t bus kind address ≡ seen_before t bus kind address
unfolding seen seen_before seen_by
steps_stay t bus kind address n =
    ap (answered (refusal (address_rules t bus kind)))
    (steps_climbed (length (ids_of bus_type (base_entries t)) - 1) (extended_entries t) bus kind address 0 n)

-- An answer that is not yes is left as it is.
leaves_same : (xs : List Entry) (up bus kind address : ℕ) (x : Seen) → ((k : ℕ) → x ≡ Yes k → ⊥) → leaves xs up bus kind address x ≡ x
unfolding leaves
leaves_same xs up bus kind address x n = unclaimed_cases (λ y. y ≡ x) _ _ x refl (λ k e. absurd (n k e)) (λ k e. absurd (n k e))

yes_climbed : (left : ℕ) (xs : List Entry) (bus kind address k : ℕ) → ((j : ℕ) → climb_before left xs bus kind address k ≡ Yes j → ⊥)
    → climb left xs bus kind address k ≡ climb_before left xs bus kind address k
unfolding climb climb_before
yes_climbed zero xs bus kind address k n = refl
yes_climbed (suc left) xs bus kind address k n =
    let up = head bus (parents_of (links xs) bus) in
    answer_above (says xs bus kind address) k
    (λ p.
    let m : (j : ℕ) → climb_before left xs up kind address (k + 1) ≡ Yes j → ⊥ = λ j e. n j (rw p e) in
    let same = yes_climbed left xs up kind address (k + 1) m in
    rw same (leaves_same xs up bus kind address _ m))

-- Only a yes can have changed.
pub yes_alone : (t : List ℕ) (bus kind address : ℕ) → ((k : ℕ) → seen_before t bus kind address ≡ Ok (Yes k) → ⊥)
    → seen t bus kind address ≡ seen_before t bus kind address
unfolding seen seen_before seen_by
yes_alone t bus kind address = cases (refusal (address_rules t bus kind))
  where
    cases : (n : ℕ)
        → ((k : ℕ) → answered n (climb_before (length (ids_of bus_type (base_entries t)) - 1) (extended_entries t) bus kind address 0) ≡ Ok (Yes k) → ⊥)
        → answered n (climb (length (ids_of bus_type (base_entries t)) - 1) (extended_entries t) bus kind address 0)
        ≡ answered n (climb_before (length (ids_of bus_type (base_entries t)) - 1) (extended_entries t) bus kind address 0)
    cases zero m = ap Ok (yes_climbed (length (ids_of bus_type (base_entries t)) - 1) (extended_entries t) bus kind address 0 (λ j e. m j (ap Ok e)))
    cases (suc n) m = refl

-- ---- No two buses share a parent

none_another : (up bus : ℕ) (ls : List Entry) → among up (each parent_bus ls) ≡ false → others ls up bus ≡ []
unfolding others keep each among
none_another up bus [] a = refl
none_another up bus (e ∷ ls) a =
    let h = or_parts (eqb up (parent_bus e)) (among up (each parent_bus ls)) a in
    rw (keep_out (another up bus) e ls (another_elsewhere up bus e (eqb_comm (parent_bus e) up ∙ h.0))) (none_another up bus ls h.1)

-- An entry whose parent no link has is none of another bus with a parent that one has.
far_another : (up bus : ℕ) (e : Entry) (ls : List Entry) → among (parent_bus e) (each parent_bus ls) ≡ false → among up (each parent_bus ls) ≡ true
    → another up bus e ≡ false
far_another up bus e ls a b =
    whether (eqb (parent_bus e) up)
    (λ p. absurd (true≢false (sym b ∙ (rw (eqb-true (parent_bus e) up p) at a))))
    (another_elsewhere up bus e)

-- A bus that has a parent of its own, where no two have one, has nobody beside it.
alone : (bus : ℕ) (ls : List Entry) → twice (each parent_bus ls) ≡ false → not (none (parents_of ls bus)) ≡ true
    → others ls (head bus (parents_of ls bus)) bus ≡ []
unfolding others each twice
alone bus [] t n = absurd (among_none bus (link_among bus [] n).0)
alone bus (e ∷ ls) t n =
    let h = or_parts (among (parent_bus e) (each parent_bus ls)) (twice (each parent_bus ls)) t in
    whether (on_bus bus e)
    (λ o. rw (parents_of_here bus e ls o, keep_out (another (parent_bus e) bus) e ls (another_own (parent_bus e) bus e o))
    (none_another (parent_bus e) bus ls h.0))
    (λ o.
    let m = rw (parents_of_skip bus e ls o) at n in
    let up = head bus (parents_of ls bus) in
    rw (parents_of_skip bus e ls o, keep_out (another up bus) e ls (far_another up bus e ls h.0 (link_among bus ls m).1))
    (alone bus ls h.1 m))

leaves_all : (xs : List Entry) (up bus kind address : ℕ) (x : Seen) → others (links xs) up bus ≡ [] → leaves xs up bus kind address x ≡ x
unfolding leaves any
leaves_all xs up bus kind address x n = rw n (unclaimed_all x)

alone_climbed : (left : ℕ) (xs : List Entry) (bus kind address k : ℕ) → twice (each parent_bus (links xs)) ≡ false
    → climb left xs bus kind address k ≡ climb_before left xs bus kind address k
unfolding climb climb_before
alone_climbed zero xs bus kind address k t = refl
alone_climbed (suc left) xs bus kind address k t =
    let up = head bus (parents_of (links xs) bus) in
    answer_above (says xs bus kind address) k
    (λ p. leaves_all xs up bus kind address _ (alone bus (links xs) t (linked (none (parents_of (links xs) bus)) (parent_linked xs bus kind address p)))
    ∙ alone_climbed left xs up kind address (k + 1) t)
  where
    linked : (a : Bool) → (a ≡ true → ⊥) → not a ≡ true
    linked true n = absurd (n refl)
    linked false n = refl

-- Where no two buses share a parent the answers are those of before, all of them.
pub alone_same : (t : List ℕ) (bus kind address : ℕ) → share_parent t ≡ false → seen t bus kind address ≡ seen_before t bus kind address
unfolding seen seen_before seen_by
alone_same t bus kind address n =
    ap (answered (refusal (address_rules t bus kind)))
    (alone_climbed (length (ids_of bus_type (base_entries t)) - 1) (extended_entries t) bus kind address 0 n)

-- ---- "another bus with that parent"

-- A bus is not one of the others.
another_other : (up bus : ℕ) (e : Entry) → another up bus e ≡ true → eqb bus (extended_bus e) ≡ false
another_other up bus e b =
    whether (on_bus bus e)
    (λ o. absurd (true≢false (sym b ∙ another_own up bus e o)))
    (λ o. eqb_comm bus (extended_bus e) ∙ o)

pub others_other : (ls : List Entry) (up bus : ℕ) → among bus (others ls up bus) ≡ false
unfolding others keep each among
others_other [] up bus = refl
others_other (e ∷ ls) up bus =
    whether (another up bus e)
    (λ b. rw (keep_in (another up bus) e ls b, another_other up bus e b) (others_other ls up bus))
    (λ b. rw (keep_out (another up bus) e ls b) (others_other ls up bus))

-- ---- What is answered through a parent, by its answer and by the others

-- Of an accepted table, a listed bus that asks its parent and a kind.
module _ (t : List ℕ) (bus kind address : ℕ) (a : table_refusal t ≡ 0) (l : is_listed (base_entries t) bus ≡ true) (h : kind ≤ space_kind_most)
    (p : says (extended_entries t) bus kind address ≡ Say.parent) (k : ℕ) where
  through : {x : Seen} → seen t (parent_of t bus) kind address ≡ Ok x
      → seen t bus kind address ≡ Ok (unclaimed (claim_of t bus kind address) (silence_of t bus) (onward x))
  unfolding leaves
  through {x} e =
      let s = seen_says t bus kind address a l h in
      let same : seen_by t (parent_of t bus) kind address ≡ x = (given_ok 0 x (sym (s.0 p) ∙ e)).1 in
      s.1 ∙ rw (p, same)

  -- "when the parent answers yes, the answer is no if another bus with that parent declares or adds the address and doesn't take
  -- it away;
  pub through_claimed : seen t (parent_of t bus) kind address ≡ Ok (Yes k) → claim_of t bus kind address ≡ true → seen t bus kind address ≡ Ok (No (k + 1))
  through_claimed e c = through e ∙ rw c

  -- undeclared if none does but some other such bus has neither 128 nor 130 entry and no subtractive bit;
  pub through_silent : seen t (parent_of t bus) kind address ≡ Ok (Yes k) → claim_of t bus kind address ≡ false → silence_of t bus ≡ true
      → seen t bus kind address ≡ Ok (Undeclared (k + 1))
  through_silent e c u = through e ∙ rw (c, u)

  -- else yes."
  pub through_yes : seen t (parent_of t bus) kind address ≡ Ok (Yes k) → claim_of t bus kind address ≡ false → silence_of t bus ≡ false
      → seen t bus kind address ≡ Ok (Yes (k + 1))
  through_yes e c u = through e ∙ rw (c, u)

  -- The parent's no and undeclared are taken over.
  pub through_no : seen t (parent_of t bus) kind address ≡ Ok (No k) → seen t bus kind address ≡ Ok (No (k + 1))
  through_no e = through e

  pub through_undeclared : seen t (parent_of t bus) kind address ≡ Ok (Undeclared k) → seen t bus kind address ≡ Ok (Undeclared (k + 1))
  through_undeclared e = through e

-- An answer's sort as a number, to tell them apart.
sort : Seen → ℕ
sort (No k) = 0
sort (Yes k) = 1
sort (Undeclared k) = 2

claimed_sort : (silence : Bool) (x : Seen) → sort (unclaimed true silence x) ≡ 1 → ⊥
unfolding sort
claimed_sort silence (No k) e = omega arith
claimed_sort silence (Yes k) e = omega arith
claimed_sort silence (Undeclared k) e = omega arith

never_climbed : (left : ℕ) (xs : List Entry) (bus kind address k : ℕ) → says xs bus kind address ≡ Say.parent
    → claim_beside xs (head bus (parents_of (links xs) bus)) bus kind address ≡ true
    → sort (climb left xs bus kind address k) ≡ 1 → ⊥
unfolding climb leaves sort
never_climbed zero xs bus kind address k p c e = omega (arith, rw p at e)
never_climbed (suc left) xs bus kind address k p c e =
    let up = head bus (parents_of (links xs) bus) in
    claimed_sort (silence_beside xs up bus) (climb left xs up kind address (k + 1)) (rw (p, c) at e)

never_of : (n : ℕ) (x : Seen) {k : ℕ} → (sort x ≡ 1 → ⊥) → answered n x ≡ Ok (Yes k) → ⊥
unfolding sort
never_of n x f e = f (sym (ap sort (given_ok n x (sym e)).1))

-- "MPS 4.4.2 gives it only what nobody else there claims.": a bus with another beside it that claims the address never answers
-- yes through its parent, of every table and question.
pub never_through : (t : List ℕ) (bus kind address k : ℕ) → says (extended_entries t) bus kind address ≡ Say.parent
    → claim_of t bus kind address ≡ true → seen t bus kind address ≡ Ok (Yes k) → ⊥
unfolding seen seen_by sort
never_through t bus kind address k p c e =
    never_of (refusal (address_rules t bus kind)) _
    (never_climbed (length (ids_of bus_type (base_entries t)) - 1) (extended_entries t) bus kind address 0 p c) e

-- ---- What a bus claims by itself, and that it is silent, are answers of the query: with no link climbed

-- What comes from a parent has climbed a link.
beyond : (claim silence : Bool) (x z : Seen) → links_in z ≡ 0 → unclaimed claim silence (onward x) ≡ z → ⊥
unfolding sort
beyond claim silence (No k) z l e = omega (arith, ap links_in e)
beyond true silence (Yes k) z l e = omega (arith, ap links_in e)
beyond false true (Yes k) z l e = omega (arith, ap links_in e)
beyond false false (Yes k) z l e = omega (arith, ap links_in e)
beyond claim silence (Undeclared k) z l e = omega (arith, ap links_in e)

itself_yes : (s : Say) (x : Seen) → (x ≡ Yes 0 → ⊥) → (answer s 0 x ≡ Yes 0) ↔ (is_yes s ≡ true)
unfolding sort
itself_yes Say.no x n = (λ e. absurd (omega (arith, ap sort e)), λ f. absurd (false≢true f))
itself_yes Say.yes x n = (λ e. refl, λ f. refl)
itself_yes Say.parent x n = (λ e. absurd (n e), λ f. absurd (false≢true f))
itself_yes Say.undeclared x n = (λ e. absurd (omega (arith, ap sort e)), λ f. absurd (false≢true f))

itself_undeclared : (s : Say) (x : Seen) → (x ≡ Undeclared 0 → ⊥) → (answer s 0 x ≡ Undeclared 0) ↔ (is_undeclared s ≡ true)
unfolding sort
itself_undeclared Say.no x n = (λ e. absurd (omega (arith, ap sort e)), λ f. absurd (false≢true f))
itself_undeclared Say.yes x n = (λ e. absurd (omega (arith, ap sort e)), λ f. absurd (false≢true f))
itself_undeclared Say.parent x n = (λ e. absurd (n e), λ f. absurd (false≢true f))
itself_undeclared Say.undeclared x n = (λ e. refl, λ f. refl)

-- Of an accepted table, a listed bus and a kind.
module _ (t : List ℕ) (bus kind address : ℕ) (a : table_refusal t ≡ 0) (l : is_listed (base_entries t) bus ≡ true) (h : kind ≤ space_kind_most) where
  from_parent : (z : Seen) → links_in z ≡ 0
      → leaves (extended_entries t) (parent_of t bus) bus kind address (onward (seen_by t (parent_of t bus) kind address)) ≡ z → ⊥
  unfolding leaves
  from_parent = beyond (claim_of t bus kind address) (silence_of t bus) (seen_by t (parent_of t bus) kind address)

  -- What is answered is that answer.
  answer_alone : {x y : Seen} → seen t bus kind address ≡ Ok x → (seen t bus kind address ≡ Ok y) ↔ (x ≡ y)
  answer_alone {x} {y} e = (λ f. sym (given_ok 0 x (sym f ∙ e)).1, λ f. e ∙ ap Ok f)

  pub claims_itself : (seen t bus kind address ≡ Ok (Yes 0)) ↔ (claims (extended_entries t) kind address bus ≡ true)
  unfolding sort
  claims_itself =
      let alone = answer_alone (seen_says t bus kind address a l h).1 in
      let own = itself_yes (says (extended_entries t) bus kind address) _ (from_parent (Yes 0) refl) in
      let claimed = claims_yes kind address bus (extended_entries t) in
      (λ e. sym claimed ∙ own.0 (alone.0 e), λ e. alone.1 (own.1 (claimed ∙ e)))

  pub silent_itself : (seen t bus kind address ≡ Ok (Undeclared 0)) ↔ (silent (extended_entries t) bus ≡ true)
  unfolding sort
  silent_itself =
      let alone = answer_alone (seen_says t bus kind address a l h).1 in
      let own = itself_undeclared (says (extended_entries t) bus kind address) _ (from_parent (Undeclared 0) refl) in
      let quiet = silent_undeclared kind address bus (extended_entries t) in
      (λ e. sym quiet ∙ own.0 (alone.0 e), λ e. alone.1 (own.1 (quiet ∙ e)))
