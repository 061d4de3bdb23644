-- Demand 2, of the addresses seen by a bus: the links of an answer are those climbed, at most the listed buses less one; "the
-- parent's answer" is what the other buses with that parent leave of the answer that the parent gives, with one link more. The
-- numbers of an address query, "given exactly when". Assumes nothing.
use Prim.Native.Nat.{ℕ, zero, suc, ◌+◌, ◌-◌, ◌<◌, ◌≤◌}
use mathlib.Core.Path.{◌≡◌, refl, sym, ap, ◌∙◌}
use mathlib.Core.Bool.{Bool, true, false, not}
use mathlib.Core.Logic.{◌↔◌}
use mathlib.Core.List.{List, [], ◌∷◌}
use native.Mathlib.Nat.{zero-add, add-zero}
use native.Mathlib.Numerals.{add-one}
use native.Mathlib.Omega.{arith}
use lib.ListN.{length}
use borrow.Author.Tests.{not-false}
use Rattle.mps.specs.Words.{among, keep, any, each, none, head}
use Rattle.mps.specs.Refusals.{◌when◌, refusal}
use Rattle.mps.specs.Layout.{Entry, bus_type, space_kind_most, extended_bus, parent_bus, base_entries, extended_entries}
use Rattle.mps.specs.Rules.{is_listed, ids_of, links, on_bus, parents_of, wrong_hierarchy}
use Rattle.mps.specs.Judge.{table_rules, table_refusal}
use Rattle.mps.specs.Addresses.{Say, says, answer, unclaimed, leaves, climb, seen_by, wrong_space, address_rules, seen}
use Rattle.std.specs.Prelude.{Ok, Err}
use Rattle.mps.specs.Reasons.{number_of_refusal}
use Rattle.mps.specs.Answers.{links_in, links_of}
use Rattle.mps.specs.declared.refusals.Refusal.{Refusal}
use Rattle.mps.specs.declared.Seen.{Seen}
use Rattle.mps.specs.declared.Seen.TheVariants.{No, Yes, Undeclared}
use Rattle.laws.proofs.Tests.{whether, or_parts}
use Rattle.laws.proofs.Refusals.{so, refusal_none, given_before, given_exactly}
use Rattle.laws.proofs.Circle.{parents_of_here, parents_of_skip}
use Rattle.accepted.proofs.Obeyed.{obeyed}
use Rattle.laws.proofs.Answers.{err_exactly}
use Rattle.promises.specs.Numbered.{address_numbers}
use Rattle.promises.proofs.Answered.{known}
use Rattle.promises.proofs.Numbered.{address_numbered}
use Rattle.promises.proofs.Given.{Exactly}
use Rattle.addresses.proofs.Links.{links_leaves, links_climb, links_bound}
use Rattle.addresses.proofs.Climbs.{parent_linked, answer_above}
use Rattle.addresses.proofs.Laws.{seen_answered}
use Rattle.promises.specs.Climbed.{above, down_to, Climbed, onward, parent_of}
use Rattle.promises.proofs.Climb.{seen_enough}

-- ---- The links climbed

-- Of a climb, with the links climbed before and the number that is left to fall: a bus that they lead to and that would ask
-- its parent is come to only where nothing is left.
record Way (xs : List Entry) (bus kind address before left : ℕ) (r : Seen) : Type 0 where
  more : ℕ
  counted : links_in r ≡ before + more
  asks : (k : ℕ) → k < more → says xs (above (links xs) k bus) kind address ≡ Say.parent
  ends : says xs (above (links xs) more bus) kind address ≡ Say.parent → more ≡ left
  answers : r ≡ down_to more xs bus kind address (answer (says xs (above (links xs) more bus) kind address) (before + more) (Undeclared (before + more)))

links_own : (s : Say) (k : ℕ) → links_in (answer s k (Undeclared k)) ≡ k
links_own Say.no k = refl
links_own Say.yes k = refl
links_own Say.parent k = refl
links_own Say.undeclared k = refl

-- What is no word to ask the parent is another one.
no_parent : (s : Say) → links_in (answer s 0 (No 1)) ≡ 0 → s ≡ Say.parent → ⊥
no_parent s e q = omega (arith, rw q at e)

module _ (xs : List Entry) (kind address : ℕ) where
  -- What the others leave of an answer from above.
  left_over : ℕ → Seen → Seen
  left_over bus = leaves xs (head bus (parents_of (links xs) bus)) bus kind address

  -- A bus that answers by itself,
  way_own : (left bus k : ℕ) (s : Say) (r : Seen) → says xs bus kind address ≡ s → (s ≡ Say.parent → 0 ≡ left)
      → r ≡ answer s k (Undeclared k) → Way xs bus kind address k left r
  unfolding above down_to
  way_own left bus k s r e n q =
      record {
        more = 0;
        counted = rw q (links_own s k ∙ sym (add-zero k));
        asks = λ j h. absurd (omega arith);
        ends = λ p. n (sym e ∙ p);
        answers = rw (e, add-zero k) q;
      }

  -- and one that asks its parent.
  way_up : (left bus k : ℕ) (r : Seen) → says xs bus kind address ≡ Say.parent
      → Way xs (head bus (parents_of (links xs) bus)) kind address (k + 1) left r
      → Way xs bus kind address k (suc left) (left_over bus r)
  unfolding above down_to left_over
  way_up left bus k r e w =
      record {
        more = suc w.more;
        counted = links_leaves xs _ bus kind address r ∙ w.counted ∙ moved w.more;
        asks = asks;
        ends = λ p. ap suc (w.ends p);
        answers = rw (← moved w.more) (ap (left_over bus) w.answers);
      }
    where
      moved : (m : ℕ) → k + 1 + m ≡ k + suc m
      moved m = omega arith

      asks : (j : ℕ) → j < suc w.more → says xs (above (links xs) j bus) kind address ≡ Say.parent
      asks zero h = e
      asks (suc j) h = w.asks j (omega arith)

  -- The one or the other.
  way_said : (left bus k : ℕ) (s : Say) (r : Seen) → says xs bus kind address ≡ s
      → Way xs (head bus (parents_of (links xs) bus)) kind address (k + 1) left r
      → Way xs bus kind address k (suc left) (answer s k (left_over bus r))
  way_said left bus k Say.no r e w = way_own (suc left) bus k Say.no _ e (λ p. absurd (no_parent Say.no refl p)) refl
  way_said left bus k Say.yes r e w = way_own (suc left) bus k Say.yes _ e (λ p. absurd (no_parent Say.yes refl p)) refl
  way_said left bus k Say.parent r e w = way_up left bus k r e w
  way_said left bus k Say.undeclared r e w = way_own (suc left) bus k Say.undeclared _ e (λ p. absurd (no_parent Say.undeclared refl p)) refl

  way : (left bus k : ℕ) → Way xs bus kind address k left (climb left xs bus kind address k)
  unfolding climb left_over
  way zero bus k = way_own zero bus k (says xs bus kind address) _ refl (λ p. refl) refl
  way (suc left) bus k =
      way_said left bus k (says xs bus kind address) _ refl (way left (head bus (parents_of (links xs) bus)) (k + 1))

-- A climb that has more to fall than links to climb ends at a bus that answers by itself.
climbed : (t : List ℕ) (bus kind address left : ℕ) (r : Seen) → Way (extended_entries t) bus kind address 0 left r → links_in r < left
    → Climbed t bus kind address r
climbed t bus kind address left r w h =
    let m = w.counted ∙ zero-add w.more in
    record {
      asked = λ k l. w.asks k (rw m at l);
      itself = λ p. omega (arith, h, m, w.ends (rw m at p));
      answered = rw m (rw (zero-add w.more) at w.answers);
    }

-- "The answer carries how many links to parents were climbed"
pub seen_climbed : (t : List ℕ) (bus kind address : ℕ) → table_refusal t ≡ 0 → is_listed (base_entries t) bus ≡ true → kind ≤ space_kind_most
    → (seen t bus kind address ≡ Ok (seen_by t bus kind address)) × Climbed t bus kind address (seen_by t bus kind address)
unfolding seen_by
seen_climbed t bus kind address a l k =
    let es = base_entries t in
    let xs = extended_entries t in
    let left = length (ids_of bus_type es) - 1 in
    let o = (obeyed t a).parents in
    let enough = seen_enough es xs o.listed o.rising bus l kind address 1 in (
      sym (seen_answered t bus kind address a l k),
      rw (← enough)
          (climbed t bus kind address (left + 1) _ (way xs kind address (left + 1) bus 0)
          (rw enough (omega (arith, links_climb left xs bus kind address 0)))),
    )

-- "by the definition that is at most the listed buses less one"
pub seen_links : (t : List ℕ) (bus kind address : ℕ) → links_of (seen t bus kind address) ≤ length (ids_of bus_type (base_entries t)) - 1
seen_links t bus kind address = links_bound t bus kind address

-- ---- The parent's answer

-- A climb that began one link further answers the same with one link more.
onward_answer : (s : Say) (k : ℕ) (x y : Seen) → x ≡ onward y → answer s (k + 1) x ≡ onward (answer s k y)
onward_answer Say.no k x y e = refl
onward_answer Say.yes k x y e = refl
onward_answer Say.parent k x y e = e
onward_answer Say.undeclared k x y e = refl

leaves_onward : (xs : List Entry) (up bus kind address : ℕ) (y : Seen)
    → leaves xs up bus kind address (onward y) ≡ onward (leaves xs up bus kind address y)
unfolding leaves
leaves_onward xs up bus kind address = unclaimed-onward _ _
  where
    unclaimed-onward : (claim silence : Bool) (y : Seen) → unclaimed claim silence (onward y) ≡ onward (unclaimed claim silence y)
    unclaimed-onward claim silence (No k) = refl
    unclaimed-onward true silence (Yes k) = refl
    unclaimed-onward false true (Yes k) = refl
    unclaimed-onward false false (Yes k) = refl
    unclaimed-onward claim silence (Undeclared k) = refl

climb_onward : (left : ℕ) (xs : List Entry) (bus kind address k : ℕ)
    → climb left xs bus kind address (k + 1) ≡ onward (climb left xs bus kind address k)
unfolding climb
climb_onward zero xs bus kind address k = onward_answer (says xs bus kind address) k _ _ refl
climb_onward (suc left) xs bus kind address k =
    let up = head bus (parents_of (links xs) bus) in
    onward_answer (says xs bus kind address) k _ _
    (rw (climb_onward left xs up kind address (k + 1)) (leaves_onward xs up bus kind address _))

-- A bus that has a parent has a listed one.
parent_listed : (es ls : List Entry) (bus : ℕ) → any (wrong_hierarchy es) ls ≡ false → (none (parents_of ls bus) ≡ true → ⊥)
    → is_listed es (head bus (parents_of ls bus)) ≡ true
unfolding any wrong_hierarchy parents_of keep each
parent_listed es [] bus w n = absurd (n refl)
parent_listed es (e ∷ ls) bus w n =
    let h = or_parts (wrong_hierarchy es e) (any (wrong_hierarchy es) ls) w in
    let p = or_parts (not (is_listed es (extended_bus e))) (not (is_listed es (parent_bus e))) h.0 in
    whether (on_bus bus e)
    (λ o. rw (parents_of_here bus e ls o) (not-false (is_listed es (parent_bus e)) p.1))
    (λ o. rw (parents_of_skip bus e ls o) (parent_listed es ls bus h.1 (rw (parents_of_skip bus e ls o) at n)))

-- A bus that asks its parent has one that is answered.
pub parent_answers : (t : List ℕ) (bus kind address : ℕ) → table_refusal t ≡ 0 → kind ≤ space_kind_most
    → says (extended_entries t) bus kind address ≡ Say.parent
    → seen t (parent_of t bus) kind address ≡ Ok (seen_by t (parent_of t bus) kind address)
parent_answers t bus kind address a k e =
    let xs = extended_entries t in
    let o = (obeyed t a).parents in
    sym (seen_answered t (parent_of t bus) kind address a (parent_listed (base_entries t) (links xs) bus o.listed (parent_linked xs bus kind address e)) k)

-- "first that applies", of an accepted table, a listed bus and a kind: no, yes, the parent's answer, no, else undeclared. Of the
-- parent's answer, as ask 5 amends it there, what the other buses with that parent leave. The parent's answer is that of the
-- query on it, where the bus asks it.
pub seen_says : (t : List ℕ) (bus kind address : ℕ) → table_refusal t ≡ 0 → is_listed (base_entries t) bus ≡ true → kind ≤ space_kind_most
    → (says (extended_entries t) bus kind address ≡ Say.parent → seen t (parent_of t bus) kind address ≡ Ok (seen_by t (parent_of t bus) kind address))
    × (seen t bus kind address
    ≡ Ok (answer (says (extended_entries t) bus kind address) 0
    (leaves (extended_entries t) (parent_of t bus) bus kind address (onward (seen_by t (parent_of t bus) kind address)))))
unfolding climb seen_by
seen_says t bus kind address a l k =
    let es = base_entries t in
    let xs = extended_entries t in
    let left = length (ids_of bus_type es) - 1 in
    let up = head bus (parents_of (links xs) bus) in
    let o = (obeyed t a).parents in (
      parent_answers t bus kind address a k,
      sym (seen_answered t bus kind address a l k)
          ∙ ap Ok (sym (seen_enough es xs o.listed o.rising bus l kind address 1)
          ∙ rw (add-one left) (ap (λ x. answer (says xs bus kind address) 0 (leaves xs up bus kind address x)) (climb_onward left xs up kind address 0))),
    )

-- ---- The numbers

module _ (t : List ℕ) (bus kind address : ℕ) where
  -- A refusal is answered with its number.
  pub seen_refused : (r : Refusal) → (seen t bus kind address ≡ Err r) ↔ (refusal (address_rules t bus kind) ≡ number_of_refusal r)
  unfolding seen any among each
  seen_refused r = err_exactly (refusal (address_rules t bus kind)) _ r (known (refusal (address_rules t bus kind)) address_numbers refl (address_numbered t bus kind address).known)

  -- Answered: no row is so.
  pub address_none : (refusal (address_rules t bus kind) ≡ 0) ↔ (any so (address_rules t bus kind) ≡ false)
  unfolding address_rules table_rules among each
  address_none = refusal_none (address_rules t bus kind) refl

  -- The table's own, before all else.
  pub address_table : (n : ℕ) → 0 < n → among n (24 ∷ []) ≡ false → (refusal (address_rules t bus kind) ≡ n) ↔ (table_refusal t ≡ n)
  unfolding address_rules table_refusal table_rules among each
  address_table n p q = given_before (table_rules t) (24 when wrong_space t bus kind ∷ []) refl n p q

  -- 24: "query: bus not listed, address kind over 2"
  pub address_24 : Exactly (refusal (address_rules t bus kind)) 24 (table_rules t) (wrong_space t bus kind)
  unfolding address_rules table_rules among each
  address_24 = given_exactly (table_rules t) 24 (wrong_space t bus kind) [] (omega arith) refl refl
