-- The list of parents, and that the climb over marks, parents and what is said below is mps's `climb`. Assumes nothing.
use Prim.Native.Nat.{ℕ, zero, suc, ◌+◌, ◌-◌, ◌<◌}
use mathlib.Core.Path.{◌≡◌, refl, ap, sym, ◌∙◌}
use mathlib.Core.Bool.{Bool, true, false, cond, true≢false, false≢true}
use mathlib.Core.Logic.{◌⊎◌, inl, inr}
use mathlib.Core.List.{List, [], ◌∷◌}
use native.Mathlib.Omega.{arith}
use lib.ListN.{length, set, length-set}
use lib.Seq.{get_or-set_same, get_or-set_other}
use lib.Dec.{eqb}
use borrow.Author.Tests.{eqb-true, eqb-false}
use Rattle.mps.specs.Words.{byte, among, keep, any, each, twice, none, head}
use Rattle.mps.specs.Layout.{Entry, extended_bus, parent_bus}
use Rattle.mps.specs.Rules.{on_bus, links, parents_of}
use Rattle.mps.specs.Addresses.{takes_away, covers_or_adds, has_entry, subtractive, Say, says, answer, claim_beside, silence_beside, unclaimed, leaves, climb}
use Rattle.mps.specs.declared.Seen.{Seen}
use Rattle.mps.specs.declared.Seen.TheVariants.{No, Yes, Undeclared}
use Rattle.laws.proofs.Tests.{whether, or_parts}
use Rattle.laws.proofs.Small.{Bytes, Small, small_none, small_more, bytes_set}
use Rattle.laws.proofs.Claims.{unclaimed_all}
use Rattle.laws.proofs.Circle.{parents_of_here, parents_of_skip}
use Rattle.marks.specs.Marks.{meaning, parented}
use Rattle.marks.proofs.Below.{spoken}
use Rattle.addresses.specs.Climbing.{left_by, climb_in, narrowed, instead}

-- ---- Parents

-- A bus without a link among those put in is left as it was,
parented_other : (parents : List ℕ) (ls : List Entry) (bus : ℕ) → among bus (each extended_bus ls) ≡ false
    → byte (parented parents ls) bus ≡ byte parents bus
unfolding parented each among
parented_other parents [] bus a = refl
parented_other parents (e ∷ ls) bus a =
    let h = or_parts (eqb bus (extended_bus e)) (among bus (each extended_bus ls)) a in
    parented_other (set parents (extended_bus e) (parent_bus e)) ls bus h.1
    ∙ get_or-set_other parents (extended_bus e) bus (parent_bus e) 0 (eqb-false bus (extended_bus e) h.0)

-- Where no bus has two links, the list of parents has that of each bus that has one, and what stood there for the others.
pub parented_byte : (parents : List ℕ) (ls : List Entry) (bus : ℕ) → bus < length parents → twice (each extended_bus ls) ≡ false
    → byte (parented parents ls) bus ≡ head (byte parents bus) (parents_of ls bus)
unfolding parented each twice parents_of keep
parented_byte parents [] bus h t = refl
parented_byte parents (e ∷ ls) bus h t =
    let b = extended_bus e in
    let up = parent_bus e in
    let n = or_parts (among b (each extended_bus ls)) (twice (each extended_bus ls)) t in
    whether (on_bus bus e)
    (λ q. rw (parents_of_here bus e ls q, ← eqb-true b bus q)
    (parented_other (set parents b up) ls b n.0 ∙ get_or-set_same parents b up 0 (rw (eqb-true b bus q) h)))
    (λ q. rw (parents_of_skip bus e ls q)
    (parented_byte (set parents b up) ls bus (rw length-set h) n.1 ∙ rw (get_or-set_other parents b bus up 0 (λ p. eqb-false b bus q (sym p)))))

pub bytes_parented : (parents : List ℕ) {ls : List Entry} → Bytes parents → Small ls → Bytes (parented parents ls)
unfolding parented
bytes_parented parents b small_none = b
bytes_parented parents b (small_more {e} c l) =
    bytes_parented (set parents (extended_bus e) (parent_bus e)) (bytes_set parents (extended_bus e) (parent_bus e) b (c 4)) l

is_parent : Say → Bool
is_parent Say.no = false
is_parent Say.yes = false
is_parent Say.parent = true
is_parent Say.undeclared = false

own_word : (a b d : Bool) → is_parent (cond a Say.no (cond b Say.yes (cond d Say.no Say.undeclared))) ≡ false
unfolding is_parent
own_word true b d = refl
own_word false true d = refl
own_word false false true = refl
own_word false false false = refl

-- The subtractive bit stands in a link, so a bus without one does not have it,
pub subtractive_none : (bus : ℕ) (ls : List Entry) → none (parents_of ls bus) ≡ true → any (subtractive bus) ls ≡ false
unfolding any subtractive
subtractive_none bus [] h = refl
subtractive_none bus (e ∷ ls) h =
    whether (on_bus bus e)
    (λ o. absurd (false≢true (rw (parents_of_here bus e ls o) at h)))
    (λ o. rw (any, subtractive, o) (subtractive_none bus ls (rw (parents_of_skip bus e ls o) at h)))

-- and does not ask a parent.
pub parent_linked : (xs : List Entry) (bus kind address : ℕ) → says xs bus kind address ≡ Say.parent → none (parents_of (links xs) bus) ≡ true → ⊥
unfolding says is_parent
parent_linked xs bus kind address p n =
    let own = own_word (any (takes_away bus kind address) xs) (any (covers_or_adds bus kind address) xs) (any (has_entry bus) xs) in
    true≢false (sym (ap is_parent (rw (subtractive_none bus (links xs) n) at p)) ∙ own)

-- Where there is a first, no other is taken.
pub head_some : (d e : ℕ) (ps : List ℕ) → (none ps ≡ true → ⊥) → head d ps ≡ head e ps
head_some d e [] n = absurd (n refl)
head_some d e (p ∷ ps) n = refl

-- ---- The climb

-- Only what says that the parent is to be asked looks at what it answers.
pub answer_above : (s : Say) (climbed : ℕ) {x y : Seen} → (s ≡ Say.parent → x ≡ y) → answer s climbed x ≡ answer s climbed y
answer_above Say.no climbed f = refl
answer_above Say.yes climbed f = refl
answer_above Say.parent climbed f = f refl
answer_above Say.undeclared climbed f = refl

-- It looks at no parent unless it is to ask it.
own_answer : (mark climbed : ℕ) (x y : Seen) → (mark ≡ 2 → ⊥) → answer (meaning mark) climbed x ≡ answer (meaning mark) climbed y
own_answer zero climbed x y n = refl
own_answer (suc zero) climbed x y n = refl
own_answer (suc (suc zero)) climbed x y n = absurd (n refl)
own_answer (suc (suc (suc zero))) climbed x y n = refl
own_answer (suc (suc (suc (suc mark)))) climbed x y n = refl

-- Where the mark that stands for yes is that of yes, an answer is what it is.
pub instead_yes : (x : Seen) → instead 3 x ≡ x
instead_yes (No k) = refl
instead_yes (Yes k) = refl
instead_yes (Undeclared k) = refl

-- To narrow the mark that stands for yes, and take the parent's answer, is to keep it, and take what is left of that answer.
instead_left : (kept said : ℕ) (x : Seen) → instead (narrowed kept said) x ≡ instead kept (left_by said x)
instead_left kept zero x = refl
instead_left kept (suc zero) (No k) = refl
instead_left kept (suc zero) (Yes k) = refl
instead_left kept (suc zero) (Undeclared k) = refl
instead_left kept (suc (suc said)) (No k) = refl
instead_left kept (suc (suc said)) (Yes k) = refl
instead_left kept (suc (suc said)) (Undeclared k) = refl

-- The end by a mark, where another stands for yes.
module _ (mark kept climbed : ℕ) where
  pub ends_yes : mark ≡ 3 → answer (meaning kept) climbed (Undeclared climbed) ≡ instead kept (answer (meaning mark) climbed (Undeclared climbed))
  ends_yes e = rw e

pub ends_own : (mark kept climbed : ℕ) → (mark ≡ 3 → ⊥)
    → answer (meaning mark) climbed (Undeclared climbed) ≡ instead kept (answer (meaning mark) climbed (Undeclared climbed))
ends_own zero kept climbed n = refl
ends_own (suc zero) kept climbed n = refl
ends_own (suc (suc zero)) kept climbed n = refl
ends_own (suc (suc (suc zero))) kept climbed n = absurd (n refl)
ends_own (suc (suc (suc (suc mark)))) kept climbed n = refl

-- The steps of the climb: the bus asks its parent, no bus is left, or it does not ask.
module _ (marks parents below : List ℕ) (bus at climbed kept left : ℕ) (b : at ≡ bus) where
  pub climb_up : {up at_up said : ℕ} {r : Seen} → 0 < left → byte marks at ≡ 2 → up ≡ byte parents at → at_up ≡ up → said ≡ narrowed kept (byte below at_up)
      → r ≡ instead said (climb_in (left - 1) marks parents below up (climbed + 1))
      → r ≡ instead kept (climb_in left marks parents below bus climbed)
  unfolding climb_in
  climb_up {up} h m u a n e =
      let more : left ≡ suc (left - 1) = omega (arith, h) in
      rw (more, climb_in, ← b, m, ← u) ((rw (n, a) at e) ∙ instead_left kept (byte below up) _)

  -- A bus that does not ask, or has none left to ask, answers by itself: by the mark for yes where it sees the address.
  module _ (e : (left ≡ 0) ⊎ (byte marks at ≡ 2 → ⊥)) where
    climb_own : climb_in left marks parents below bus climbed ≡ answer (meaning (byte marks at)) climbed (Undeclared climbed)
    unfolding climb_in
    climb_own = rw (← b) (own left e)
      where
        own : (k : ℕ) → (k ≡ 0) ⊎ (byte marks at ≡ 2 → ⊥) → climb_in k marks parents below at climbed ≡ answer (meaning (byte marks at)) climbed (Undeclared climbed)
        own zero e = refl
        own (suc k) (inl z) = absurd (omega (arith, z))
        own (suc k) (inr n) = own_answer (byte marks at) climbed _ _ n

    pub climb_yes : byte marks at ≡ 3 → answer (meaning kept) climbed (Undeclared climbed) ≡ instead kept (climb_in left marks parents below bus climbed)
    climb_yes s = ends_yes (byte marks at) kept climbed s ∙ ap (instead kept) (sym climb_own)

    pub climb_no : (byte marks at ≡ 3 → ⊥)
        → answer (meaning (byte marks at)) climbed (Undeclared climbed) ≡ instead kept (climb_in left marks parents below bus climbed)
    climb_no s = ends_own (byte marks at) kept climbed s ∙ ap (instead kept) (sym climb_own)

-- What is left of an answer by what is said below, where that tells whether one claims the address and whether one is silent.
left_spoken : (claim silence : Bool) (x : Seen) → left_by (spoken claim silence) x ≡ unclaimed claim silence x
left_spoken true silence (No k) = refl
left_spoken true silence (Yes k) = refl
left_spoken true silence (Undeclared k) = refl
left_spoken false true x = refl
left_spoken false false x = sym (unclaimed_all x)

-- From any lists that say what the entries say, of buses below 256.
module _ (marks parents below : List ℕ) (xs : List Entry) (kind address : ℕ)
    (m : (bus : ℕ) → bus < 256 → meaning (byte marks bus) ≡ says xs bus kind address)
    (p : (bus : ℕ) → bus < 256 → says xs bus kind address ≡ Say.parent → byte parents bus ≡ head bus (parents_of (links xs) bus))
    (b : Bytes parents)
    (s : (up bus : ℕ) → up < 256 → says xs bus kind address ≡ Say.parent
    → byte below up ≡ spoken (claim_beside xs up bus kind address) (silence_beside xs up bus))
  where
    left_leaves : (up bus : ℕ) → up < 256 → says xs bus kind address ≡ Say.parent → (x : Seen)
        → left_by (byte below up) x ≡ leaves xs up bus kind address x
    unfolding leaves
    left_leaves up bus h q x = rw (s up bus h q) (left_spoken _ _ x)

    pub climb_in_lem : (left bus climbed : ℕ) → bus < 256
        → climb_in left marks parents below bus climbed ≡ climb left xs bus kind address climbed
    unfolding climb_in climb
    climb_in_lem zero bus climbed h = rw (m bus h)
    climb_in_lem (suc left) bus climbed h =
        rw (m bus h) (answer_above (says xs bus kind address) climbed
        (λ q. rw (← p bus h q)
        (left_leaves (byte parents bus) bus (b bus) q _
        ∙ rw (climb_in_lem left (byte parents bus) (climbed + 1) (b bus)))))
