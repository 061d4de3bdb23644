-- That what is said below a bus is, for each bus that asks it, what the others with that parent say, by mps's `claims` and
-- `silent`. Assumes nothing.
use Prim.Native.Nat.{ℕ, zero, suc, ◌≤◌, ◌<◌, max}
use mathlib.Core.Path.{◌≡◌, refl, ap, sym, ◌∙◌}
use mathlib.Core.Bool.{Bool, true, false, cond, ◌||◌}
use mathlib.Core.List.{List, [], ◌∷◌}
use native.Mathlib.Omega.{arith}
use lib.Dec.{eqb}
use borrow.Author.Tests.{eqb-true}
use Rattle.mps.specs.Words.{byte, keep, any, each}
use Rattle.mps.specs.Layout.{Entry, extended_bus, parent_bus}
use Rattle.mps.specs.Rules.{on_bus}
use Rattle.mps.specs.Addresses.{Say, says, another, others, claims, silent}
use Rattle.laws.proofs.Tests.{whether}
use Rattle.laws.proofs.Lists.{keep_in, keep_out, zeros_at}
use Rattle.laws.proofs.Claims.{is_yes, is_undeclared, claims_yes, silent_undeclared, another_own, another_elsewhere, another_here}
use Rattle.laws.proofs.Small.{Bytes, Small, small_none, small_more}
use Rattle.marks.specs.Marks.{meaning, said_beside, said_below, nothing}
use Rattle.marks.proofs.Marks.{cond_most, cond_max, highest, marked_byte, max_none, length_nothing}

-- ---- What a bus says beside, by its word

-- Two tests as a number, the first before the second.
abbrev pub spoken : Bool → Bool → ℕ
spoken claim silence = cond claim 2 (cond silence 1 0)

beside_meaning : (mark : ℕ) → said_beside mark ≡ spoken (is_yes (meaning mark)) (is_undeclared (meaning mark))
beside_meaning zero = refl
beside_meaning (suc zero) = refl
beside_meaning (suc (suc zero)) = refl
beside_meaning (suc (suc (suc zero))) = refl
beside_meaning (suc (suc (suc (suc mark)))) = refl

-- ---- What the others say

spoken_more : (a b c d : Bool) → max (spoken a c) (spoken b d) ≡ spoken (a || b) (c || d)
spoken_more a b c d =
    let one : (x : Bool) → cond x 1 0 ≤ 2 = λ x. omega (arith, cond_most x 1 0 (omega arith)) in
    cond_max a b 2 _ _ (one c) (one d) ∙ ap (cond (a || b) 2) (cond_max c d 1 0 0 (omega arith) (omega arith))

module _ (xs : List Entry) (kind address : ℕ) (marks : List ℕ) (m : (bus : ℕ) → bus < 256 → meaning (byte marks bus) ≡ says xs bus kind address) where
  -- What a link puts to its parent.
  put : Entry → ℕ
  put e = said_beside (byte marks (extended_bus e))

  put_said : (e : Entry) → Bytes e → put e ≡ spoken (claims xs kind address (extended_bus e)) (silent xs (extended_bus e))
  unfolding put
  put_said e b =
      beside_meaning (byte marks (extended_bus e))
      ∙ rw (m (extended_bus e) (b 2), claims_yes kind address (extended_bus e) xs, silent_undeclared kind address (extended_bus e) xs)

  module _ (up bus : ℕ) (asks : says xs bus kind address ≡ Say.parent) where
    -- A bus that asks its parent says nothing to the others.
    put_own : (e : Entry) → Bytes e → on_bus bus e ≡ true → put e ≡ 0
    unfolding put
    put_own e b o =
        beside_meaning (byte marks (extended_bus e))
        ∙ rw (m (extended_bus e) (b 2), eqb-true (extended_bus e) bus o, asks)

    spoken_by : List Entry → ℕ
    spoken_by ls = spoken (any (claims xs kind address) (others ls up bus)) (any (silent xs) (others ls up bus))

    said_skip : (e : Entry) (ls : List Entry) → another up bus e ≡ false → spoken_by (e ∷ ls) ≡ spoken_by ls
    unfolding spoken_by others
    said_skip e ls n = rw (keep_out (another up bus) e ls n)

    said_here : (e : Entry) (ls : List Entry) → Bytes e → another up bus e ≡ true → max (put e) (spoken_by ls) ≡ spoken_by (e ∷ ls)
    unfolding spoken_by others any each
    said_here e ls b n =
        rw (put_said e b, keep_in (another up bus) e ls n)
        (spoken_more (claims xs kind address (extended_bus e)) _ (silent xs (extended_bus e)) _)

    spoken_none : spoken_by [] ≡ 0
    unfolding spoken_by others keep each any
    spoken_none = refl

    highest_others : {ls : List Entry} → Small ls → highest parent_bus put up ls ≡ spoken_by ls
    unfolding highest
    highest_others small_none = sym spoken_none
    highest_others (small_more {e} {es = ls} b l) =
        whether (eqb (parent_bus e) up)
        (λ p. whether (on_bus bus e)
        (λ o. rw (p, put_own e b o, highest_others l, said_skip e ls (another_own up bus e o)) (max_none (spoken_by ls)))
        (λ o. rw (p, highest_others l) (said_here e ls b (another_here up bus e p o))))
        (λ p. rw (p, highest_others l, said_skip e ls (another_elsewhere up bus e p)) (max_none (spoken_by ls)))

    -- What is said below a parent is what the others with that parent say, for a bus that asks it.
    pub said_others : {ls : List Entry} → Small ls → up < 256
        → byte (said_below marks nothing ls) up ≡ spoken (any (claims xs kind address) (others ls up bus)) (any (silent xs) (others ls up bus))
    unfolding put spoken_by
    said_others {ls} l h =
        marked_byte parent_bus put nothing ls up (rw length_nothing h) ∙ rw (zeros_at 256 up, max_none) (highest_others l)
