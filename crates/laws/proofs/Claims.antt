-- Laws of document 02's ask 5. What a bus claims, and whether it is silent, by its word: it says yes exactly where it "declares or
-- adds the address and doesn't take it away", and undeclared exactly where it "has neither 128 nor 130 entry and no subtractive
-- bit". Which entries are those of another bus, and what is left of a parent's answer. Assumes nothing.
use Prim.Native.Nat.{ℕ}
use mathlib.Core.Path.{◌≡◌, refl}
use mathlib.Core.Bool.{Bool, true, false, cond, not, ◌||◌, ◌&&◌, and-false, true≢false}
use lib.Dec.{eqb}
use mathlib.Core.List.{List, [], ◌∷◌}
use Rattle.mps.specs.Words.{any}
use Rattle.mps.specs.Layout.{Entry, of_type, mapping_type, modifier_type, parent_bus}
use Rattle.mps.specs.Rules.{on_bus, links}
use Rattle.mps.specs.Addresses.{covers, touches, takes_away, adds, covers_or_adds, has_entry, subtractive, Say, says, another, claims, silent, unclaimed}
use Rattle.mps.specs.declared.Seen.{Seen}
use Rattle.mps.specs.declared.Seen.TheVariants.{No, Yes, Undeclared}
use Rattle.laws.proofs.Tests.{or_parts}

abbrev pub is_yes : Say → Bool
is_yes Say.no = false
is_yes Say.yes = true
is_yes Say.parent = false
is_yes Say.undeclared = false

abbrev pub is_undeclared : Say → Bool
is_undeclared Say.no = false
is_undeclared Say.yes = false
is_undeclared Say.parent = false
is_undeclared Say.undeclared = true

yes_claims : (taken seen linked declared : Bool)
    → is_yes (cond taken Say.no (cond seen Say.yes (cond linked Say.parent (cond declared Say.no Say.undeclared)))) ≡ (seen && not taken)
yes_claims true true linked declared = refl
yes_claims true false linked declared = refl
yes_claims false true linked declared = refl
yes_claims false false true declared = refl
yes_claims false false false true = refl
yes_claims false false false false = refl

-- A bus that has no 128 or 130 entry has none that covers, adds or takes away.
undeclared_silent : (taken seen linked declared : Bool) → (declared ≡ false → (taken ≡ false) × (seen ≡ false))
    → is_undeclared (cond taken Say.no (cond seen Say.yes (cond linked Say.parent (cond declared Say.no Say.undeclared)))) ≡ (not declared && not linked)
undeclared_silent true seen linked true h = refl
undeclared_silent true seen linked false h = absurd (true≢false (h refl).0)
undeclared_silent false true linked true h = refl
undeclared_silent false true linked false h = absurd (true≢false (h refl).1)
undeclared_silent false false true true h = refl
undeclared_silent false false true false h = refl
undeclared_silent false false false true h = refl
undeclared_silent false false false false h = refl

none_tests : (m d o k i b t u v : Bool) → ((m || d) && o) ≡ false
    → (((d && o && k && i) && b) ≡ false) × ((m && o && t && u && v || (d && o && k && i) && not b) ≡ false)
none_tests true true true k i b t u v h = absurd (true≢false h)
none_tests true true false k i b t u v h = (refl, refl)
none_tests true false true k i b t u v h = absurd (true≢false h)
none_tests true false false k i b t u v h = (refl, refl)
none_tests false true true k i b t u v h = absurd (true≢false h)
none_tests false true false k i b t u v h = (refl, refl)
none_tests false false o k i b t u v h = (refl, refl)

module _ (kind address bus : ℕ) where
  none_said : (e : Entry) → has_entry bus e ≡ false → (takes_away bus kind address e ≡ false) × (covers_or_adds bus kind address e ≡ false)
  unfolding has_entry takes_away covers_or_adds covers adds touches
  none_said e n = none_tests (of_type mapping_type e) (of_type modifier_type e) (on_bus bus e) _ _ _ _ _ _ n

  none_says : (xs : List Entry) → any (has_entry bus) xs ≡ false
      → (any (takes_away bus kind address) xs ≡ false) × (any (covers_or_adds bus kind address) xs ≡ false)
  unfolding any
  none_says [] n = (refl, refl)
  none_says (e ∷ xs) n =
      let h = or_parts (has_entry bus e) (any (has_entry bus) xs) n in
      let one = none_said e h.0 in
      let more = none_says xs h.1 in
      (rw one.0 more.0, rw one.1 more.1)

  pub claims_yes : (xs : List Entry) → is_yes (says xs bus kind address) ≡ claims xs kind address bus
  unfolding says claims
  claims_yes xs =
      yes_claims (any (takes_away bus kind address) xs) (any (covers_or_adds bus kind address) xs) (any (subtractive bus) (links xs))
      (any (has_entry bus) xs)

  pub silent_undeclared : (xs : List Entry) → is_undeclared (says xs bus kind address) ≡ silent xs bus
  unfolding says silent
  silent_undeclared xs =
      undeclared_silent (any (takes_away bus kind address) xs) (any (covers_or_adds bus kind address) xs) (any (subtractive bus) (links xs))
      (any (has_entry bus) xs) (none_says xs)

-- ---- "another bus with that parent"

module _ (up bus : ℕ) (e : Entry) where
  -- The bus's own entry is not another's,
  pub another_own : on_bus bus e ≡ true → another up bus e ≡ false
  unfolding another
  another_own o = simp (o, and-false)

  -- nor is one with another parent,
  pub another_elsewhere : eqb (parent_bus e) up ≡ false → another up bus e ≡ false
  unfolding another
  another_elsewhere p = rw p

  -- but any other is.
  pub another_here : eqb (parent_bus e) up ≡ true → on_bus bus e ≡ false → another up bus e ≡ true
  unfolding another
  another_here p o = rw (p, o)

-- ---- What is left of an answer

-- It is as it was, or it was yes and is no or undeclared.
pub unclaimed_cases : (C : Seen → Type 0) (claim silence : Bool) (x : Seen)
    → C x → ((k : ℕ) → x ≡ Yes k → C (No k)) → ((k : ℕ) → x ≡ Yes k → C (Undeclared k)) → C (unclaimed claim silence x)
unclaimed_cases C claim silence (No k) c n u = c
unclaimed_cases C true silence (Yes k) c n u = n k refl
unclaimed_cases C false true (Yes k) c n u = u k refl
unclaimed_cases C false false (Yes k) c n u = c
unclaimed_cases C claim silence (Undeclared k) c n u = c

-- All of it, where nobody claims it and nobody is silent.
pub unclaimed_all : (x : Seen) → unclaimed false false x ≡ x
unclaimed_all (No k) = refl
unclaimed_all (Yes k) = refl
unclaimed_all (Undeclared k) = refl
