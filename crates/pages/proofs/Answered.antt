-- What is so where a call on a book refuses nothing. Assumes nothing.
use Prim.Native.Nat.{ℕ, ◌≤◌}
use mathlib.Core.Path.{◌≡◌, refl}
use mathlib.Core.Bool.{Bool, true, false, not, ◌||◌, false≢true}
use mathlib.Core.Logic.{◌↔◌}
use mathlib.Core.List.{List, [], ◌∷◌}
use native.Mathlib.Omega.{arith}
use lib.ListN.{length}
use lib.Dec.{ltb, eqb}
use borrow.Author.Tests.{eqb-true, eqb-false, ltb-false, not-false}
use Rattle.mps.specs.Words.{among, each, first}
use Rattle.mps.specs.Refusals.{◌when◌, refusal}
use Rattle.mps.specs.Rooms.{too_small}
use Rattle.mps.specs.Layout.{edition_most}
use Rattle.mps.specs.Judge.{table_rules}
use Rattle.mps.specs.Book.{BookLayout, latest, body_rules, rows_of, good_book, bad_book}
use Rattle.mps.specs.History.{book_rules, book_refusal, holds_edition, edition_rules, edition_refusal}
use Rattle.mps.specs.Saving.{Addition, grown_book, not_latest, book_full, addition_rules}
use Rattle.mps.specs.Saving.{Ask, save, restore, addition, ask_rules, add_refusal}
use Rattle.laws.proofs.Tests.{or_parts}
use Rattle.laws.proofs.Refusals.{number, refusal_append, refusal_pass}

module _ (l : BookLayout) (s : List ℕ) where
  -- ---- What is asked of a book

  -- The book is good.
  pub book_answered : (book_refusal l s ≡ 0) ↔ (good_book l s ≡ true)
  unfolding book_refusal book_rules refusal bad_book
  book_answered = cases (good_book l s)
    where
      cases : (b : Bool) → (refusal (27 when not b ∷ []) ≡ 0) ↔ (b ≡ true)
      cases true = (λ e. refl, λ e. refl)
      cases false = (λ e. absurd (omega (arith, e)), λ e. absurd (false≢true e))

  -- It holds the edition too.
  pub edition_answered : (m e : ℕ)
      → (edition_refusal l s m e ≡ 0) ↔ ((good_book l s ≡ true) × (holds_edition m e (rows_of l s) ≡ true))
  unfolding edition_refusal edition_rules refusal bad_book
  edition_answered m e = cases (good_book l s) (holds_edition m e (rows_of l s))
    where
      cases : (b h : Bool) → (refusal (27 when not b ∷ 28 when not h ∷ []) ≡ 0) ↔ ((b ≡ true) × (h ≡ true))
      cases true true = (λ e. (refl, refl), λ e. refl)
      cases true false = (λ e. absurd (omega (arith, e)), λ e. absurd (false≢true e.1))
      cases false h = (λ e. absurd (omega (arith, e)), λ e. absurd (false≢true e.0))

  -- ---- An addition

  -- What is asked for is tested first, then the addition.
  ask_some : (ask : Ask) → among 0 (each number (ask_rules l s ask)) ≡ false
  unfolding ask_rules book_rules body_rules table_rules edition_rules among each
  ask_some (save machine began body) = refl
  ask_some (restore machine old now) = refl

  pub add_first : (ask : Ask)
      → add_refusal l s ask ≡ first (refusal (ask_rules l s ask)) (refusal (addition_rules l s (addition l s ask)))
  unfolding add_refusal
  add_first ask = refusal_append (ask_rules l s ask) (addition_rules l s (addition l s ask)) (ask_some ask)

  module _ (a : Addition) where
    -- It began from the latest, and the book is not full.
    pub addition_answered :
        refusal (addition_rules l s a) ≡ 0 → (latest a.machine (rows_of l s) ≡ a.began) × (book_full l s a ≡ false)
    unfolding addition_rules not_latest
    addition_answered e =
        let p = refusal_pass 28 _ _ (omega arith) e in
        let now = latest a.machine (rows_of l s) in
        (eqb-true now a.began (not-false (eqb now a.began) p.0), (refusal_pass 29 _ _ (omega arith) p.1).0)

    pub not_full : book_full l s a ≡ false
        → (length (grown_book l s a) ≤ l.most) × (length (grown_book l s a) ≤ length s)
        × (latest a.machine (rows_of l s) ≡ edition_most → ⊥)
    unfolding book_full too_small
    not_full f =
        let n = length (grown_book l s a) in
        let now = latest a.machine (rows_of l s) in
        let p = or_parts (ltb l.most n || ltb (length s) n) (eqb now edition_most) f in
        let q = or_parts (ltb l.most n) (ltb (length s) n) p.0 in
        (ltb-false l.most n q.0, ltb-false (length s) n q.1, eqb-false now edition_most p.1)
