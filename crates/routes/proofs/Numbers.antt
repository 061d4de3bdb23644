-- The number of a query for pairs: the table's own, then that of the rows which the query has behind the table's, then 19.
-- Assumes nothing.
use Prim.Native.Nat.{ℕ, ◌/◌}
use mathlib.Core.Path.{◌≡◌, refl, sym, ◌∙◌}
use mathlib.Core.Bool.{false, not}
use mathlib.Core.List.{List, [], ◌∷◌, ◌++◌}
use lib.ListN.{length}
use Rattle.std.specs.Prelude.{Result, Err}
use Rattle.mps.specs.Words.{among, each, first}
use Rattle.mps.specs.Refusals.{Rule, ◌when◌, refusal, query_number}
use Rattle.mps.specs.Layout.{base_entries}
use Rattle.mps.specs.Rules.{is_listed}
use Rattle.mps.specs.Judge.{table_rules, table_refusal, examined}
use Rattle.mps.specs.Reasons.{refusal_numbered}
use Rattle.mps.specs.Answers.{answered}
use Rattle.mps.specs.Rooms.{too_small, lent_refusal, lent_left, fitted, fit_left}
use Rattle.mps.specs.Routes.{Question, pair_size, routes_of, wrong_line, line_rules, route_refusal, routed, routes_left}
use Rattle.mps.specs.Slots.{Slot, slot_routes_of, wrong_slot, slot_rules, slot_refusal, slot_routed, slot_routes_left}
use Rattle.mps.specs.declared.Sections.{Sections}
use Rattle.mps.specs.declared.refusals.Refusal.{Refusal}
use Rattle.laws.proofs.Answers.{answered_err}
use Rattle.laws.proofs.Refusals.{number, first_some, first_none}
use Rattle.laws.proofs.Lent.{lent_early, lent_none, left_kept, fit_late}
use Rattle.routes.specs.Pairs.{paired}
use Rattle.judge.proofs.Laws.{refused_table, behind_table_lem}

-- ---- Any query: its own rows, and its pairs

-- The number that is given.
abbrev pub given : List ℕ → List Rule → List ℕ → List ℕ → ℕ
given t own pairs room = lent_refusal (table_rules t ++ own) (too_small (length pairs) room)

-- What answers it, and what is left in the room.
abbrev pub Answers : List ℕ → List Rule → List ℕ → List ℕ → Result ℕ Refusal → List ℕ → Type 0
Answers t own pairs room r u =
    (r ≡ answered (given t own pairs room) (length pairs / pair_size)) × (u ≡ lent_left (given t own pairs room) pairs room)

module _ (t : List ℕ) (own : List Rule) (some : among 0 (each number own) ≡ false) (pairs room : List ℕ) where
  rules_some : among 0 (each number (table_rules t ++ own)) ≡ false
  unfolding table_rules among each
  rules_some = some

  rules_number : refusal (table_rules t ++ own) ≡ first (table_refusal t) (refusal own)
  rules_number = behind_table_lem t own

  pub given_none : given t own pairs room ≡ 0 → table_refusal t ≡ 0
  given_none e =
      (first_none (table_refusal t) _ (sym rules_number ∙ (lent_none (table_rules t ++ own) rules_some (too_small (length pairs) room) e).0)).0

  -- What is refused before the room.
  refused : {n : ℕ} → refusal (table_rules t ++ own) ≡ n → (n ≡ 0 → ⊥) → {r : Refusal} → r ≡ refusal_numbered n → Answers t own pairs room (Err r) room
  refused {n} e z q =
      let k = lent_early (table_rules t ++ own) rules_some (too_small (length pairs) room) e z in
      (rw k (answered_err n _ z q), rw k (sym (left_kept n _ room z)))

  pub examined_refused :
      {found : Result Sections Refusal} {r : Refusal} → found ≡ examined t → found ≡ Err r → Answers t own pairs room (Err r) room
  examined_refused e k =
      let g = refused_table t e k in
      refused (rules_number ∙ first_some (table_refusal t) _ g.0) g.0 g.1

  module _ (a : table_refusal t ≡ 0) where
    pub own_refused : {n : ℕ} → refusal own ≡ n → (n ≡ 0 → ⊥) → {r : Refusal} → r ≡ refusal_numbered n → Answers t own pairs room (Err r) room
    own_refused e z q = refused (rules_number ∙ rw a e) z q

    -- And what is answered.
    pub own_passed : {r : Result ℕ Refusal} {u : List ℕ} → refusal own ≡ 0 → r ≡ paired pairs room → u ≡ fit_left pairs room → Answers t own pairs room r u
    unfolding fitted fit_left
    own_passed z e f =
        let k = fit_late (table_rules t ++ own) rules_some pairs room (rules_number ∙ rw a z) in
        (rw k e, rw k f)

-- ---- A question has one row of its own, and a slot two

abbrev pub line_own : Question → List ℕ → List Rule
line_own q t = query_number when wrong_line q t ∷ []

abbrev pub slot_own : Slot → List ℕ → List Rule
slot_own s t = query_number when not (is_listed (base_entries t) s.bus) ∷ 25 when wrong_slot s t ∷ []

pub line_some : (q : Question) (t : List ℕ) → among 0 (each number (line_own q t)) ≡ false
unfolding among each
line_some q t = refl

pub slot_some : (s : Slot) (t : List ℕ) → among 0 (each number (slot_own s t)) ≡ false
unfolding among each
slot_some s t = refl

abbrev pub AnswersLine : Question → List ℕ → List ℕ → Result ℕ Refusal → List ℕ → Type 0
AnswersLine q t room r u = (r ≡ routed q t room) × (u ≡ routes_left q t room)

abbrev pub AnswersSlot : Slot → List ℕ → List ℕ → Result ℕ Refusal → List ℕ → Type 0
AnswersSlot s t room r u = (r ≡ slot_routed s t room) × (u ≡ slot_routes_left s t room)

module _ (t room : List ℕ) {r : Result ℕ Refusal} {u : List ℕ} where
  pub line_answers : (q : Question) → Answers t (line_own q t) (routes_of q t) room r u → AnswersLine q t room r u
  unfolding routed routes_left route_refusal line_rules
  line_answers q a = a

  pub slot_answers : (s : Slot) → Answers t (slot_own s t) (slot_routes_of s t) room r u → AnswersSlot s t room r u
  unfolding slot_routed slot_routes_left slot_refusal slot_rules
  slot_answers s a = a
