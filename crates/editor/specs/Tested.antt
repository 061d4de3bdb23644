-- An edit behind its table's own tests: 20 to 22, which only read, then the exchange with its judgement, 23; and what is known
-- between them.
use Rattle.std.specs.Prelude.{◌≡◌, ℕ, zero, suc, cond, List, ◌++◌, ◌==◌, Result, Ok, Err}
use Rattle.mps.specs.Refusals.{Rule}
use Rattle.mps.specs.Reasons.{refusal_numbered}
use Rattle.mps.specs.Sections.{sections}
use Rattle.mps.specs.Judge.{table_rules, table_refusal}
use Rattle.mps.specs.Edits.{Edit, standing, edited_table, inner_refusal, entry_rules}
use Rattle.mps.specs.declared.Sections.{Sections}
use Rattle.mps.specs.declared.refusals.EditRefusal.{EditRefusal}
use Rattle.mps.specs.declared.refusals.EditRefusal.TheVariants.{Inner}
use Rattle.accepted.proofs.Shaped.{Shaped}
use Rattle.judge.specs.Placed.{Placed}

abbrev pub edit_of : ℕ → List ℕ → List ℕ → Edit
edit_of place stated wanted = record { place = place; stated = stated; wanted = wanted }

-- ---- The tests

-- 5 to 22.
unfoldable pub test_rules : List ℕ → Edit → List Rule
test_rules t e = table_rules t ++ entry_rules t e

-- ---- The exchange

abbrev pub exchanged_of : ℕ → Result (Unit {0}) EditRefusal
exchanged_of zero = Ok tt
exchanged_of (suc n) = Err (Inner (refusal_numbered (suc n)))

unfoldable pub exchanged : List ℕ → Edit → Result (Unit {0}) EditRefusal
exchanged t e = exchanged_of (inner_refusal t e)

unfoldable pub exchange_left : List ℕ → Edit → List ℕ
exchange_left t e = cond (inner_refusal t e == 0) (edited_table t e) t

-- ---- What the code knows on the way

-- The table is accepted, and p has its places.
pub record Accepted (t : List ℕ) (p : Sections) : Type 0 where
  pub number : table_refusal t ≡ 0
  pub places : p ≡ sections t
  pub placed : Placed t p

-- And the tests are passed.
pub record Ready (t : List ℕ) (p : Sections) (e : Edit) : Type 0 where
  pub table : Accepted t p
  pub shaped : Shaped t e
  pub seen : e.stated ≡ standing t e.place
