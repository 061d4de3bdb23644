-- The rows of the table of refusals that the header decides. Document 01, 5 to 9.
use Rattle.std.specs.Prelude.{ℕ, List, take, drop}
use Rattle.mps.specs.Refusals.{Rule, refusal}
use Rattle.mps.specs.Judge.{table_rules}

-- 5 to 9.
unfoldable pub header_rules : List ℕ → List Rule
header_rules t = take 5 (table_rules t)

-- 7 to 9.
unfoldable pub base_rules : List ℕ → List Rule
base_rules t = drop 2 (header_rules t)

unfoldable pub header_refusal : List ℕ → ℕ
header_refusal t = refusal (header_rules t)
