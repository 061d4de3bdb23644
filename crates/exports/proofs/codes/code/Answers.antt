-- A refusal has no values, whatever the widths are.
use Prim.Native.Nat.{ℕ}
use mathlib.Core.Path.{◌≡◌, refl, ◌∙◌}
use mathlib.Core.List.{List, [], ◌∷◌}
use native.Mathlib.Omega.{arith}
use Rattle.packs.specs.Packs.{packed}
use Rattle.exports.proofs.codes.code.Goals as goal

packed_none : (ws : List ℕ) → packed ws [] ≡ 0
unfolding packed
packed_none [] = refl
packed_none (w ∷ ws) = refl

pub returns-in-Err : goal.returns-in-Err
unfolding packed
returns-in-Err g c = c.number.ensures ∙ rw c.in-Err.is (omega (arith, packed_none g.A.Values.widths, c.number.type_inv, c.number.ensures))
