-- The IDs of the enabled APICs, for a loop over the pieces that `chunks_exact` cuts off. Assumes nothing.
use Prim.Native.Nat.{ℕ, ◌%◌, ◌<◌}
use mathlib.Core.Path.{◌≡◌}
use mathlib.Core.List.{List, [], ◌∷◌, ◌++◌}
use native.Mathlib.Nat.{div-one}
use lib.ListN.{length, get_or}
use borrow.Author.Tests.{eq-eqb, ne_eqb}
use Rattle.mps.specs.Words.{bit, keep, each}
use Rattle.mps.specs.Layout.{id_of, enabled}
use Rattle.mps.specs.Sections.{rows}
use Rattle.laws.proofs.Lists.{keep_in, keep_out}
use Rattle.laws.proofs.Rows.{rows_short, rows_cut}

-- Nothing whole is left, the piece is enabled, or it is not.
module _ (n : ℕ) (rest : List ℕ) where
  pub ids_end : length rest < n → each id_of (keep enabled (rows n rest)) ≡ []
  unfolding keep each
  ids_end f = rw (rows_short n rest f)

  module _ (e left : List ℕ) (z : 0 < n) (h : length e ≡ n) (c : rest ≡ e ++ left) where
    pub ids_on : get_or e 3 0 % 2 ≡ 1 → each id_of (keep enabled (rows n rest)) ≡ id_of e ∷ each id_of (keep enabled (rows n left))
    unfolding each bit
    ids_on p = rw (c, rows_cut n e left z h, keep_in enabled e (rows n left) (rw div-one (eq-eqb _ 1 p)))

    pub ids_off : (get_or e 3 0 % 2 ≡ 1 → ⊥) → each id_of (keep enabled (rows n rest)) ≡ each id_of (keep enabled (rows n left))
    unfolding bit
    ids_off p = rw (c, rows_cut n e left z h, keep_out enabled e (rows n left) (rw div-one (ne_eqb _ 1 p)))
