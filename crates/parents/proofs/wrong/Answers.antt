-- `wrong` meets its contract, from what `fill` and `endless` ensure, by the laws of Links.antt.
use mathlib.Core.Path.{◌∙◌}
use native.Mathlib.Omega.{arith}
use Rattle.parents.proofs.Links.{wrong_none, wrong_stopped, wrong_circle}
use Rattle.parents.proofs.wrong.Goals as goal

pub returns-then-s-lt-LINK_SIZE : goal.returns-then-s-lt-LINK_SIZE
returns-then-s-lt-LINK_SIZE c = wrong_none _ _ c.if-s-lt-LINK_SIZE.true

pub returns-then-fill : goal.returns-then-fill
returns-then-fill c =
    let bytes = c.type_inv.s in
    wrong_stopped _ _ (λ i. omega (arith, bytes i)) c.fill.result c.fill.ensures.value c.if-fill.true

pub returns : goal.returns
returns c =
    let bytes = c.type_inv.s in
    let f = c.fill in
    let free = c.if-fill.false in
    c.endless.ensures
    ∙ wrong_circle _ _ (λ i. omega (arith, bytes i)) f.result f.ensures.value f.new.up _ free (f.ensures.up_after free) (omega arith)
