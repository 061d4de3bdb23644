-- `climb` meets its contract, by the law of Climbs.antt for each step.
use mathlib.Core.Path.{◌≡◌, refl, ◌∙◌}
use mathlib.Core.Logic.{◌⊎◌, inl, inr}
use native.Mathlib.Omega.{arith}
use lib.ListN.{get_or}
use Rattle.addresses.proofs.Climbs.{climb_up, climb_yes, climb_no}
use Rattle.addresses.proofs.+climb.Goals as goal
use Rattle.addresses.proofs.+climb.Goals.{else-left-gt0-via-then-left-gt0+else-mark-eq-PARENT, else-left-gt0-via-else-left-gt0, then-mark-eq-SEES, else-mark-eq-SEES}

pub returns-then-mark-eq-PARENT : goal.returns-then-mark-eq-PARENT
returns-then-mark-eq-PARENT t c =
    let a = c.args in
    let at = c.from-at in
    climb_up a.marks.now a.parents.now a.below.now a.bus at.result a.climbed a.kept a.left at.ensures
    c.if-left-gt0.true c.if-mark-eq-PARENT.true refl c.from.ensures c.narrow.ensures c.climb.ensures

pub returns : goal.returns
returns t c =
    let a = c.args in
    let at = c.from-at in
    let last : (a.left ≡ 0) ⊎ (get_or a.marks.now at.result 0 ≡ 2 → ⊥) = elim c.else-left-gt0.branch [
      | else-left-gt0-via-then-left-gt0+else-mark-eq-PARENT w ↦ inr w.if-mark-eq-PARENT.false
      | else-left-gt0-via-else-left-gt0 w ↦ inl (omega (arith, w.if-left-gt0.false))
    ] in
    c.own.ensures ∙ (elim c.if-mark-eq-SEES.branch [
      | then-mark-eq-SEES w ↦
          rw w.end-is (climb_yes a.marks.now a.parents.now a.below.now a.bus at.result a.climbed a.kept a.left at.ensures last w.if-mark-eq-SEES.true)
      | else-mark-eq-SEES w ↦
          rw w.end-is (climb_no a.marks.now a.parents.now a.below.now a.bus at.result a.climbed a.kept a.left at.ensures last w.if-mark-eq-SEES.false)
    ])
