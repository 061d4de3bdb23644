-- The loop keeps `Puts`, with the word that is kept at hand put where it belongs.
use native.Mathlib.Omega.{arith}
use lib.ListN.{get_or, set}
use Rattle.sets.proofs.Words.{shift_put, kept_put}
use Rattle.renumbering.proofs.Loops.{puts_done, puts_off, puts_on}
use Rattle.renumbering.proofs.hold.Goals as goal
use Rattle.renumbering.proofs.hold.Goals.{then-own-k, else-own-k}

pub loop-e-preserved-then-e-eq1 : goal.loop-e-preserved-then-e-eq1
loop-e-preserved-then-e-eq1 c =
    let l = c.loop-e in
    let s = c.in-Some.ensures.steps in
    let id = get_or c.in-Some.e.now 1 0 in
    elim c.if-own-k.branch [
      | then-own-k v ↦ rw (v.set-is, v.k-is, v.word-is) (
        omega (arith, s.0, l.invariant.0),
        puts_on l.invariant.1 c.in-Some.e.now _ c.requires (omega (arith, s.1.1, l.invariant.0)) s.1.0 c.if-e-eq1.true (rw (← c.from-own.ensures) at (shift_put (set l.set l.k l.word) id)),
        omega arith,
      )
      | else-own-k v ↦ rw (v.set-is, v.k-is, v.word-is) (
        omega (arith, s.0, l.invariant.0),
        puts_on l.invariant.1 c.in-Some.e.now _ c.requires (omega (arith, s.1.1, l.invariant.0)) s.1.0 c.if-e-eq1.true (kept_put l.set id l.k l.word (omega (arith, v.if-own-k.false, c.from-own.ensures))),
        l.invariant.2,
      )
    ]

pub loop-e-preserved : goal.loop-e-preserved
loop-e-preserved c =
    let l = c.loop-e in
    let s = c.in-Some.ensures.steps in (
      omega (arith, s.0, l.invariant.0),
      puts_off l.invariant.1 c.in-Some.e.now _ c.requires (omega (arith, s.1.1, l.invariant.0)) s.1.0 c.if-e-eq1.false,
      l.invariant.2,
    )

pub returns : goal.returns
returns c =
    let both = puts_done c.loop-e.invariant.1 (omega (arith, c.in-None.ensures.steps.1.0, c.loop-e.invariant.0)) in
    record { value = both.0; set_after = both.1 }
