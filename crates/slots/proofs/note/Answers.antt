-- The loop keeps `Notes`, with the word that is kept at hand put where it belongs.
use Prim.Native.Nat.{◌/◌, ◌<◌}
use mathlib.Core.Path.{◌∙◌}
use native.Mathlib.Omega.{arith}
use lib.ListN.{length, length-set, set}
use Rattle.sets.proofs.Words.{shift_put, kept_put}
use Rattle.slots.proofs.Sets.{notes_done, notes_inside, notes_in, notes_out}
use Rattle.slots.proofs.note.Goals as goal
use Rattle.slots.proofs.note.Goals.{After-number-n, then-n-k, else-n-k}

inside :
    (c : After-number-n) → let l = c.loop-e in
    c.number-n.result / 64 < length (set l.set l.k l.word)
inside c =
    let s = c.in-Some.ensures.steps in
    notes_inside _ _ _ _ _ c.loop-e.invariant.1 c.in-Some.e.now _ (omega (arith, s.1.1, c.loop-e.invariant.0)) s.1.0 c.has.ensures c.if-has.true
    c.requires.2 c.number-n.ensures.value c.number-n.ensures.upper_bound

pub bounds-set-k-then-n-k : goal.bounds-set-k-then-n-k
bounds-set-k-then-n-k c = inside (goal.at.bounds-set-k-then-n-k c).After-number-n

pub loop-e-preserved-then-has : goal.loop-e-preserved-then-has
loop-e-preserved-then-has c =
    let l = c.loop-e in
    let s = c.in-Some.ensures.steps in
    let size = l.invariant.0 in
    let n = c.number-n.result in
    let room = inside (goal.at.loop-e-preserved-then-has c).After-number-n in
    elim c.if-n-k.branch [
      | then-n-k v ↦ rw (v.set-is, v.k-is, v.word-is) (
        omega (arith, s.0, size),
        notes_in _ _ _ _ _ l.invariant.1 c.in-Some.e.now _ (omega (arith, s.1.1, size)) s.1.0 c.has.ensures c.if-has.true c.number-n.ensures.value room (shift_put (set l.set l.k l.word) n),
        room,
        length-set l.set l.k l.word ∙ l.invariant.3,
      )
      | else-n-k v ↦ rw (v.set-is, v.k-is, v.word-is) (
        omega (arith, s.0, size),
        notes_in _ _ _ _ _ l.invariant.1 c.in-Some.e.now _ (omega (arith, s.1.1, size)) s.1.0 c.has.ensures c.if-has.true c.number-n.ensures.value room (kept_put l.set n l.k l.word (omega (arith, v.if-n-k.false))),
        l.invariant.2,
        l.invariant.3,
      )
    ]

pub loop-e-preserved : goal.loop-e-preserved
loop-e-preserved c =
    let l = c.loop-e in
    let s = c.in-Some.ensures.steps in
    let size = l.invariant.0 in (
      omega (arith, s.0, size),
      notes_out _ _ _ _ _ l.invariant.1 c.in-Some.e.now _ (omega (arith, s.1.1, size)) s.1.0 c.has.ensures c.if-has.false,
      l.invariant.2,
      l.invariant.3,
    )

pub returns : goal.returns
returns c = notes_done _ _ _ _ _ c.loop-e.invariant.1 (omega (arith, c.in-None.ensures.steps.1.0, c.loop-e.invariant.0))
