-- The lines of the entries that were passed stand in the room, and the others are those that the reader would hand out (`Walking`).
use Prim.Native.Nat.{◌+◌}
use mathlib.Core.Path.{refl, ap, sym, ◌∙◌}
use native.Mathlib.Nat.{add-zero}
use native.Mathlib.Omega.{arith}
use lib.ListN.{length}
use lib.Seq.{length-sets}
use Rattle.lines.proofs.Laws.{then}
use Rattle.listing.specs.Texts.{entries_text}
use Rattle.listing.proofs.Walk.{by_bytes, walking_first, walking_done, walking_stands, walking_goes, walking_ahead, walking_next, walking_most}
use Rattle.listing.proofs.Longest.{entries_most}
use Rattle.listing.proofs.put_entries.Goals as goal

pub loop-place-init : goal.loop-place-init
loop-place-init c =
    let a = c.args in (
      c.base-base.ensures,
      omega (arith, c.extended.ensures, c.base-base.ensures),
      walking_first by_bytes a.t.now c.requires.0 (record { place = sym (add-zero a.at); text = refl }),
    )

pub after-next-requires : goal.after-next-requires
after-next-requires c =
    let i = c.loop-place.invariant in
    record { t_value = (c.requires.0, i.2.high, omega (arith, i.1, c.loop-place-test.true)); place_bound = (walking_stands i.2 i.1 c.loop-place-test.true, i.0) }

pub slice_bounds-line-count : goal.slice_bounds-line-count
slice_bounds-line-count c =
    let i = c.loop-place.invariant in
    omega (arith, walking_goes i.2 i.1 c.loop-place-test.true c.after-next.ensures)

pub slice_bounds-line-start : goal.slice_bounds-line-start
slice_bounds-line-start c =
    let i = c.loop-place.invariant in
    omega (arith, walking_goes i.2 i.1 c.loop-place-test.true c.after-next.ensures)

pub slice_bounds-line-end : goal.slice_bounds-line-end
slice_bounds-line-end c =
    let i = c.loop-place.invariant in
    let e = c.after-next.ensures in
    (walking_ahead i.2 e (walking_goes i.2 i.1 c.loop-place-test.true e)).inside

pub overflow_add-put : goal.overflow_add-put
overflow_add-put c =
    let i = c.loop-place.invariant in
    omega (
      arith,
      i.2.so.place,
      c.line-put.ensures.value,
      walking_most i.2 c.after-next.ensures (walking_goes i.2 i.1 c.loop-place-test.true c.after-next.ensures),
      entries_most c.args.t.now c.requires.0,
      c.requires.1,
    )

pub loop-place-smaller : goal.loop-place-smaller
loop-place-smaller c =
    let i = c.loop-place.invariant in
    let goes = walking_goes i.2 i.1 c.loop-place-test.true c.after-next.ensures in
    omega (arith, goes, (walking_ahead i.2 c.after-next.ensures goes).inside)

pub loop-place-preserved : goal.loop-place-preserved
loop-place-preserved c =
    let l = c.loop-place in
    let i = l.invariant in
    let p = c.line-put.ensures in (
      i.0,
      i.1,
      walking_next i.2 c.after-next.ensures (walking_goes i.2 i.1 c.loop-place-test.true c.after-next.ensures)
          (then i.2.so (record { place = ap (λ n. l.put + n) p.value; text = p.out_after })),
    )

pub shape_of-out : goal.shape_of-out
shape_of-out c =
    let a = c.args in
    let i = c.loop-place.invariant in
    let w = walking_done i.2 i.1 c.loop-place-test.false in
    ap length w.text ∙ length-sets a.out.now a.at (entries_text a.t.now)

pub returns : goal.returns
returns c = let i = c.loop-place.invariant in walking_done i.2 i.1 c.loop-place-test.false
