-- The lines of the entries that were passed have so many bytes, and the others are those that the reader would hand out (`Walking`).
use mathlib.Core.Path.{refl}
use native.Mathlib.Omega.{arith}
use lib.ListN.{length-append}
use Rattle.mps.specs.Words.{part}
use Rattle.lines.specs.Entry.{entry_line}
use Rattle.listing.proofs.Walk.{by_type, walking_first, walking_done, walking_stands, walking_goes, walking_ahead, walking_next, walking_most}
use Rattle.listing.proofs.Longest.{entries_most}
use Rattle.listing.proofs.entries_width.Goals as goal

pub loop-place-init : goal.loop-place-init
loop-place-init c = (
  c.base-base.ensures,
  omega (arith, c.extended.ensures, c.base-base.ensures),
  walking_first by_type c.args.t.now c.requires refl,
)

pub after-next-requires : goal.after-next-requires
after-next-requires c =
    let i = c.loop-place.invariant in
    record { t_value = (c.requires, i.2.high, omega (arith, i.1, c.loop-place-test.true)); place_bound = (walking_stands i.2 i.1 c.loop-place-test.true, i.0) }

pub slice_bounds-line_width-count : goal.slice_bounds-line_width-count
slice_bounds-line_width-count c =
    let i = c.loop-place.invariant in
    omega (arith, walking_goes i.2 i.1 c.loop-place-test.true c.after-next.ensures)

pub slice_bounds-line_width-start : goal.slice_bounds-line_width-start
slice_bounds-line_width-start c =
    let i = c.loop-place.invariant in
    omega (arith, walking_goes i.2 i.1 c.loop-place-test.true c.after-next.ensures)

pub slice_bounds-line_width-end : goal.slice_bounds-line_width-end
slice_bounds-line_width-end c =
    let i = c.loop-place.invariant in
    (walking_ahead i.2 c.after-next.ensures (walking_goes i.2 i.1 c.loop-place-test.true c.after-next.ensures)).inside

pub overflow_add-sum : goal.overflow_add-sum
overflow_add-sum c =
    let i = c.loop-place.invariant in
    omega (
      arith,
      i.2.so,
      c.line_width-sum.ensures,
      walking_most i.2 c.after-next.ensures (walking_goes i.2 i.1 c.loop-place-test.true c.after-next.ensures),
      entries_most c.args.t.now c.requires,
    )

pub loop-place-smaller : goal.loop-place-smaller
loop-place-smaller c =
    let i = c.loop-place.invariant in
    let goes = walking_goes i.2 i.1 c.loop-place-test.true c.after-next.ensures in
    omega (arith, goes, (walking_ahead i.2 c.after-next.ensures goes).inside)

pub loop-place-preserved : goal.loop-place-preserved
loop-place-preserved c =
    let l = c.loop-place in
    let i = l.invariant in
    let t = c.args.t.now in
    let line = entry_line (part l.place c.after-next.result t) in (
      i.0,
      i.1,
      walking_next i.2 c.after-next.ensures (walking_goes i.2 i.1 c.loop-place-test.true c.after-next.ensures)
          (omega (arith, length-append i.2.lines line, i.2.so, c.line_width-sum.ensures)),
    )

pub returns : goal.returns
returns c = let i = c.loop-place.invariant in walking_done i.2 i.1 c.loop-place-test.false
