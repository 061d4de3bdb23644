-- `run_of` meets its contract: `Upto` holds of the place that the loop has come to, and it ends where no whole entry of the type is.
use mathlib.Core.Path.{sym, ◌∙◌, ap}
use native.Mathlib.Omega.{arith}
use Rattle.std.proofs.Common.{◌≤◌, ◌-◌, ◌+◌, length, length-drop}
use Rattle.std.specs.Slice.Iter.{chunks_exact_rest}
use Rattle.laws.proofs.Rows.{piece_fits, piece_first, piece_byte, piece_left}
use Rattle.runs.proofs.Pieces.{size_two, size_most}
use Rattle.extension.proofs.ExtendedEntries.{run_next, run_stop, first_two}
use Rattle.extension.proofs.run_of.Goals as goal

pub overflow_mul-first : goal.overflow_mul-first
overflow_mul-first c = omega (arith, size_most (c.args.kind - 128))

pub overflow_add-first : goal.overflow_add-first
overflow_add-first c = omega (arith, size_most (c.args.kind - 128))

pub returns-then-from-first : goal.returns-then-from-first
returns-then-from-first c =
    let s = c.args.s.now in
    let n = c.size_of-size.result in
    let l = c.loop-e in
    let i = l.invariant in
    let w = c.in-Some.ensures.steps in
    let z = c.size_of-size.ensures in
    let e = c.in-Some.e.now in
    let left = chunks_exact_rest c.next.new.self in
    let cut = sym i.left ∙ w.1.0 in
    let h = w.1.1 ∙ i.size in
    let two : 2 ≤ n = omega (arith, z, size_two (c.args.kind - 128)) in
    let v = first_two e in
    let a = piece_first n s l.place e left cut h (omega (arith, two)) in
    let b = piece_byte n s l.place e left cut h 1 (omega (arith, two)) in
    run_stop s l.place c.args.kind n c.args.at i.upto (omega arith) (omega arith) z
    (λ t m f. omega (arith, c.if-from-first.true, c.from.ensures, c.from-in-loop-e.ensures, c.le16.ensures, v, a, b, t, m))

pub loop-e-preserved : goal.loop-e-preserved
loop-e-preserved c =
    let s = c.args.s.now in
    let n = c.size_of-size.result in
    let l = c.loop-e in
    let i = l.invariant in
    let w = c.in-Some.ensures.steps in
    let z = c.size_of-size.ensures in
    let e = c.in-Some.e.now in
    let left = chunks_exact_rest c.next.new.self in
    let cut = sym i.left ∙ w.1.0 in
    let h = w.1.1 ∙ i.size in
    let two : 2 ≤ n = omega (arith, z, size_two (c.args.kind - 128)) in
    let v = first_two e in
    let a = piece_first n s l.place e left cut h (omega (arith, two)) in
    let b = piece_byte n s l.place e left cut h 1 (omega (arith, two)) in
    let r = c.type_inv.s in
    let q = c.if-from-first.false in
    record {
      size = w.0 ∙ i.size;
      left = piece_left n s l.place e left cut h;
      upto =
          run_next s l.place c.args.kind n c.args.at i.upto (omega arith) (omega arith) z
          (piece_fits n s l.place e left cut h (omega (arith, two)))
          (omega (arith, q, c.from.ensures, c.from-in-loop-e.ensures, c.le16.ensures, v, a, b, r l.place, r (l.place + 1)))
          (omega (arith, q, c.from.ensures, c.from-in-loop-e.ensures, c.le16.ensures, v, a, b, r l.place, r (l.place + 1)));
    }

pub returns : goal.returns
returns c =
    let s = c.args.s.now in
    let l = c.loop-e in
    let i = l.invariant in
    let w = c.in-None.ensures.steps in
    run_stop s l.place c.args.kind _ c.args.at i.upto (omega arith) (omega arith) c.size_of-size.ensures
    (λ t m f. omega (arith, f, w.1.0, i.size, ap length i.left, length-drop l.place s))
