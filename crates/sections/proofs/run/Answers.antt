-- `run` meets its contract: `Upto` holds of the place that the loop has come to, and it ends where no whole entry of the type is.
use mathlib.Core.Path.{sym, ◌∙◌, ap}
use native.Mathlib.Omega.{arith}
use Rattle.std.proofs.Common.{◌<◌, length, length-drop}
use Rattle.std.specs.Slice.Iter.{chunks_exact_rest}
use Rattle.laws.proofs.Rows.{piece_fits, piece_first, piece_left}
use Rattle.runs.proofs.Pieces.{size_some}
use Rattle.sections.proofs.BaseEntries.{run_next, run_stop}
use Rattle.sections.proofs.run.Goals as goal

pub returns-then-e-kind : goal.returns-then-e-kind
returns-then-e-kind c =
    let s = c.args.s.now in
    let n = c.size_of-size.result in
    let l = c.loop-e in
    let i = l.invariant in
    let w = c.in-Some.ensures.steps in
    let z = c.size_of-size.ensures in
    let first =
    piece_first n s l.place c.in-Some.e.now (chunks_exact_rest c.next.new.self) (sym i.left ∙ w.1.0) (w.1.1 ∙ i.size)
    (omega (arith, z, size_some c.args.kind))
    in
    run_stop s l.place c.args.kind n c.args.at i.upto z (λ t f. c.if-e-kind.true (first ∙ t))

pub loop-e-preserved : goal.loop-e-preserved
loop-e-preserved c =
    let s = c.args.s.now in
    let n = c.size_of-size.result in
    let l = c.loop-e in
    let i = l.invariant in
    let w = c.in-Some.ensures.steps in
    let z = c.size_of-size.ensures in
    let e = c.in-Some.e.now in
    let left = chunks_exact_rest c.next.new.self in
    let cut = sym i.left ∙ w.1.0 in
    let h = w.1.1 ∙ i.size in
    let some : 0 < n = omega (arith, z, size_some c.args.kind) in
    record {
      size = w.0 ∙ i.size;
      left = piece_left n s l.place e left cut h;
      upto =
          run_next s l.place c.args.kind n c.args.at i.upto (omega arith) z (piece_fits n s l.place e left cut h some)
          (sym (piece_first n s l.place e left cut h some) ∙ c.if-e-kind.false);
    }

pub returns : goal.returns
returns c =
    let s = c.args.s.now in
    let l = c.loop-e in
    let i = l.invariant in
    let w = c.in-None.ensures.steps in
    run_stop s l.place c.args.kind _ c.args.at i.upto c.size_of-size.ensures (λ t f. omega (arith, f, w.1.0, i.size, ap length i.left, length-drop l.place s))
