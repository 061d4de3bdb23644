-- The offsets that are still to be stored, from the row behind k on, make the whole.
use Rattle.std.proofs.Common.{◌≡◌, ◌+◌, ◌%◌, length, sym, refl, ap, ◌∙◌, arith}
use native.Mathlib.Nat.{sub-zero}
use lib.Seq.{length-sets}
use Rattle.mps.specs.Numbers.{bytes}
use Rattle.mps.specs.Layout.{book_row}
use Rattle.mps.specs.Book.{layout1}
use Rattle.pages.specs.Pages.{row_place}
use Rattle.saving.proofs.Moves.{moved_done, moved_next}
use Rattle.saving.proofs.advance.Goals as goal

pub loop-k-init : goal.loop-k-init
loop-k-init c = (rw (sub-zero c.args.rows), refl)

pub loop-k-preserved : goal.loop-k-preserved
loop-k-preserved c =
    let l = c.loop-k in
    let p = c.put16.ensures in
    let at = row_place layout1 l.k in
    let next = moved_next 2 l.room at c.args.rows l.k (omega arith) (omega arith) c.le16-start.ensures refl p in
    let more : row_place layout1 (l.k + 1) ≡ at + book_row 2 = omega arith in
    (rw more (next ∙ l.invariant.0), omega (arith, ap length p, length-sets l.room (at + 4) (bytes 2 ((c.le16-start.result + 8) % 65536)), l.invariant.1))

pub returns : goal.returns
returns c =
    let l = c.loop-k in
    sym (moved_done 2 l.room (row_place layout1 l.k) c.args.rows l.k (omega arith)) ∙ l.invariant.0
