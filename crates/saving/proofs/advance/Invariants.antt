use Rattle.std.proofs.Common.{◌≡◌, ◌-◌, length}
use lib.Seq.{sets}
use Rattle.mps.specs.Layout.{book_head}
use Rattle.mps.specs.Book.{layout1}
use Rattle.pages.specs.Pages.{row_place, moved_rows}
use Rattle.saving.proofs.advance.Given as goal

abbrev pub invariant-loop-k : goal.invariant-loop-k
invariant-loop-k l =
    (sets l.room (row_place layout1 l.k) (moved_rows 2 l.room (row_place layout1 l.k) (l.rows - l.k)) ≡ sets l.initial.room book_head (moved_rows 2 l.initial.room book_head l.rows))
    × (length l.room ≡ length l.initial.room)
