use Rattle.std.proofs.Common.{◌≡◌}
use Rattle.mps.specs.Book.{layout1, latest}
use Rattle.pages.specs.Pages.{rows_before}
use Rattle.rows.proofs.latest_of.Given as goal

abbrev pub invariant-loop-k : goal.invariant-loop-k
invariant-loop-k l = l.found ≡ latest l.machine (rows_before layout1 l.s l.k)
