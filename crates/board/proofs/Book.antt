-- The cases of the book: every row gives what was worked out by hand. Assumes nothing.
use mathlib.Core.Path.{◌≡◌, refl}
use Rattle.mps.specs.Words.{each}
use Rattle.board.specs.Cases.{got, wanted}
use Rattle.board.specs.Book.{book_cases, save_cases}
use Rattle.board.proofs.Computed.{computed}

pub book_cases_hold : each got book_cases ≡ each wanted book_cases
unfolding computed book_cases
book_cases_hold = refl

pub save_cases_hold : each got save_cases ≡ each wanted save_cases
unfolding computed save_cases
save_cases_hold = refl
