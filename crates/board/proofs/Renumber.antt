-- The cases of new numbers: every row gives what was worked out by hand. Assumes nothing.
use mathlib.Core.Path.{◌≡◌, refl}
use Rattle.mps.specs.Words.{each}
use Rattle.board.specs.Cases.{got, wanted}
use Rattle.board.specs.Renumber.{renumber_cases, full_cases}
use Rattle.board.proofs.Computed.{computed}

pub renumber_cases_hold : each got renumber_cases ≡ each wanted renumber_cases
unfolding computed renumber_cases
renumber_cases_hold = refl

-- By itself, for one claim may take but so many steps.
pub full_cases_hold : each got full_cases ≡ each wanted full_cases
unfolding computed full_cases
full_cases_hold = refl
