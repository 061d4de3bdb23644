-- P1 to P12 under a single claim: every row gives what the paper wants. Assumes nothing.
use mathlib.Core.Path.{◌≡◌, refl}
use Rattle.mps.specs.Words.{each}
use Rattle.board.specs.Cases.{cases, got, wanted}
use Rattle.board.proofs.Computed.{computed}

pub cases_hold : each got cases ≡ each wanted cases
unfolding computed cases
cases_hold = refl
