-- The PCI cases under a single claim: every row gives what was worked out by hand. Assumes nothing.
use mathlib.Core.Path.{◌≡◌, refl}
use Rattle.mps.specs.Words.{each}
use Rattle.board.specs.Cases.{got, wanted}
use Rattle.board.specs.Slots.{slot_cases}
use Rattle.board.proofs.Computed.{computed}

pub slot_cases_hold : each got slot_cases ≡ each wanted slot_cases
unfolding computed slot_cases
slot_cases_hold = refl
