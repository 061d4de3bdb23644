-- The definitions list the bench board as document 01 prints it, and accept it. Assumes nothing.
use mathlib.Core.Path.{◌≡◌, refl}
use mathlib.Core.List.{[], ◌∷◌}
use Rattle.mps.specs.Listing.{listing}
use Rattle.mps.specs.Judge.{held}
use Rattle.mps.specs.Answers.{held_numbers}
use Rattle.board.specs.Board.{dump}
use Rattle.board.specs.Printed.{printed}
use Rattle.board.proofs.Computed.{computed}

pub board_listed : listing dump ≡ printed
unfolding computed printed
board_listed = refl

-- The pointer at F0000h, IMCR 0, the table at F0010h: bytes 26 to 122 of the dump.
pub board_held : held_numbers (held dump) ≡ 0 ∷ 0xf0000 ∷ 0 ∷ 0xf0010 ∷ 26 ∷ 122 ∷ []
unfolding computed
board_held = refl
