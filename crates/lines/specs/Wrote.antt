-- What one call of a writer does: u is t with the bytes w stored from `at` on, and r is the place behind them. Bytes that
-- would come to stand past the end of t are not stored (`sets`).
use Rattle.std.specs.Prelude.{ℕ, ◌+◌, ◌≡◌, List, [], ◌∷◌, length}
use Rattle.std.proofs.lemmas.List.Edits.{sets}
use Rattle.mps.specs.Words.{text}
use Rattle.mps.specs.Layout.{Entry, extended_bus, space_kind}
use Rattle.mps.specs.Listing.{line, decimal, hex}

pub record Wrote (t : List ℕ) (at : ℕ) (w u : List ℕ) (r : ℕ) : Type 0 where
  pub place : r ≡ at + length w
  pub text : u ≡ sets t at w

-- `map_line` with the mapping's base and length given, so that 8 bytes of the entry tell the rest.
unfoldable pub space_line : Entry → ℕ → ℕ → List ℕ
unfolding text
space_line e base size = line (text "map") (decimal (extended_bus e) ∷ decimal (space_kind e) ∷ hex 16 base ∷ hex 16 size ∷ [])
