use Rattle.std.proofs.Common.{◌≡◌, length}
use Rattle.std.proofs.lemmas.List.Edits.{sets}
use Rattle.mps.specs.Listing.{digits, hex_digit}
use Rattle.lines.proofs.numerals.put_digits.Given as goal

-- The m digits of v that are left to store make the whole.
abbrev pub invariant-loop-m : goal.invariant-loop-m
invariant-loop-m g l =
    (sets l.out l.at (digits g.row.BASE hex_digit l.m l.v) ≡ sets l.initial.out l.at (digits g.row.BASE hex_digit l.k l.x))
    × (length l.out ≡ length l.initial.out)
