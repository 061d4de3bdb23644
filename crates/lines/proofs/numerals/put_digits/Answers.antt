-- The digits that are left and the one that is stored are the whole.
use Rattle.std.proofs.Common.{◌≡◌, ◌%◌, sym, ◌∙◌, arith}
use Rattle.std.proofs.Common.{length-set}
use Rattle.mps.specs.Listing.{hex_digit}
use Rattle.lines.proofs.Digits.{digits_next}
use Rattle.lines.proofs.numerals.put_digits.Goals as goal

pub loop-m-preserved : goal.loop-m-preserved
loop-m-preserved g c =
    let l = c.loop-m in
    let base = g.row.BASE in
    let digit : l.v % base % 16 ≡ l.v % base = omega arith in
    (rw (c.hex.ensures, digit) (sym (digits_next base hex_digit l.m l.v c.args.at l.out (omega arith)) ∙ l.invariant.0), simp length-set l.invariant.1)
