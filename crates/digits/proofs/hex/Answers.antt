-- The digits are the values of `hex_digit` at 0 to 15, which antt computes.
use Rattle.std.proofs.Common.{arith, ◌%◌}
use Rattle.std.proofs.lemmas.List.FromFn.{get_or-map-range_with_len}
use Rattle.mps.specs.Listing.{hex_digit}
use Rattle.digits.proofs.hex.Goals as goal

pub returns : goal.returns
unfolding hex_digit
returns c =
    let d = c.args.d % 16 in
    rw c.from.ensures (get_or-map-range_with_len hex_digit 0 16 d d 0 (omega arith) (omega arith))
