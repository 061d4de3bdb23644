-- All digits and the byte behind them: `number_fits`.
use Rattle.lines.proofs.Digits.{decimal_is, number_fits}
use Rattle.lines.proofs.numerals.long_decimal.Goals as goal

pub returns : goal.returns
returns c =
    let p = c.put_digits in
    let both = number_fits _ _ _ _ _ (decimal_is _ _ c.width-k.ensures.0) _ _ _ _ (rw c.from.ensures at p.ensures) in
    record { value = both.0; out_after = both.1 }
