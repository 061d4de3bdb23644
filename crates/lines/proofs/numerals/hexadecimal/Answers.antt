-- All digits and the byte behind them: `number_fits`.
use Rattle.lines.proofs.Digits.{hex_is, number_fits}
use Rattle.lines.proofs.numerals.hexadecimal.Goals as goal

pub returns : goal.returns
returns c =
    let p = c.put_digits in
    let both = number_fits _ _ _ _ _ (hex_is _ _) _ _ _ _ p.ensures in
    record { value = both.0; out_after = both.1 }
