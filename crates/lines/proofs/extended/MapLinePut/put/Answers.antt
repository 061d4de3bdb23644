-- `map_is`, from what each word's call ensures.
use Rattle.lines.proofs.ExtendedLines.{map_is}
use Rattle.mps.specs.Numbers.{bytes}
use Rattle.mps.specs.Words.{text}
use Rattle.text.specs.Text.{ended}
use Rattle.lines.proofs.extended.MapLinePut.put.Goals as goal

pub returns-clause-wrote : goal.returns-clause-wrote
unfolding ended text
returns-clause-wrote c =
    let l = c.args.self.now in
    map_is (bytes 8 l.e) l.base l.size c.word-a.ensures.wrote c.field-b.ensures.wrote c.field-c.ensures.wrote c.hex16-d.ensures.wrote c.hex16.ensures.wrote
