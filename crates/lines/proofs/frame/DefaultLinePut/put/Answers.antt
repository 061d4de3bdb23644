-- `default_is`, from what each word's call ensures.
use Rattle.lines.proofs.FrameLines.{default_is}
use Rattle.mps.specs.Words.{text}
use Rattle.text.specs.Text.{ended}
use Rattle.lines.proofs.frame.DefaultLinePut.put.Goals as goal

pub returns-clause-wrote : goal.returns-clause-wrote
unfolding ended text
returns-clause-wrote c =
    let l = c.args.self.now in
    default_is l.number l.imcr c.word-a.ensures.wrote c.decimal-b.ensures.wrote c.word-c.ensures.wrote c.decimal.ensures.wrote
