-- `pointer_is`, from what each word's call ensures.
use Rattle.lines.proofs.FrameLines.{pointer_is}
use Rattle.mps.specs.Words.{text}
use Rattle.text.specs.Text.{ended}
use Rattle.lines.proofs.frame.PointerLinePut.put.Goals as goal

pub returns-clause-wrote : goal.returns-clause-wrote
unfolding ended text
returns-clause-wrote c =
    let l = c.args.self.now in
    pointer_is l.address l.imcr c.word-a.ensures.wrote c.hex8-b.ensures.wrote c.word-c.ensures.wrote c.decimal.ensures.wrote
