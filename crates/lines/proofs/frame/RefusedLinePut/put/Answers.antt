-- `refused_is`, from what each word's call ensures.
use Rattle.lines.proofs.FrameLines.{refused_is}
use Rattle.mps.specs.Words.{text}
use Rattle.text.specs.Text.{ended}
use Rattle.lines.proofs.frame.RefusedLinePut.put.Goals as goal

pub returns-clause-wrote : goal.returns-clause-wrote
unfolding ended text
returns-clause-wrote c =
    let l = c.args.self.now in
    refused_is l.number c.word-a.ensures.wrote c.decimal.ensures.wrote
