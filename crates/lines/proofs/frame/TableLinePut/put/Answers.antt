-- `table_is`, from what each word's call ensures.
use Rattle.lines.proofs.FrameLines.{table_is}
use Rattle.mps.specs.Words.{text}
use Rattle.text.specs.Text.{ended}
use Rattle.lines.proofs.frame.TableLinePut.put.Goals as goal

pub returns-clause-wrote : goal.returns-clause-wrote
unfolding ended text
returns-clause-wrote c =
    let l = c.args.self.now in
    table_is l.address l.base l.extended l.count c.word-a.ensures.wrote c.hex8-b.ensures.wrote c.decimal-c.ensures.wrote c.decimal-d.ensures.wrote c.decimal.ensures.wrote
