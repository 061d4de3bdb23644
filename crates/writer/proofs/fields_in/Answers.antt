use Rattle.writer.proofs.Reading.{fields_are}
use Rattle.writer.proofs.fields_in.Goals as goal

pub returns : goal.returns
returns c =
    fields_are c.args.t.now c.copy.new.out c.copy-2.new.out c.requires c.copy.ensures c.copy-2.ensures c.le32.ensures c.le16.ensures c.le32-2.ensures
