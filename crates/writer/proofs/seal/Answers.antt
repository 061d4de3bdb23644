use Rattle.writer.proofs.Laws.{seal_short, seal_is}
use Rattle.writer.proofs.seal.Goals as goal

pub returns-then-t-le-CHECKSUM : goal.returns-then-t-le-CHECKSUM
returns-then-t-le-CHECKSUM c = seal_short c.args.t.now c.if-t-le-CHECKSUM.true

pub returns : goal.returns
returns c = seal_is c.args.t.now c.base_sum-sum.ensures c.to_store.ensures
