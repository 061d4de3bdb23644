-- A no from all four tests is a step over each paragraph.
use Rattle.pointers.proofs.Laws.{left_four}
use Rattle.pointers.proofs.any_signature.Goals as goal

pub returns : goal.returns
returns c = λ f s at e. left_four s at c.args.p.now e c.requires c.le32.ensures c.le32-2.ensures c.le32-3.ensures c.le32-4.ensures f
