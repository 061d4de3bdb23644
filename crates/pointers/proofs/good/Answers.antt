-- `good` meets its contract: a law of Laws.antt for each way out.
use native.Mathlib.Omega.{arith}
use Rattle.pointers.proofs.Laws.{is_unsigned, is_other_size, is_summed}
use Rattle.pointers.proofs.good.Goals as goal

pub returns-then-le32-ne-SIGNATURE : goal.returns-then-le32-ne-SIGNATURE
returns-then-le32-ne-SIGNATURE c = is_unsigned _ (omega arith) c.le32.ensures c.if-le32-ne-SIGNATURE.true

pub returns-then-p-ne-ONE_PARAGRAPH : goal.returns-then-p-ne-ONE_PARAGRAPH
returns-then-p-ne-ONE_PARAGRAPH c =
    is_other_size _ (omega arith) c.le32.ensures (λ i. omega (arith, c.type_inv.p i))
    c.if-le32-ne-SIGNATURE.false c.if-p-ne-ONE_PARAGRAPH.true

pub returns : goal.returns
returns c =
    is_summed _ (omega arith) c.le32.ensures (λ i. omega (arith, c.type_inv.p i))
    c.if-le32-ne-SIGNATURE.false c.if-p-ne-ONE_PARAGRAPH.false c.sum.ensures
