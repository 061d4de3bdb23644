-- `wrong_extended` meets its contract: too long, outside the buffer, or by the sum with byte 42.
use Rattle.std.proofs.Common.{arith}
use Rattle.header.proofs.Laws.{is_too_long, is_outside, is_summed}
use Rattle.header.proofs.wrong_extended.Goals as goal

pub returns-then-size-gt-PART_MOST : goal.returns-then-size-gt-PART_MOST
returns-then-size-gt-PART_MOST c = is_too_long _ (omega arith)

pub returns-then-t-base : goal.returns-then-t-base
returns-then-t-base c = is_outside _ (omega arith)

pub returns : goal.returns
returns c =
    is_summed _ c.byte.ensures c.sum-sum.ensures c.wrapping_add_u8.ensures.value c.base-base.ensures c.extended-size.ensures (omega arith) (omega arith)
