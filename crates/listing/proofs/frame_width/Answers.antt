-- `frame_is`, from what each number's call ensures.
use native.Mathlib.Omega.{arith}
use Rattle.listing.proofs.Laws.{frame_is}
use Rattle.listing.proofs.frame_width.Goals as goal

pub returns : goal.returns
returns c =
    let a = c.args in (
      λ pointer address.
          frame_is pointer a.imcr address a.base a.extended a.count
          c.width.ensures.0 c.width-2.ensures.0 c.width-3.ensures.0 c.width-4.ensures.0,
      omega arith,
    )
