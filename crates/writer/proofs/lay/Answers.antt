-- Each part begins where the one before it ends, and the seal makes the image of it (`laid`).
use native.Mathlib.Omega.{arith}
use Rattle.mps.specs.Layout.{base_entry_length}
use Rattle.laws.proofs.Cut.{cut_most}
use Rattle.writer.specs.Laid.{parts_given}
use Rattle.writer.proofs.Laying.{laid}
use Rattle.writer.proofs.lay.Goals as goal

pub overflow_cast-count : goal.overflow_cast-count
overflow_cast-count c =
    let b = c.requires.base in
    omega (arith, cut_most base_entry_length 0 c.args.base.now, c.count.ensures)

pub returns : goal.returns
returns c =
    let a = c.args in
    laid (parts_given a.fields a.base.now a.extended.now) a.out.now c.requires
    c.count.ensures c.sum.ensures c.to_store-sum.ensures
    c.put_front.ensures c.put_rest.ensures c.copy.ensures c.copy-2.ensures c.seal.ensures
