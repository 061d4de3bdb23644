-- The lengths of the frame and of the entries' lines make the whole: `table_width_lem`.
use native.Mathlib.Omega.{arith}
use Rattle.listing.proofs.Longest.{entries_most}
use Rattle.listing.proofs.Laws.{table_width_lem}
use Rattle.listing.proofs.table_width.Goals as goal

pub overflow_add-result : goal.overflow_add-result
overflow_add-result c =
    omega (arith, c.entries_width.ensures, c.frame_width.ensures.1, entries_most c.args.t.now c.requires)

pub returns : goal.returns
returns c pointer address =
    let a = c.args in
    table_width_lem pointer a.imcr address a.t.now c.base-base.ensures c.extended-extended.ensures
    c.count-count.ensures (c.frame_width.ensures.0 pointer address) c.entries_width.ensures
