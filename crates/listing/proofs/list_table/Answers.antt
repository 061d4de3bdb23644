-- Nothing is longer than the bound, so a room that holds the bound holds the listing; any other is measured.
use Prim.Native.Nat.{◌≤◌}
use native.Mathlib.Omega.{arith}
use lib.ListN.{length}
use Rattle.listing.specs.Texts.{table_text}
use Rattle.laws.proofs.Lent.{fit_put, fit_short}
use Rattle.listing.proofs.list_table.Goals as goal
use Rattle.listing.proofs.list_table.Goals.{else-out-bound-via-then-out-bound+else-out-table_width, else-out-bound-via-else-out-bound}

pub returns-then-out-table_width : goal.returns-then-out-table_width
returns-then-out-table_width c =
    let a = c.args in
    let w = table_text a.head.pointer a.head.imcr a.head.address a.t.now in
    let both = fit_short w (length w) a.out.now (omega (arith, c.table_width.ensures a.head.pointer a.head.address, c.if-out-table_width.true)) in
    record { value = both.0; out_after = both.1 }

pub returns : goal.returns
returns c =
    let p = c.put_table in
    let a = c.args in
    let w = table_text a.head.pointer a.head.imcr a.head.address a.t.now in
    let fits : length w ≤ length a.out.now =
    elim c.else-out-bound.branch [
      | else-out-bound-via-then-out-bound+else-out-table_width b ↦ omega (arith, b.table_width.ensures a.head.pointer a.head.address, b.if-out-table_width.false)
      | else-out-bound-via-else-out-bound b ↦ omega (arith, c.bound.ensures a.head.pointer a.head.imcr a.head.address, b.if-out-bound.false)
    ] in
    let both = fit_put w (length w) a.out.now p.ensures.value fits p.ensures.out_after in
    record { value = both.0; out_after = both.1 }
