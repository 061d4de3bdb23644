-- A law of Told.antt for each way out.
use Prim.Native.Nat.{◌+◌}
use native.Mathlib.Omega.{arith}
use Rattle.laws.proofs.Small.{bytes_part}
use Rattle.finding.proofs.Told.{says_3, over_7, default_with_table, tells_default, no_table, holding_fits, tells_table}
use Rattle.finding.proofs.said.Goals as goal

pub returns-then-p-ne-SPEC_REVISION : goal.returns-then-p-ne-SPEC_REVISION
returns-then-p-ne-SPEC_REVISION c =
    let pre = c.requires in
    says_3 _ pre.d_value pre.spots_at c.if-p-ne-SPEC_REVISION.true

pub returns-then-number-gt-DEFAULT_MOST : goal.returns-then-number-gt-DEFAULT_MOST
returns-then-number-gt-DEFAULT_MOST c =
    let pre = c.requires in
    let revision = c.if-p-ne-SPEC_REVISION.false in
    let table = c.le32-table.ensures in
    over_7 _ pre.d_value pre.spots_at revision table (omega arith)

pub returns-then-table-ne0 : goal.returns-then-table-ne0
returns-then-table-ne0 c =
    let pre = c.requires in
    let revision = c.if-p-ne-SPEC_REVISION.false in
    let table = c.le32-table.ensures in
    default_with_table _ pre.d_value pre.spots_at revision table c.if-number-ne0.true c.if-table-ne0.true

pub returns-then-number-ne0 : goal.returns-then-number-ne0
returns-then-number-ne0 c =
    let pre = c.requires in
    let revision = c.if-p-ne-SPEC_REVISION.false in
    let table = c.le32-table.ensures in
    let number = c.if-number-ne0.true in
    let a = c.args in
    let byte = bytes_part a.spotted.place (a.spotted.place + 16) a.d.now (λ i. omega (arith, c.type_inv.d i)) 12 in
    tells_default _ pre.d_value pre.spots_at revision table number (omega arith) c.if-table-ne0.false byte

pub returns-then-table-eq0 : goal.returns-then-table-eq0
returns-then-table-eq0 c =
    let pre = c.requires in
    let revision = c.if-p-ne-SPEC_REVISION.false in
    let table = c.le32-table.ensures in
    no_table _ pre.d_value pre.spots_at revision table c.if-number-ne0.false c.if-table-eq0.true

pub overflow_sub-result : goal.overflow_sub-result
overflow_sub-result c =
    let pre = c.requires in
    let fits = holding_fits _ pre.d_value c.records.ensures _ c.holding-r.ensures in
    omega (arith, fits)

pub overflow_add-result : goal.overflow_add-result
overflow_add-result c =
    let pre = c.requires in
    let fits = holding_fits _ pre.d_value c.records.ensures _ c.holding-r.ensures in
    omega (arith, fits)

pub overflow_add-result-2 : goal.overflow_add-result-2
overflow_add-result-2 c =
    let pre = c.requires in
    let fits = holding_fits _ pre.d_value c.records.ensures _ c.holding-r.ensures in
    omega (arith, fits)

pub returns : goal.returns
returns c =
    let pre = c.requires in
    let revision = c.if-p-ne-SPEC_REVISION.false in
    let table = c.le32-table.ensures in
    let none = c.if-number-ne0.false in
    let records = c.records.ensures in
    let region = c.holding-r.ensures in
    let a = c.args in
    let byte = bytes_part a.spotted.place (a.spotted.place + 16) a.d.now (λ i. omega (arith, c.type_inv.d i)) 12 in
    let some = c.if-table-eq0.false in
    tells_table _ pre.d_value pre.spots_at revision table none records region some byte
