-- Each of the four texts begins where the one before it ends: `table_is`.
use Prim.Native.Nat.{◌≤◌}
use native.Mathlib.Omega.{arith}
use Rattle.listing.proofs.Most.{pointer_most, table_most, end_most}
use Rattle.listing.proofs.Longest.{entries_most}
use Rattle.listing.proofs.Laws.{table_is}
use Rattle.listing.proofs.put_table.Goals as goal
use Rattle.listing.proofs.put_table.Goals.{After-table}

-- The two lines in front of the entries are short.
front : (c : After-table) → (c.table.result ≤ 48) × (c.pointer-a.result ≤ 48)
front c =
    let a = c.args in
    let head = table_most a.head.address c.base-base.result c.extended-extended.result c.count-count.result in (
      omega (arith, head, c.table.ensures.value),
      omega (arith, pointer_most a.head.pointer a.head.imcr, c.pointer-a.ensures.value),
    )

pub overflow_add-b : goal.overflow_add-b
overflow_add-b c = omega (arith, front (goal.at.overflow_add-b c).After-table)

pub put_entries-c-requires : goal.put_entries-c-requires
put_entries-c-requires c = (c.requires, omega (arith, front (goal.at.put_entries-c-requires c).After-table))

pub overflow_add-result : goal.overflow_add-result
overflow_add-result c =
    omega (
      arith,
      front (goal.at.overflow_add-result c).After-table,
      c.put_entries-c.ensures.place,
      entries_most c.args.t.now c.requires,
      c.end.ensures.value,
      end_most,
    )

pub returns : goal.returns
returns c =
    let a = c.args in
    let both = table_is a.head.pointer a.head.imcr a.head.address a.t.now
    c.base-base.ensures c.extended-extended.ensures c.count-count.ensures
    (record { place = omega (arith, c.pointer-a.ensures.value); text = c.pointer-a.ensures.out_after })
    (record { place = omega (arith, c.table.ensures.value); text = c.table.ensures.out_after })
    c.put_entries-c.ensures
    (record { place = omega (arith, c.end.ensures.value); text = c.end.ensures.out_after }) in
    record { value = both.0; out_after = both.1 }
