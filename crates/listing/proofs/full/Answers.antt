-- As `list`, but for a default.
use Rattle.std.proofs.Common.{sym, ◌∙◌}
use Rattle.dump.proofs.Laws.{held_number, held_table}
use Rattle.listing.proofs.Laws.{told}
use Rattle.listing.proofs.Defaults.{full_refused, full_default, full_written}
use Rattle.listing.proofs.full.Goals as goal

pub slice_bounds-list_table-count : goal.slice_bounds-list_table-count
slice_bounds-list_table-count c = (held_table _ _ _ _ _ _ (told _ c.read.ensures c.in-Ok.is c.in-Table.is)).1.order

pub slice_bounds-list_table-start : goal.slice_bounds-list_table-start
slice_bounds-list_table-start c = (held_table _ _ _ _ _ _ (told _ c.read.ensures c.in-Ok.is c.in-Table.is)).1.order

pub slice_bounds-list_table-end : goal.slice_bounds-list_table-end
slice_bounds-list_table-end c = (held_table _ _ _ _ _ _ (told _ c.read.ensures c.in-Ok.is c.in-Table.is)).1.inside

pub list_table-requires : goal.list_table-requires
list_table-requires c =
    let h = held_table _ _ _ _ _ _ (told _ c.read.ensures c.in-Ok.is c.in-Table.is) in
    sym h.1.rules ∙ h.0

pub returns-in-Err : goal.returns-in-Err
returns-in-Err c =
    let h = held_number _ (sym c.read.ensures ∙ c.in-Err.is) in
    let f = full_refused _ _ _ h.0 h.1 in
    record { value = f.0; out_after = f.1 }

pub returns-in-Default : goal.returns-in-Default
returns-in-Default c =
    let l = c.list_made.ensures in
    let f = full_default _ _ _ (sym (told _ c.read.ensures c.in-Ok.is c.in-Default.is)) c.pointer.ensures (l.value, l.out_after) in
    record { value = f.0; out_after = f.1 }

pub returns-in-Table : goal.returns-in-Table
returns-in-Table c =
    let h = held_table _ _ _ _ _ _ (told _ c.read.ensures c.in-Ok.is c.in-Table.is) in
    let l = c.list_table.ensures in
    let f = full_written _ _ _ h.0 h.1 (l.value, l.out_after) in
    record { value = f.0; out_after = f.1 }
