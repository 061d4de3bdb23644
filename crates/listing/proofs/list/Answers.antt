-- The three answers of the dump reader: its refusal is the listing's, and each text goes into the room as any answer does.
use mathlib.Core.Path.{sym, ◌∙◌}
use Rattle.std.proofs.lemmas.Result.{err_from_is_err_and}
use Rattle.dump.proofs.Laws.{held_number, held_default, held_table}
use Rattle.listing.proofs.Laws.{told, list_refused, list_written, default_text, table_text_lem}
use Rattle.listing.proofs.list.Goals as goal

-- Of the table that was found: the dump is accepted, and the table's bytes lie inside it.
pub slice_bounds-list_table-count : goal.slice_bounds-list_table-count
slice_bounds-list_table-count c = (held_table _ _ _ _ _ _ (told _ c.read.ensures c.in_ok-number.was c.in-Table.is)).1.order

pub slice_bounds-list_table-start : goal.slice_bounds-list_table-start
slice_bounds-list_table-start c = (held_table _ _ _ _ _ _ (told _ c.read.ensures c.in_ok-number.was c.in-Table.is)).1.order

pub slice_bounds-list_table-end : goal.slice_bounds-list_table-end
slice_bounds-list_table-end c = (held_table _ _ _ _ _ _ (told _ c.read.ensures c.in_ok-number.was c.in-Table.is)).1.inside

pub list_table-requires : goal.list_table-requires
list_table-requires c =
    let h = held_table _ _ _ _ _ _ (told _ c.read.ensures c.in_ok-number.was c.in-Table.is) in
    sym h.1.rules ∙ h.0

pub returns-in_err-number : goal.returns-in_err-number
returns-in_err-number c =
    let p = err_from_is_err_and c.from_residual.result c.from_residual.ensures.1 in
    let h = held_number _ (sym c.read.ensures ∙ c.in_err-number.was) in
    let both = list_refused _ _ h.0 h.1 in
    rw (p.1, p.2) (record { value = both.0; out_after = both.1 })

pub returns-in-Default : goal.returns-in-Default
returns-in-Default c =
    let h = held_default _ _ _ (told _ c.read.ensures c.in_ok-number.was c.in-Default.is) in
    let l = c.list_default.ensures in
    let both = list_written _ _ h.0 (default_text _ h.1 h.2 h.3) (l.value, l.out_after) in
    record { value = both.0; out_after = both.1 }

pub returns-in-Table : goal.returns-in-Table
returns-in-Table c =
    let h = held_table _ _ _ _ _ _ (told _ c.read.ensures c.in_ok-number.was c.in-Table.is) in
    let l = c.list_table.ensures in
    let both = list_written _ _ h.0 (table_text_lem _ h.1) (l.value, l.out_after) in
    record { value = both.0; out_after = both.1 }
