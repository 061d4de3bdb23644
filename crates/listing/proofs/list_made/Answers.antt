-- Nothing but 30 is refused in a room that holds every table; what is counted is the table.
use mathlib.Core.Path.{sym, ◌∙◌}
use lib.Seq.{length-take-le}
use Rattle.std.proofs.lemmas.Result.{err_from_is_err_and}
use Rattle.listing.proofs.Defaults.{list_unmade, made_inside, made_accepted, list_made_lem}
use Rattle.listing.proofs.list_made.Goals as goal

pub returns-in_err-size : goal.returns-in_err-size
returns-in_err-size c =
    let p = err_from_is_err_and c.from_residual.result c.from_residual.ensures.1 in
    let both = list_unmade _ _ _ _ (sym c.in_err-size.was ∙ c.make.ensures.value) in
    rw (p.1, p.2) (record { value = both.0; out_after = both.1 })

pub slice_bounds-made-end : goal.slice_bounds-made-end
slice_bounds-made-end c = made_inside _ _ (sym c.in_ok-size.was ∙ c.make.ensures.value) c.make.ensures.room_after

pub slice_bounds-list_table-end : goal.slice_bounds-list_table-end
slice_bounds-list_table-end c =
    sym (length-take-le _ _ (made_inside _ _ (sym c.in_ok-size.was ∙ c.make.ensures.value) c.make.ensures.room_after))

pub list_table-requires : goal.list_table-requires
list_table-requires c = made_accepted _ _ (sym c.in_ok-size.was ∙ c.make.ensures.value) c.make.ensures.room_after

pub returns : goal.returns
returns c =
    let l = c.list_table.ensures in
    let both = list_made_lem _ _ (sym c.in_ok-size.was ∙ c.make.ensures.value) c.make.ensures.room_after _ _ _ (l.value, l.out_after) in
    record { value = both.0; out_after = both.1 }
