-- The line is measured in no room, then written where it fits.
use Rattle.mps.specs.Listing.{refused_line}
use Rattle.listing.proofs.Laws.{too_long, it_fits}
use Rattle.listing.proofs.print_refused.Goals as goal

pub returns-then-out-width : goal.returns-then-out-width
returns-then-out-width c =
    let p = c.refused-width in
    let a = c.args in
    let both = too_long (refused_line a.number) a.out.now p.new.out p.ensures.out_after p.ensures.value c.if-out-width.true in
    record { value = both.0; out_after = both.1 }

pub returns : goal.returns
returns c =
    let q = c.refused in
    let p = c.refused-width in
    let a = c.args in
    let both = it_fits (refused_line a.number) a.out.now p.new.out p.ensures.out_after p.ensures.value q.new.out c.if-out-width.false q.ensures.out_after in
    record { value = both.0; out_after = both.1 }
