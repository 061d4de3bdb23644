-- The line is measured in no room, then written where it fits.
use Rattle.mps.specs.Listing.{default_line}
use Rattle.listing.proofs.Laws.{too_long, it_fits}
use Rattle.listing.proofs.list_default.Goals as goal

pub returns-then-out-size : goal.returns-then-out-size
returns-then-out-size c =
    let p = c.default-size in
    let a = c.args in
    let both = too_long (default_line a.number a.imcr) a.out.now p.new.out p.ensures.out_after p.ensures.value c.if-out-size.true in
    record { value = both.0; out_after = both.1 }

pub returns : goal.returns
returns c =
    let q = c.default in
    let p = c.default-size in
    let a = c.args in
    let both = it_fits (default_line a.number a.imcr) a.out.now p.new.out p.ensures.out_after p.ensures.value q.new.out c.if-out-size.false q.ensures.out_after in
    record { value = both.0; out_after = both.1 }
