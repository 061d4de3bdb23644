-- Each way out is a row; the entry is found in an accepted table.
use Rattle.std.proofs.Common.{◌+◌, ◌≤◌, length, arith}
use Rattle.editor.specs.Tested.{edit_of}
use Rattle.editor.proofs.Tests.{number_20, Found, found_inside, found_end, found_21, found_22, found_seen}
use Rattle.editor.proofs.test.Goals as goal
use Rattle.editor.proofs.test.Goals.{After-offset-at, After-size-size}

-- The entry that is asked for has been found.
here : (c : After-offset-at) → let a = c.args in Found a.t.now a.place c.offset-at.result
here c =
    record {
      accepted = c.requires.number;
      exists = omega (arith, c.count-count.ensures, c.if-count-place.false);
      is = c.offset-at.ensures;
    }

here_end :
    (c : After-size-size) → Found c.args.t.now c.args.place c.offset-at.result
    → c.offset-at.result + c.size-size.result ≤ length c.args.t.now
here_end c h = found_end _ _ _ h c.size-size.ensures

pub returns-then-count-place : goal.returns-then-count-place
returns-then-count-place c =
    let a = c.args in
    number_20 a.t.now (edit_of a.place a.stated.now a.wanted.now) (omega (arith, c.count-count.ensures, c.if-count-place.true))

pub offset-at-requires : goal.offset-at-requires
offset-at-requires c = (c.requires, omega (arith, c.count-count.ensures, c.if-count-place.false))

pub bounds-t-at : goal.bounds-t-at
bounds-t-at c = found_inside _ _ _ (here (goal.at.bounds-t-at c).After-offset-at)

pub returns-then-stated-size : goal.returns-then-stated-size
returns-then-stated-size c =
    let a = c.args in
    found_21 a.t.now a.place _ (here (goal.at.returns-then-stated-size c).After-offset-at) a.stated.now a.wanted.now c.size-size.ensures c.byte.ensures c.if-stated-size.true

pub overflow_add-standing : goal.overflow_add-standing
overflow_add-standing c = let h = here_end (goal.at.overflow_add-standing c).After-size-size (here (goal.at.overflow_add-standing c).After-offset-at) in omega arith

pub slice_bounds-standing-end : goal.slice_bounds-standing-end
slice_bounds-standing-end c = here_end (goal.at.slice_bounds-standing-end c).After-size-size (here (goal.at.slice_bounds-standing-end c).After-offset-at)

pub returns : goal.returns
returns c =
    let a = c.args in
    found_seen a.t.now a.place _ (here (goal.at.returns c).After-offset-at) a.stated.now a.wanted.now
    c.size-size.ensures c.byte.ensures c.if-stated-size.false c.same.ensures c.if-not-same.false

pub returns-then-not-same : goal.returns-then-not-same
returns-then-not-same c =
    let a = c.args in
    found_22 a.t.now a.place _ (here (goal.at.returns-then-not-same c).After-offset-at) a.stated.now a.wanted.now
    c.size-size.ensures c.byte.ensures c.if-stated-size.false c.same.ensures c.if-not-same.true
