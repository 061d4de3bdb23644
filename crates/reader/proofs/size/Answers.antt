-- One law for each way out.
use mathlib.Core.Path.{◌≡◌, refl, sym, ◌∙◌}
use mathlib.Core.Logic.{⊎_elim}
use native.Mathlib.Omega.{arith}
use lib.ListN.{drop}
use Rattle.mps.specs.Reader.{extended_step}
use Rattle.reader.proofs.Laws.{none_given, some_given, found_none, found_whole, whole_fits, size_short, size_header, size_base, size_extended, size_past}
use Rattle.reader.proofs.size.Goals as goal

pub returns-then-t-lt-HEADER_SIZE : goal.returns-then-t-lt-HEADER_SIZE
returns-then-t-lt-HEADER_SIZE c =
    let a = c.args in
    found_none a.t.now a.place (⊎_elim (size_short a.t.now a.place) (λ h. size_header a.t.now a.place h.1) c.then-t-lt-HEADER_SIZE.either) refl

pub returns-then-place-base : goal.returns-then-place-base
returns-then-place-base c =
    let a = c.args in
    found_whole a.t.now a.place c.base_size.ensures
    (size_base a.t.now a.place c.if-t-lt-HEADER_SIZE.false c.if-place-lt-HEADER_SIZE.false c.base_end-base.ensures
    c.if-place-base.true refl)

pub returns-in_err-extended_step : goal.returns-in_err-extended_step
returns-in_err-extended_step c =
    let a = c.args in
    let n : 0 ≡ extended_step (drop a.place a.t.now) = none_given _ (sym c.in_err-extended_step.was ∙ c.extended_step.ensures) in
    let k = whole_fits a.place 0 c.extended_end-end.result c.if-place-end.true (omega arith) in
    rw c.from_residual.ensures
    (found_none a.t.now a.place
    (size_extended a.t.now a.place c.if-t-lt-HEADER_SIZE.false c.if-place-lt-HEADER_SIZE.false c.base_end-base.ensures
    c.extended_end-end.ensures c.if-place-base.false c.if-place-end.true n k)
    refl)

pub whole-requires : goal.whole-requires
whole-requires c =
    let n = some_given _ (sym c.in_ok-extended_step.was ∙ c.extended_step.ensures) in
    (c.if-place-end.true, n.0)

pub returns-then-place-end : goal.returns-then-place-end
returns-then-place-end c =
    let a = c.args in
    let n = some_given _ (sym c.in_ok-extended_step.was ∙ c.extended_step.ensures) in
    found_whole a.t.now a.place c.whole.ensures
    (size_extended a.t.now a.place c.if-t-lt-HEADER_SIZE.false c.if-place-lt-HEADER_SIZE.false c.base_end-base.ensures
    c.extended_end-end.ensures c.if-place-base.false c.if-place-end.true n.1 refl)

pub returns : goal.returns
returns c =
    let a = c.args in
    found_none a.t.now a.place
    (size_past a.t.now a.place c.if-t-lt-HEADER_SIZE.false c.if-place-lt-HEADER_SIZE.false c.base_end-base.ensures
    c.extended_end-end.ensures c.if-place-base.false c.if-place-end.false)
    refl
