-- A bad book's refusal is the call's; else the row of the edition tells, where there is one.
use Rattle.std.specs.Prelude.{Option}
use Rattle.std.specs.Option.{ok_or}
use Rattle.std.proofs.Common.{refl, ap}
use Rattle.std.proofs.lemmas.Result.{err_from_is_err_and}
use Rattle.mps.specs.declared.refusals.Refusal.TheVariants.{NotLatest}
use Rattle.rows.specs.declared.Row.{Row}
use Rattle.book.proofs.Answering.{body_refused, body_none, body_stands}
use Rattle.book.proofs.body.Goals as goal

pub returns-in_err-measure : goal.returns-in_err-measure
returns-in_err-measure c =
    let p = err_from_is_err_and c.from_residual.result c.from_residual.ensures.1 in
    rw (p.1, p.2) (body_refused _ _ _ c.measure.ensures c.in_err-measure.was)

pub returns-in_default : goal.returns-in_default
returns-in_default c = body_none _ _ _ c.measure.ensures c.in_ok-measure.was c.find.ensures.row refl (ap (λ (o : Option Row). ok_or o NotLatest) c.in_default.is)

pub returns : goal.returns
returns c = body_stands _ _ _ c.measure.ensures c.in_ok-measure.was c.find.ensures.row refl (ap (λ (o : Option Row). ok_or o NotLatest) c.in-Some.is)
