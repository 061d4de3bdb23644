-- 1 and 2 here, 3 and 4 by what `said` ensures.
use mathlib.Core.Path.{◌≡◌, ap, sym, ◌∙◌}
use Rattle.std.specs.Option.{ok_or}
use Rattle.std.specs.Result.{result_ok}
use Rattle.mps.specs.declared.refusals.Refusal.TheVariants.{NoPointer}
use Rattle.std.proofs.lemmas.Result.{err_from_is_err_and}
use Rattle.finding.proofs.Spots.{spotted_at, spotted_none}
use Rattle.finding.proofs.Told.{says_1, says_2}
use Rattle.finding.proofs.find.Goals as goal

pub returns-then-not-sound : goal.returns-then-not-sound
returns-then-not-sound c = says_1 _ (sym c.sound.ensures ∙ c.if-not-sound.true)

pub returns-in_err-spotted : goal.returns-in_err-spotted
returns-in_err-spotted c =
    let p = err_from_is_err_and c.from_residual.result c.from_residual.ensures.1 in
    let given = c.ok_or.ensures in
    let none = given.ok_part ∙ ap result_ok c.in_err-spotted.was in
    let sound = sym c.sound.ensures ∙ c.if-not-sound.false in
    let same = sym c.in_err-spotted.was ∙ given.value ∙ ap (λ o. ok_or o NoPointer) none in
    let refusal : c.in_err-spotted.field-0.0 ≡ NoPointer = cc in
    rw (p.1, p.2, refusal) (says_2 _ sound (spotted_none _ _ c.spot.ensures none))

pub said-requires : goal.said-requires
said-requires c =
    record {
      d_value = sym c.sound.ensures ∙ c.if-not-sound.false;
      spots_at = spotted_at _ _ c.spot.ensures (c.ok_or.ensures.ok_part ∙ ap result_ok c.in_ok-spotted.was);
    }
