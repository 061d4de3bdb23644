-- The writer's answer, as one number: the texts are copied into zeros.
use mathlib.Core.Path.{ap, ◌∙◌}
use Rattle.laws.proofs.Stores.{sets_zeros}
use Rattle.exports.specs.Codes.{lent_code}
use Rattle.exports.proofs.ruxtajma_write.Goals as goal

pub returns : goal.returns
unfolding lent_code
returns c =
    let w = c.write in
    let a = c.args in
    let id = c.copy.ensures ∙ sets_zeros 8 a.oem.now in
    let name = c.copy-2.ensures ∙ sets_zeros 12 a.product.now in
    record {
      value = c.code.ensures ∙ ap lent_code (rw (id, name) at w.ensures.value);
      room_after = rw (id, name) at w.ensures.room_after;
    }
