-- By the cases of the configuration; the constant is the sixteen entries.
use mathlib.Core.Path.{refl}
use Rattle.mps.specs.Words.{part, joined, rising}
use Rattle.mps.specs.Defaults.{interrupt_entry}
use Rattle.defaults.specs.Laid.{input_entry, all_inputs, inputs_of7}
use Rattle.defaults.proofs.Pieces.{put_as, two_laid, laid_2, laid_7, laid_other}
use Rattle.defaults.proofs.put_inputs.Goals as goal

pub returns-in-2 : goal.returns-in-2
unfolding all_inputs input_entry interrupt_entry joined rising
returns-in-2 c =
    let p = c.put-two.ensures in
    let q = c.put-twelve.ensures in
    let r = c.put.ensures in
    let both = two_laid (put_as (part 0 16 all_inputs) refl p.value p.out_after) (put_as (part 24 104 all_inputs) refl q.value q.out_after)
    (put_as (part 112 128 all_inputs) refl r.value r.out_after) in
    rw (← laid_2 _ c.in-2.is) (record { value = both.place; out_after = both.text })

pub returns-in-7 : goal.returns-in-7
unfolding inputs_of7 all_inputs input_entry interrupt_entry joined rising
returns-in-7 c =
    let r = c.put-in-7.ensures in
    rw (← laid_7 _ c.in-7.is) (record { value = r.value; out_after = r.out_after })

pub returns-in_default : goal.returns-in_default
unfolding all_inputs input_entry interrupt_entry joined rising
returns-in_default c =
    let no = c.in_default.in_default-own.rest in
    let r = c.put-in_default.ensures in
    rw (← laid_other _ no.0.1 no.1) (record { value = r.value; out_after = r.out_after })
