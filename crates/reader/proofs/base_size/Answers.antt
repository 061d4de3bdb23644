use mathlib.Core.Path.{refl, ap, ◌∙◌}
use native.Mathlib.Omega.{arith}
use Rattle.mps.specs.Answers.{found_of}
use Rattle.entries.proofs.Laws.{size_processor, size_other}
use Rattle.reader.proofs.Laws.{base_size_lem, base_whole, base_unknown}
use Rattle.reader.proofs.base_size.Goals as goal

pub returns-then-kind-eq-PROCESSOR_TYPE : goal.returns-then-kind-eq-PROCESSOR_TYPE
returns-then-kind-eq-PROCESSOR_TYPE c =
    let a = c.args in
    let e = base_size_lem a.t.now a.place (omega (arith, c.if-kind-eq-PROCESSOR_TYPE.true)) (size_processor c.if-kind-eq-PROCESSOR_TYPE.true) in
    c.whole.ensures ∙ ap found_of (base_whole a.t.now a.place a.end e refl)

pub returns-then-kind-gt-LOCAL_INTERRUPT_TYPE : goal.returns-then-kind-gt-LOCAL_INTERRUPT_TYPE
returns-then-kind-gt-LOCAL_INTERRUPT_TYPE c =
    let a = c.args in
    ap found_of (base_unknown a.t.now a.place a.end c.requires.1 c.if-kind-gt-LOCAL_INTERRUPT_TYPE.true)

pub returns : goal.returns
returns c =
    let a = c.args in
    let e = base_size_lem a.t.now a.place c.if-kind-gt-LOCAL_INTERRUPT_TYPE.false (size_other c.if-kind-eq-PROCESSOR_TYPE.false) in
    c.whole-2.ensures ∙ ap found_of (base_whole a.t.now a.place a.end e refl)
