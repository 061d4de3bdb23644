-- What is left of the pieces answers as the whole does.
use Rattle.pointers.proofs.Laws.{seeks_start, goes_start, goes_part, goes_next}
use Rattle.pointers.proofs.passed.Goals as goal

pub loop-i-init : goal.loop-i-init
loop-i-init c = goes_start 64 0 c.args.s.now (cc) (cc) (cc) (seeks_start _)

pub loop-i-preserved : goal.loop-i-preserved
loop-i-preserved c =
    let st = c.in-Some.ensures.steps in
    let i = c.loop-i.invariant in
    let s = c.args.s.now in
    let four = c.in-Some.four.now in
    goes_next 64 0 s _ i four _ st.0.1.0 st.0.1.1 st.0.0 st.2
    (c.any_signature.ensures c.if-any_signature.false s _ (goes_part 64 0 s _ i four _ st.0.1.0 st.0.1.1))
