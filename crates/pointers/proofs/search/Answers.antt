-- What is left of the pieces answers as the whole does.
use Rattle.pointers.proofs.Laws.{goes_part, goes_whole, goes_next, goes_done, seeks_done, seeks_stop, seeks_next}
use Rattle.pointers.proofs.search.Goals as goal

pub returns-then-good : goal.returns-then-good
returns-then-good c =
    let st = c.in-Some.ensures.steps in
    let i = c.loop-i.invariant in
    let s = c.args.s.now in
    let p = c.in-Some.p.now in
    let n = c.passed-from.result in
    rw st.1
    (seeks_stop s _ i.2 (goes_whole 16 n s _ i p _ st.0.1.0 st.0.1.1) p (goes_part 16 n s _ i p _ st.0.1.0 st.0.1.1) c.good.ensures c.if-good.true)

pub loop-i-preserved : goal.loop-i-preserved
loop-i-preserved c =
    let st = c.in-Some.ensures.steps in
    let i = c.loop-i.invariant in
    let s = c.args.s.now in
    let p = c.in-Some.p.now in
    let n = c.passed-from.result in
    goes_next 16 n s _ i p _ st.0.1.0 st.0.1.1 st.0.0 st.2
    (seeks_next s _ i.2 (goes_whole 16 n s _ i p _ st.0.1.0 st.0.1.1) p (goes_part 16 n s _ i p _ st.0.1.0 st.0.1.1) c.good.ensures c.if-good.false)

pub returns : goal.returns
returns c =
    let i = c.loop-i.invariant in
    let n = c.passed-from.result in
    seeks_done c.args.s.now _ i.2 (goes_done 16 n c.args.s.now _ i c.in-None.ensures.steps.0.1.0)
