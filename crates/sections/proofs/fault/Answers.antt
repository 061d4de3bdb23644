-- `fault` meets its contract, by a law for each of its three answers.
use Rattle.std.proofs.Common.{ap, arith}
use Rattle.sections.proofs.BaseEntries.{fault_type, fault_cut, fault_order}
use Rattle.mps.specs.Reasons.{refusal_numbered}
use Rattle.sections.proofs.fault.Goals as goal

pub returns-then-kind-gt-LOCAL_INTERRUPT_TYPE : goal.returns-then-kind-gt-LOCAL_INTERRUPT_TYPE
unfolding refusal_numbered
returns-then-kind-gt-LOCAL_INTERRUPT_TYPE c = let a = c.args in ap refusal_numbered (fault_type a.s.now a.at (omega arith) (omega arith))

pub returns-then-s-at : goal.returns-then-s-at
unfolding refusal_numbered
returns-then-s-at c = let a = c.args in ap refusal_numbered (fault_cut a.s.now a.at (omega arith) (omega arith) (omega arith))

pub returns : goal.returns
unfolding refusal_numbered
returns c = let a = c.args in ap refusal_numbered (fault_order a.s.now a.at (omega arith) (omega arith) (omega arith))
