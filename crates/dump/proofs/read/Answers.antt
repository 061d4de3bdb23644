-- The refusals; the rest is found by the laws named on the function.
use Rattle.dump.proofs.Ways.{passed_refused, read_wrong}
use Rattle.dump.proofs.read.Goals as goal

pub returns-in_err-found : goal.returns-in_err-found
returns-in_err-found c = passed_refused _ c.find.ensures c.in_err-found.was c.from_residual.ensures.1

pub returns-in-Err : goal.returns-in-Err
returns-in-Err c = read_wrong _ c.find.ensures _ _ _ _ _ (rw c.in-Table.is at c.in_ok-found.was) c.judge.ensures c.in-Err.is
