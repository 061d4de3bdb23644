-- The loop keeps `Runs`: all editions run where those of the rows left do; and `Chains`, those of the rows before.
use mathlib.Core.Path.{◌∙◌}
use native.Mathlib.Omega.{arith}
use Rattle.rows.proofs.Laws.{runs_first, runs_stop, runs_next}
use Rattle.rows.proofs.Laws.{chains_first, chains_asked, chains_told, chains_next}
use Rattle.rows.proofs.chains.Goals as goal

pub loop-k-init : goal.loop-k-init
loop-k-init c = (runs_first _ _, chains_first _)

pub chained-requires : goal.chained-requires
chained-requires c =
    let g = c.chain_of-chain.ensures in
    chains_asked _ _ _ _ c.loop-k.invariant.1 (omega arith) c.read-row.ensures g.0 g.1

pub returns-then-row-chained : goal.returns-then-row-chained
returns-then-row-chained c =
    let i = c.loop-k.invariant in
    let g = c.chain_of-chain.ensures in
    let t = chains_told _ _ _ _ i.1 (omega arith) c.read-row.ensures g.0 g.1 in
    runs_stop _ _ _ i.0 (omega arith) c.read-row.ensures (c.chained.ensures ∙ t) c.if-row-chained.true

pub loop-k-preserved : goal.loop-k-preserved
loop-k-preserved c =
    let i = c.loop-k.invariant in
    let g = c.chain_of-chain.ensures in
    let t = chains_told _ _ _ _ i.1 (omega arith) c.read-row.ensures g.0 g.1 in (
      runs_next _ _ _ i.0 (omega arith) c.read-row.ensures (c.chained.ensures ∙ t) (omega arith),
      chains_next _ _ _ _ i.1 (omega arith) c.read-row.ensures g.0 g.1,
    )
