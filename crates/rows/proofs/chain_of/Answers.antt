use borrow.Author.Rules.{rules}
use Rattle.rows.specs.Chains.{chain_of}
use Rattle.rows.proofs.chain_of.Goals as goal

pub returns : goal.returns
unfolding chain_of
returns c = search rules
