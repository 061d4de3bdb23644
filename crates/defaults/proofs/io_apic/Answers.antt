-- Eight bytes, as the definition has them.
use borrow.Author.Rules.{rules}
use Rattle.mps.specs.Numbers.{bytes}
use Rattle.mps.specs.Defaults.{io_apic_entry}
use Rattle.defaults.proofs.io_apic.Goals as goal

pub returns : goal.returns
unfolding io_apic_entry bytes
returns c = search rules
