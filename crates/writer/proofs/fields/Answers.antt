use mathlib.Core.Path.{ap, ◌∙◌}
use Rattle.mps.specs.Layout.{header_size}
use Rattle.mps.specs.Writing.{fields_of}
use Rattle.laws.proofs.Stores.{sets_zeros}
use Rattle.writer.proofs.fields.Goals as goal

pub returns : goal.returns
returns c =
    let t = c.args.t.now in
    c.fields_in.ensures ∙ ap fields_of (c.copy.ensures ∙ sets_zeros header_size t)
