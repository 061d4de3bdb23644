-- The line is one word, stored where it has room, or as far as it has: `end_is`.
use mathlib.Core.Path.{refl}
use Rattle.lines.proofs.Laws.{has_fits}
use Rattle.lines.proofs.FrameLines.{end_is}
use Rattle.mps.specs.Words.{text}
use Rattle.text.specs.Text.{ended}
use Rattle.lines.proofs.frame.end.Goals as goal

pub put_word-requires : goal.put_word-requires
put_word-requires c =
    let args = c.args in
    has_fits 4 args.out.now args.at c.has.ensures c.if-has.true

pub returns-then-has : goal.returns-then-has
unfolding ended text
returns-then-has c = rw (← end_is) (record { value = refl; out_after = c.put_word.ensures })

pub returns : goal.returns
unfolding ended text
returns c = rw (← end_is) (record { value = refl; out_after = c.copy.ensures })
