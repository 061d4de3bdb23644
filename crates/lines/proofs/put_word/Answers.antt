-- The library's copy stores the word: all of it has room.
use Rattle.std.proofs.Common.{◌≡◌, ◌+◌, ◌-◌, length, sym, arith}
use Rattle.std.proofs.lemmas.List.{drop-drop}
use Rattle.laws.proofs.Stores.{sets_fit}
use Rattle.lines.proofs.put_word.Goals as goal

pub returns : goal.returns
returns c =
    let a = c.args in
    let n = length a.w.now in
    let e : a.at + n - a.at ≡ n = omega arith in
    rw (e, drop-drop n a.at a.out.now, c.copy_from_slice.ensures.after) (sym (sets_fit a.out.now a.at a.w.now (omega arith)))
