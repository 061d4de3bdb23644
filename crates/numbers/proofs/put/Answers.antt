-- All of it has room.
use Rattle.std.proofs.Common.{◌≡◌, ◌+◌, ◌-◌, length, take, drop, ap, sym, arith}
use Rattle.std.proofs.lemmas.List.{drop-drop, length-drop, length-take-le}
use Rattle.laws.proofs.Stores.{sets_fit}
use Rattle.numbers.proofs.put.Goals as goal

pub returns-then-room : goal.returns-then-room
returns-then-room g c =
    let a = c.args in
    let n = g.row.N in
    let e : a.at + n - a.at ≡ n = omega arith in
    let d = length-drop a.at a.out.now in
    let t : length (take n (drop a.at a.out.now)) ≡ n = length-take-le n (drop a.at a.out.now) (omega arith) in
    let now = ap length c.copy_from_slice.ensures.after in
    let was = rw e at c.copy_from_slice.ensures.len in
    let l : length a.x ≡ n = omega (arith, now, was, t) in
    rw (e, drop-drop n a.at a.out.now, c.copy_from_slice.ensures.after) (sym (rw l at (sets_fit a.out.now a.at a.x (omega arith))))
