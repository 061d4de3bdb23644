-- A call that is lent two rooms is determined in both, in the form that .ci/lists writes. Assumes nothing.
use mathlib.Core.Path.{sym, ◌∙◌}
use Rattle.contracts.proofs.Forms.{Leaves, both}
use Rattle.contracts.proofs.two_rooms.Reads as two_rooms

pub two_rooms_determined : Leaves two_rooms.Post (λ κ s. both s.0.now s.1.0.now)
two_rooms_determined κ a x y s t p q = λ i. ((p.0 ∙ sym q.0) i, (p.1 ∙ sym q.1) i)
