-- The slots are those that the type 3 entries name on the buses of the roll, for which the set has words.
use Prim.Native.Nat.{ℕ, ◌*◌}
use mathlib.Core.Path.{◌≡◌}
use native.Mathlib.Omega.{arith}
use Rattle.sets.proofs.Laws.{cut_none}
use Rattle.slots.specs.Sets.{Held}
use Rattle.slots.proofs.Laws.{slots_listed_lem, buses_held}
use Rattle.slots.proofs.Answering.{listed_late}
use Rattle.slots.proofs.of_table.Goals as goal
use Rattle.slots.proofs.of_table.Goals.{After-top-words}

held : (c : After-top-words) → {size : ℕ} → size ≡ c.top-words.result * 2 → Held c.pci.new.roll size
held c e =
    buses_held c.args.t.now c.args.p c.requires.1 c.pci.ensures c.top-words.result c.top-words.ensures.2 e

pub of_set-requires : goal.of_set-requires
of_set-requires c =
    let z = cut_none 32 (c.top-words.result * 2) c.if-words-le32.true in
    (omega (arith, z.0, c.top-words.ensures.0), omega arith, z.1, held (goal.at.of_set-requires c).After-top-words z.0)

pub returns-then-words-le32 : goal.returns-then-words-le32
returns-then-words-le32 c =
    let both = listed_late c.args.t.now c.args.out.now c.requires.0 (slots_listed_lem c.args.t.now c.args.p c.requires.1 c.pci.ensures) (c.of_set.ensures.value, c.of_set.ensures.out_after) in record { value = both.0; out_after = both.1 }

pub of_set-requires-2 : goal.of_set-requires-2
of_set-requires-2 c =
    let z = cut_none 512 (c.top-words.result * 2) (omega (arith, c.top-words.ensures.1)) in
    (omega (arith, z.0, c.top-words.ensures.0), omega arith, z.1, held (goal.at.of_set-requires-2 c).After-top-words z.0)

pub returns : goal.returns
returns c =
    let both = listed_late c.args.t.now c.args.out.now c.requires.0 (slots_listed_lem c.args.t.now c.args.p c.requires.1 c.pci.ensures) (c.of_set-2.ensures.value, c.of_set-2.ensures.out_after) in record { value = both.0; out_after = both.1 }
