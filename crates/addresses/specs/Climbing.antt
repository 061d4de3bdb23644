-- The climb over the three lists that crate marks gathers, of marks, of parents and of what is said below each: it goes from
-- bus to bus and not over the entries again. That it answers as mps's `climb` does is proved: proofs/Laws.antt.
use Rattle.std.specs.Prelude.{ℕ, zero, suc, ◌+◌, true, false, List}
use Rattle.mps.specs.Words.{byte}
use Rattle.mps.specs.Layout.{Entry}
use Rattle.mps.specs.Addresses.{answer, unclaimed}
use Rattle.mps.specs.declared.Seen.{Seen}
use Rattle.mps.specs.declared.Seen.TheVariants.{No, Yes, Undeclared}
use Rattle.marks.specs.Marks.{meaning, nothing, all_marked, parented, said_below}

-- What is left of a parent's answer by what is said below it: all, or what mps's `unclaimed` leaves where one is silent or
-- where one claims the address.
abbrev pub left_by : ℕ → Seen → Seen
left_by zero above = above
left_by (suc zero) above = unclaimed false true above
left_by (suc (suc n)) above = unclaimed true false above

-- "the parent's answer, if the bus has the subtractive bit": mps's `climb`, over the three lists.
unfoldable pub climb_in : ℕ → List ℕ → List ℕ → List ℕ → ℕ → ℕ → Seen
climb_in zero marks parents below bus climbed = answer (meaning (byte marks bus)) climbed (Undeclared climbed)
climb_in (suc left) marks parents below bus climbed =
    let up = byte parents bus in
    answer (meaning (byte marks bus)) climbed (left_by (byte below up) (climb_in left marks parents below up (climbed + 1)))

-- The same from the start, over what crate marks gathers of the mappings, links and modifiers.
abbrev pub climb_over : ℕ → ℕ → ℕ → List Entry → List Entry → List Entry → ℕ → Seen
climb_over left kind address maps ls mods bus =
    let marks = all_marked kind address nothing maps ls mods in
    climb_in left marks (parented nothing ls) (said_below marks nothing ls) bus 0

-- A climb goes upwards, and what is left of a yes shows on the way: it is kept as the mark that means it.

-- The mark for a yes behind one more link, by what is said below: as before, undeclared or no.
abbrev pub narrowed : ℕ → ℕ → ℕ
narrowed kept zero = kept
narrowed kept (suc zero) = 0
narrowed kept (suc (suc n)) = 1

-- An answer from above where a mark stands for yes.
abbrev pub instead : ℕ → Seen → Seen
instead kept (Yes climbed) = answer (meaning kept) climbed (Undeclared climbed)
instead kept (No climbed) = No climbed
instead kept (Undeclared climbed) = Undeclared climbed
