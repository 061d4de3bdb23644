use Rattle.mps.specs.Words.{joined}
use Rattle.sets.specs.Sets.{set_bits}
use Rattle.slots.specs.Sets.{slot_bytes}
use Rattle.slots.proofs.Writing.{Spells}
use Rattle.slots.proofs.put_word.Given as goal

abbrev pub invariant-loop-rest : goal.invariant-loop-rest
invariant-loop-rest l = Spells l.initial.out l.at (joined slot_bytes (set_bits 64 l.first l.word)) l.first l.out l.place l.rest

abbrev pub decreases-loop-rest : goal.decreases-loop-rest
decreases-loop-rest l = l.rest
