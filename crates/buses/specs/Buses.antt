-- Refusal 15: how the buses are called over the roll.
use Rattle.std.specs.Prelude.{true}
use Rattle.mps.specs.Rules.{unknown_name}
use Rattle.roll.specs.Roll.{bus_bit, mark}
use Rattle.roll.specs.Calls.{Call}

-- "bus ID twice, or name unknown". Every bus needs an ID that no bus before it has, and is put there as a bus. proofs/Laws.antt
-- has it in the words of the rule (`buses_wrong`).
unfoldable pub bus_call : Call
bus_call = record { claims = λ e. true; by = bus_bit; bad = unknown_name; marks = λ e. mark bus_bit }
