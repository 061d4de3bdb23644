-- Rule 14 but for the local APIC address, and rule 16, as calls over the roll (roll's specs/Calls.antt). 255 is taken on the
-- roll from the start, of both kinds (judge's `from_14`), so neither call tests for it. proofs/Laws.antt has both in the words of
-- the rules (`cpus_wrong`, `ios_wrong`).
use Rattle.std.specs.Prelude.{ℕ, ◌+◌, Bool, not, cond, ◌||◌, ◌&&◌, List, eqb, length}
use Rattle.mps.specs.Words.{keep}
use Rattle.mps.specs.Layout.{Entry, enabled, bootstrap}
use Rattle.mps.specs.Rules.{misplaced}
use Rattle.roll.specs.Roll.{processor_bit, taken_bit, io_apic_bit, io_taken_bit, mark}
use Rattle.roll.specs.Calls.{Call, called}

-- An enabled processor claims its ID; a disabled one does not, and is wrong where it is the bootstrap processor.
unfoldable pub processor_call : Call
processor_call = record {
  claims = enabled;
  by = taken_bit;
  bad = λ e. bootstrap e && not (enabled e);
  marks = λ e. cond (enabled e) (mark processor_bit + mark taken_bit) (mark processor_bit);
}

-- An enabled I/O APIC claims its ID, by a bit of its own kind: a processor may have it too. It is wrong where it is misplaced;
-- of a disabled one nothing is asked.
unfoldable pub io_apic_call : Call
io_apic_call = record {
  claims = enabled;
  by = io_taken_bit;
  bad = λ e. enabled e && misplaced e;
  marks = λ e. cond (enabled e) (mark io_apic_bit + mark io_taken_bit) (mark io_apic_bit);
}

-- Rule 14 of processors: one is wrong, or not exactly one is the bootstrap processor.
unfoldable pub wrong_processors_in : List ℕ → List Entry → Bool
wrong_processors_in roll ps = (called processor_call roll ps).wrong || not (eqb (length (keep bootstrap ps)) 1)
