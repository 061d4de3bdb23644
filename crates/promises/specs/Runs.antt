-- What demand 3 speaks of: the accepted edits of a run, entries with edits put in, and the parts that a table is written
-- afresh from.
use Rattle.std.specs.Prelude.{List, [], ◌∷◌, ℕ, set, Result, Ok, Err}
use Rattle.mps.specs.Words.{joined}
use Rattle.mps.specs.Layout.{Entry, extended_part}
use Rattle.mps.specs.Writing.{Parts, fields_of}
use Rattle.mps.specs.Edits.{Edit}
use Rattle.mps.specs.declared.refusals.EditRefusal.{EditRefusal}
use Rattle.mps.specs.declared.refusals.EditRefusal.TheVariants.{Refused, Inner}

-- The accepted edits of a run, in order: those that were answered as done.
unfoldable pub accepted : List Edit → List (Result (Unit {0}) EditRefusal) → List Edit
accepted [] rs = []
accepted (e ∷ es) [] = []
accepted (e ∷ es) (Ok _ ∷ rs) = e ∷ accepted es rs
accepted (e ∷ es) (Err (Refused refusal) ∷ rs) = accepted es rs
accepted (e ∷ es) (Err (Inner refusal) ∷ rs) = accepted es rs

-- Entries with edits put in, in order.
unfoldable pub put_in : List Entry → List Edit → List Entry
put_in entries [] = entries
put_in entries (e ∷ es) = put_in (set entries e.place e.wanted) es

-- The standing header fields and extended entries of a table, and other base entries.
unfoldable pub parts_with : List ℕ → List Entry → Parts
parts_with t entries = record { fields = fields_of t; base = joined (λ (e : Entry). e) entries; extended = extended_part t }
