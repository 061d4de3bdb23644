-- What ask 3 of document 02 says of a book over many calls: the saves and restores that were taken, and the rows that they add.
use Rattle.std.specs.Prelude.{◌+◌, ◌<◌, List, [], ◌∷◌, ◌++◌, Result, Ok, Err}
use Rattle.mps.specs.Book.{Row}
use Rattle.mps.specs.History.{edition_body}
use Rattle.mps.specs.Saving.{Ask, save, restore}
use Rattle.mps.specs.declared.Booked.{Booked}
use Rattle.mps.specs.declared.refusals.Refusal.{Refusal}
use Rattle.laws.proofs.Small.{Bytes}

-- The ones of a run that were taken, in order: those that were answered with a book's rows and bytes.
unfoldable pub taken : List Ask → List (Result Booked Refusal) → List Ask
taken [] answers = []
taken (ask ∷ asks) [] = []
taken (ask ∷ asks) (Ok book ∷ answers) = ask ∷ taken asks answers
taken (ask ∷ asks) (Err refusal ∷ answers) = taken asks answers

-- The row that one adds behind others: the next edition, with the body that was given or with the old one's.
unfoldable pub row_for : List Row → Ask → Row
row_for rows (save machine began body) = record { machine = machine; edition = began + 1; body = body }
row_for rows (restore machine old now) = record { machine = machine; edition = now + 1; body = edition_body machine old rows }

-- Rows with these added, in order.
unfoldable pub put_rows : List Row → List Ask → List Row
put_rows rows [] = rows
put_rows rows (ask ∷ asks) = put_rows (rows ++ (row_for rows ask ∷ [])) asks

-- The rows that are added so.
unfoldable pub more_rows : List Row → List Ask → List Row
more_rows rows [] = []
more_rows rows (ask ∷ asks) = row_for rows ask ∷ more_rows (rows ++ (row_for rows ask ∷ [])) asks

-- What a call is always given: numbers of two bytes each, and bytes.
abbrev pub AskOfBytes : Ask → Type 0
AskOfBytes (save machine began body) = (machine < 65536) × (began < 65536) × Bytes body
AskOfBytes (restore machine old now) = (machine < 65536) × (now < 65536)

pub data AsksOfBytes : List Ask → Type 0 where
  no_asks : AsksOfBytes []
  more_asks : {ask : Ask} {asks : List Ask} → AskOfBytes ask → AsksOfBytes asks → AsksOfBytes (ask ∷ asks)
