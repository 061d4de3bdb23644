-- Saving a table in a book, and restoring one. Document 02, ask 3: "A save adds row and body last." "Refusals: 27 bad book, a bad
-- body inside it too; then the new body's own number, or 7 if bytes follow the table; 28 not the latest, or an edition to
-- restore that the book doesn't hold; 29 .. None writes."
use Rattle.std.specs.Prelude.{ℕ, ◌+◌, Bool, not, ◌||◌, List, [], ◌∷◌, ◌++◌, length, ltb, eqb, Result}
use Rattle.mps.specs.Refusals.{Rule, ◌when◌, refusal, not_latest_number}
use Rattle.mps.specs.Layout.{edition_most}
use Rattle.mps.specs.Answers.{answered}
use Rattle.mps.specs.Rooms.{too_small, lent_left}
use Rattle.mps.specs.Book.{Row, BookLayout, latest, body_rules, book_of, rows_of}
use Rattle.mps.specs.History.{book_rules, edition_body, edition_rules}
use Rattle.mps.specs.declared.refusals.Refusal.{Refusal}
use Rattle.mps.specs.declared.Booked.{Booked}

-- ---- An edition more

-- What is added: to a machine, behind the edition that it began from, a body.
pub record Addition : Type 0 where
  pub machine : ℕ
  pub began : ℕ
  pub body : List ℕ

-- Its row: the next edition.
unfoldable pub new_row : Addition → Row
new_row a = record { machine = a.machine; edition = a.began + 1; body = a.body }

-- "A save adds row and body last."
unfoldable pub grown_book : BookLayout → List ℕ → Addition → List ℕ
grown_book l s a = book_of l (rows_of l s ++ (new_row a ∷ []))

-- 28: "taken only if that is still the latest"; 0 is the latest of a new machine.
unfoldable pub not_latest : BookLayout → List ℕ → Addition → Bool
not_latest l s a = not (eqb (latest a.machine (rows_of l s)) a.began)

-- 29: "exactly when the book with row and body would pass 32,768 or the lent room, or edition 65,535 is reached"
unfoldable pub book_full : BookLayout → List ℕ → Addition → Bool
book_full l s a =
    ltb l.most (length (grown_book l s a))
    || too_small (length (grown_book l s a)) s
    || eqb (latest a.machine (rows_of l s)) edition_most

unfoldable pub addition_rules : BookLayout → List ℕ → Addition → List Rule
addition_rules l s a = not_latest_number when not_latest l s a ∷ 29 when book_full l s a ∷ []

-- The answer: the rows and bytes of the book then.
unfoldable pub grown : BookLayout → List ℕ → Addition → ℕ → Result Booked Refusal
grown l s a number = answered number (record { rows = length (rows_of l s) + 1; size = length (grown_book l s a) })

-- ---- The two calls

-- "A save names the machine and the edition it began from (0 for a new machine)"; "Restoring names the machine, an old edition
-- and the latest one, and saves the old body as a new edition."
pub data Ask : Type 0 where
  save : ℕ → ℕ → List ℕ → Ask
  restore : ℕ → ℕ → ℕ → Ask

unfoldable pub addition : BookLayout → List ℕ → Ask → Addition
addition l s (save machine began body) = record { machine = machine; began = began; body = body }
addition l s (restore machine old now) =
    record { machine = machine; began = now; body = edition_body machine old (rows_of l s) }

-- What is tested before 28 and 29: the book and the body of a save; the book and the old edition of a restore.
unfoldable pub ask_rules : BookLayout → List ℕ → Ask → List Rule
ask_rules l s (save machine began body) = book_rules l s ++ body_rules body
ask_rules l s (restore machine old now) = edition_rules l s machine old

unfoldable pub add_refusal : BookLayout → List ℕ → Ask → ℕ
add_refusal l s ask = refusal (ask_rules l s ask ++ addition_rules l s (addition l s ask))

unfoldable pub added : BookLayout → List ℕ → Ask → Result Booked Refusal
added l s ask = grown l s (addition l s ask) (add_refusal l s ask)

-- What the call leaves in the room: "None writes."
unfoldable pub add_left : BookLayout → List ℕ → Ask → List ℕ
add_left l s ask = lent_left (add_refusal l s ask) (grown_book l s (addition l s ask)) s

-- ---- A run of saves and restores, accepted and refused mixed: what it leaves, and its answers in their order

-- What a run leaves: each is made on what the ones before it left.
unfoldable pub add_run : BookLayout → List ℕ → List Ask → List ℕ
add_run l s [] = s
add_run l s (ask ∷ asks) = add_run l (add_left l s ask) asks

-- The answer of each.
unfoldable pub add_answers : BookLayout → List ℕ → List Ask → List (Result Booked Refusal)
add_answers l s [] = []
add_answers l s (ask ∷ asks) = added l s ask ∷ add_answers l (add_left l s ask) asks
