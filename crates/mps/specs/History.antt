-- What is asked of a book. Document 02, ask 3: "the book's rows are the history"; 27 for a bad book, 28 for "an edition .. that
-- the book doesn't hold".
use Rattle.std.specs.Prelude.{ℕ, ◌+◌, Bool, cond, not, ◌&&◌, List, [], ◌∷◌, length, eqb, Result}
use Rattle.mps.specs.Words.{head, any, keep, each}
use Rattle.mps.specs.Refusals.{Rule, ◌when◌, refusal, bad_book_number, not_latest_number}
use Rattle.mps.specs.Answers.{answered}
use Rattle.mps.specs.Rooms.{too_small, lent_refusal, lent_left}
use Rattle.mps.specs.Book.{Row, BookLayout, body_in, latest, bodies_at, rows_from, book_of, rows_of, bad_book}
use Rattle.mps.specs.declared.refusals.Refusal.{Refusal}
use Rattle.mps.specs.declared.Booked.{Booked}
use Rattle.mps.specs.declared.Body.{Body}

-- ---- How many rows there are, and how many bytes

unfoldable pub book_rules : BookLayout → List ℕ → List Rule
book_rules l s = bad_book_number when bad_book l s ∷ []

unfoldable pub book_refusal : BookLayout → List ℕ → ℕ
book_refusal l s = refusal (book_rules l s)

unfoldable pub booked : BookLayout → List ℕ → Result Booked Refusal
booked l s = answered (book_refusal l s) (record { rows = length (rows_of l s); size = length (book_of l (rows_of l s)) })

-- ---- The latest edition of a machine, 0 where there is none

unfoldable pub latest_told : BookLayout → List ℕ → ℕ → Result ℕ Refusal
latest_told l s machine = answered (book_refusal l s) (latest machine (rows_of l s))

-- ---- Where the body of an edition stands

unfoldable pub is_edition : ℕ → ℕ → Row → Bool
is_edition machine edition r = eqb r.machine machine && eqb r.edition edition

-- Whether rows hold an edition of a machine.
unfoldable pub holds_edition : ℕ → ℕ → List Row → Bool
holds_edition machine edition rows = any (is_edition machine edition) rows

-- Its body.
unfoldable pub edition_body : ℕ → ℕ → List Row → List ℕ
edition_body machine edition rows = head [] (each body_in (keep (is_edition machine edition) rows))

-- Where that begins, given where the body of the first row does.
unfoldable pub edition_start : ℕ → ℕ → ℕ → List Row → ℕ
edition_start machine edition at [] = at
edition_start machine edition at (r ∷ rows) =
    cond (is_edition machine edition r) at (edition_start machine edition (at + length r.body) rows)

unfoldable pub edition_rules : BookLayout → List ℕ → ℕ → ℕ → List Rule
edition_rules l s machine edition =
    bad_book_number when bad_book l s ∷ not_latest_number when not (holds_edition machine edition (rows_of l s)) ∷ []

unfoldable pub edition_refusal : BookLayout → List ℕ → ℕ → ℕ → ℕ
edition_refusal l s machine edition = refusal (edition_rules l s machine edition)

unfoldable pub body_told : BookLayout → List ℕ → ℕ → ℕ → Result Body Refusal
body_told l s machine edition =
    answered
    (edition_refusal l s machine edition)
    (record {
      size = length (edition_body machine edition (rows_of l s));
      start = edition_start machine edition (bodies_at l.width (length (rows_of l s))) (rows_of l s);
    })

-- ---- Each row, in a lent room: machine, edition, offset and length, the last two with four bytes each whatever the layout is

abbrev pub history_width : ℕ
history_width = 4

unfoldable pub history_of : BookLayout → List ℕ → List ℕ
history_of l s = rows_from history_width (bodies_at l.width (length (rows_of l s))) (rows_of l s)

unfoldable pub history_refusal : BookLayout → List ℕ → List ℕ → ℕ
history_refusal l s room = lent_refusal (book_rules l s) (too_small (length (history_of l s)) room)

unfoldable pub history_told : BookLayout → List ℕ → List ℕ → Result ℕ Refusal
history_told l s room = answered (history_refusal l s room) (length (rows_of l s))

unfoldable pub history_left : BookLayout → List ℕ → List ℕ → List ℕ
history_left l s room = lent_left (history_refusal l s room) (history_of l s) room
