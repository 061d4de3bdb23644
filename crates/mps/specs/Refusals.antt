-- "Refusal numbers, tested in this order". Document 01, the table of that name: "No." and "Given exactly when".
use Rattle.std.specs.Prelude.{ℕ, Bool, cond, List, [], ◌∷◌}

infix 70 ◌when◌
-- A row of the table: a number, and whether what it stands for is so.
pub data Rule : Type 0 where
  ◌when◌ : ℕ → Bool → Rule

-- A number stands in the row that gives it, as in the paper's table. These are given or asked for in more than one place:

-- "base length under 44, over 4,096 or past the region", and the writer's "if the base would pass 4,096"; of
-- a book's body, "or 7 if bytes follow the table" (document 02, ask 3)
abbrev pub base_number : ℕ
base_number = 7

-- The three faults of a base entry.
abbrev pub type_number : ℕ
type_number = 10

abbrev pub cut_number : ℕ
cut_number = 11

abbrev pub order_number : ℕ
order_number = 12

-- The extended part's, and the writer's "if the extended part would".
abbrev pub extended_number : ℕ
extended_number = 13

-- "answer longer than the lent room"
abbrev pub room_number : ℕ
room_number = 19

-- "the edited table would be refused; the inner number is given too"
abbrev pub inner_number : ℕ
inner_number = 23

-- "query: bus not listed, address kind over 2 or interrupt type over 3"
abbrev pub query_number : ℕ
query_number = 24

-- "27 bad book, a bad body inside it too", "28 not the latest, or an edition to restore that the book doesn't hold" (document 02,
-- ask 3)
abbrev pub bad_book_number : ℕ
bad_book_number = 27

abbrev pub not_latest_number : ℕ
not_latest_number = 28

-- "30, number not 1 to 7 or boot processor not 0 or 1" (document 02, ask 6)
abbrev pub default_number : ℕ
default_number = 30

-- The number of the first row that is so, in the order of the rows; 0 where none is.
unfoldable pub refusal : List Rule → ℕ
refusal [] = 0
refusal (n when broken ∷ rows) = cond broken n (refusal rows)
