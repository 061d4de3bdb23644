-- The addresses that a bus sees. Document 01, "Routes and addresses", second paragraph, as document 02 amends it in ask 5;
-- MPS 4.4.1 to 4.4.3 and Appendix E.
use Rattle.std.specs.Prelude.{ℕ, zero, suc, ◌+◌, ◌-◌, Bool, cond, not, ◌||◌, ◌&&◌, List, [], ◌∷◌, ◌++◌, length, leb, ltb, eqb, Result}
use Rattle.mps.specs.Words.{any, each, keep, head}
use Rattle.mps.specs.Refusals.{Rule, ◌when◌, refusal, query_number}
use Rattle.mps.specs.Ranges.{in_list}
use Rattle.mps.specs.Layout.{Entry, of_type, bus_type, mapping_type, modifier_type, base_entries, extended_entries}
use Rattle.mps.specs.Layout.{space_kind, space_kind_most, space_base, space_length, extended_bus, subtractive_bit, parent_bus, takes_bit, range_list}
use Rattle.mps.specs.Rules.{on_bus, links, parents_of, is_listed, ids_of}
use Rattle.mps.specs.Judge.{table_rules}
use Rattle.mps.specs.Answers.{answered}
use Rattle.mps.specs.declared.refusals.Refusal.{Refusal}
use Rattle.mps.specs.declared.Seen.{Seen}
use Rattle.mps.specs.declared.Seen.TheVariants.{No, Yes, Undeclared}

-- ---- What one extended entry says of an address of a kind on a bus

-- "a 128 entry of that kind covers it"
unfoldable pub covers : ℕ → ℕ → ℕ → Entry → Bool
covers bus kind address e =
    of_type mapping_type e
    && on_bus bus e
    && eqb (space_kind e) kind
    && leb (space_base e) address
    && ltb address (space_base e + space_length e)

-- "Modifiers touch I/O addresses below 65,536 only": whether a modifier of the bus touches the address.
unfoldable pub touches : ℕ → ℕ → ℕ → Entry → Bool
touches bus kind address e = of_type modifier_type e && on_bus bus e && eqb kind 0 && in_list (range_list e) address

-- "a modifier takes it away"
unfoldable pub takes_away : ℕ → ℕ → ℕ → Entry → Bool
takes_away bus kind address e = touches bus kind address e && takes_bit e

-- "a modifier adds it"
unfoldable pub adds : ℕ → ℕ → ℕ → Entry → Bool
adds bus kind address e = touches bus kind address e && not (takes_bit e)

-- "a 128 entry of that kind covers it or a modifier adds it"
unfoldable pub covers_or_adds : ℕ → ℕ → ℕ → Entry → Bool
covers_or_adds bus kind address e = covers bus kind address e || adds bus kind address e

-- "the bus has any 128 or 130 entry": of any kind, empty ranges and modifiers too.
unfoldable pub has_entry : ℕ → Entry → Bool
has_entry bus e = (of_type mapping_type e || of_type modifier_type e) && on_bus bus e

-- "the bus has the subtractive bit": in its type 129 entry.
unfoldable pub subtractive : ℕ → Entry → Bool
subtractive bus e = on_bus bus e && subtractive_bit e

-- ---- What a bus says: "first that applies"

pub data Say : Type 0 where
  no yes parent undeclared : Say

-- "no, if a modifier takes it away; yes, if a 128 entry of that kind covers it or a modifier adds it; the parent's answer,
-- if the bus has the subtractive bit; no, if the bus has any 128 or 130 entry; else undeclared"
unfoldable pub says : List Entry → ℕ → ℕ → ℕ → Say
says xs bus kind address =
    cond (any (takes_away bus kind address) xs) Say.no
    (cond (any (covers_or_adds bus kind address) xs) Say.yes
    (cond (any (subtractive bus) (links xs)) Say.parent
    (cond (any (has_entry bus) xs) Say.no Say.undeclared)))

-- A bus's own answer, with the links climbed to it, or what its parent answers.
abbrev pub answer : Say → ℕ → Seen → Seen
answer Say.no climbed above = No climbed
answer Say.yes climbed above = Yes climbed
answer Say.parent climbed above = above
answer Say.undeclared climbed above = Undeclared climbed

-- ---- What the other buses with that parent leave. Document 02, ask 5: "MPS 4.4.2 gives it only what nobody else there
-- claims"; "Claims of plain devices aren't in the table and don't count."

-- "another bus with that parent": a type 129 entry of another bus with that parent, with or without the bit,
unfoldable pub another : ℕ → ℕ → Entry → Bool
another up bus e = eqb (parent_bus e) up && not (on_bus bus e)

-- and the buses of such entries.
unfoldable pub others : List Entry → ℕ → ℕ → List ℕ
others ls up bus = each extended_bus (keep (another up bus) ls)

-- "declares or adds the address and doesn't take it away": by its own entries.
unfoldable pub claims : List Entry → ℕ → ℕ → ℕ → Bool
claims xs kind address bus = any (covers_or_adds bus kind address) xs && not (any (takes_away bus kind address) xs)

-- "has neither 128 nor 130 entry and no subtractive bit"
unfoldable pub silent : List Entry → ℕ → Bool
silent xs bus = not (any (has_entry bus) xs) && not (any (subtractive bus) (links xs))

-- "another bus with that parent declares or adds the address and doesn't take it away"
abbrev pub claim_beside : List Entry → ℕ → ℕ → ℕ → ℕ → Bool
claim_beside xs up bus kind address = any (claims xs kind address) (others (links xs) up bus)

-- "some other such bus has neither 128 nor 130 entry and no subtractive bit"
abbrev pub silence_beside : List Entry → ℕ → ℕ → Bool
silence_beside xs up bus = any (silent xs) (others (links xs) up bus)

-- "when the parent answers yes, the answer is no if another bus .. declares or adds the address and doesn't take it away;
-- undeclared if none does but some other such bus has neither 128 nor 130 entry and no subtractive bit; else yes. The earlier
-- steps and the link count stay.": by whether there is such a claim, whether there is such a silence, and the parent's answer,
-- which stays where it is not yes.
abbrev pub unclaimed : Bool → Bool → Seen → Seen
unclaimed claim silence (Yes climbed) = cond claim (No climbed) (cond silence (Undeclared climbed) (Yes climbed))
unclaimed claim silence (No climbed) = No climbed
unclaimed claim silence (Undeclared climbed) = Undeclared climbed

-- What the other buses with that parent leave of its answer for a bus.
unfoldable pub leaves : List Entry → ℕ → ℕ → ℕ → ℕ → Seen → Seen
leaves xs up bus kind address above = unclaimed (claim_beside xs up bus kind address) (silence_beside xs up bus) above

-- ---- The climb

-- "the parent's answer, if the bus has the subtractive bit": a climb through the type 129 entries. The parent's answer is
-- itself so amended, so the rule works at every link. The falling number is the listed buses not visited yet. In an accepted
-- table it does not run out while there is a parent to ask (crate promises, seen-enough), and a bus with the subtractive bit has
-- a parent; else the answer would be undeclared.
unfoldable pub climb : ℕ → List Entry → ℕ → ℕ → ℕ → ℕ → Seen
climb zero xs bus kind address climbed = answer (says xs bus kind address) climbed (Undeclared climbed)
climb (suc left) xs bus kind address climbed =
    let up = head bus (parents_of (links xs) bus) in
    answer (says xs bus kind address) climbed (leaves xs up bus kind address (climb left xs up kind address (climbed + 1)))

-- The answer of a table, no link climbed yet. The bus itself is visited, so one bus less is left.
unfoldable pub seen_by : List ℕ → ℕ → ℕ → ℕ → Seen
seen_by t bus kind address =
    climb (length (ids_of bus_type (base_entries t)) - 1) (extended_entries t) bus kind address 0

-- ---- The query: "queries test the table, then 24, then 19". This one has no room, so 19 does not come.

-- 24: "query: bus not listed, address kind over 2 or interrupt type over 3", of which an address query has the first two.
unfoldable pub wrong_space : List ℕ → ℕ → ℕ → Bool
wrong_space t bus kind = not (is_listed (base_entries t) bus) || ltb space_kind_most kind

unfoldable pub address_rules : List ℕ → ℕ → ℕ → List Rule
address_rules t bus kind = table_rules t ++ (query_number when wrong_space t bus kind ∷ [])

-- The answer of the query.
unfoldable pub seen : List ℕ → ℕ → ℕ → ℕ → Result Seen Refusal
seen t bus kind address = answered (refusal (address_rules t bus kind)) (seen_by t bus kind address)
