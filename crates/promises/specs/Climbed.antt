-- What demand 2 says of the addresses seen by a bus: "the parent's answer", and "how many links to parents were climbed".
-- And what document 02's ask 5 is held against: the answer that the query gave before it.
use Rattle.std.specs.Prelude.{ℕ, zero, suc, ◌+◌, ◌-◌, ◌<◌, ◌≡◌, Bool, List, length, Result}
use Rattle.mps.specs.Words.{each, twice, head}
use Rattle.mps.specs.Refusals.{refusal}
use Rattle.mps.specs.Layout.{Entry, bus_type, parent_bus, base_entries, extended_entries}
use Rattle.mps.specs.Rules.{ids_of, links, parents_of}
use Rattle.mps.specs.Answers.{answered, links_in}
use Rattle.mps.specs.declared.refusals.Refusal.{Refusal}
use Rattle.mps.specs.Addresses.{Say, says, answer, claim_beside, silence_beside, leaves, address_rules}
use Rattle.mps.specs.declared.Seen.{Seen}
use Rattle.mps.specs.declared.Seen.TheVariants.{No, Yes, Undeclared}

-- The bus that so many links lead to.
unfoldable pub above : List Entry → ℕ → ℕ → ℕ
above ls zero bus = bus
above ls (suc k) bus = above ls k (head bus (parents_of ls bus))

-- What comes down so many links to a bus of an answer above: at each the others with that parent take away.
unfoldable pub down_to : ℕ → List Entry → ℕ → ℕ → ℕ → Seen → Seen
down_to zero xs bus kind address r = r
down_to (suc k) xs bus kind address r =
    let up = head bus (parents_of (links xs) bus) in
    leaves xs up bus kind address (down_to k xs up kind address r)

-- The links of an answer are those climbed: each bus on the way asked its parent, the one they lead to answers by itself, and
-- its answer comes down to the bus.
pub record Climbed (t : List ℕ) (bus kind address : ℕ) (r : Seen) : Type 0 where
  pub asked : (k : ℕ) → k < links_in r → says (extended_entries t) (above (links (extended_entries t)) k bus) kind address ≡ Say.parent
  pub itself : says (extended_entries t) (above (links (extended_entries t)) (links_in r) bus) kind address ≡ Say.parent → ⊥
  pub answered : r
      ≡ down_to (links_in r) (extended_entries t) bus kind address
      (answer (says (extended_entries t) (above (links (extended_entries t)) (links_in r) bus) kind address) (links_in r) (Undeclared (links_in r)))

-- The same answer with one link more.
abbrev pub onward : Seen → Seen
onward (No k) = No (k + 1)
onward (Yes k) = Yes (k + 1)
onward (Undeclared k) = Undeclared (k + 1)

-- ---- Document 02, ask 5: the parent of a bus (the bus itself, where it has none), whether "another bus with that parent declares
-- or adds the address and doesn't take it away", and whether "some other such bus has neither 128 nor 130 entry and no
-- subtractive bit".

abbrev pub parent_of : List ℕ → ℕ → ℕ
parent_of t bus = head bus (parents_of (links (extended_entries t)) bus)

abbrev pub claim_of : List ℕ → ℕ → ℕ → ℕ → Bool
claim_of t bus kind address = claim_beside (extended_entries t) (parent_of t bus) bus kind address

abbrev pub silence_of : List ℕ → ℕ → Bool
silence_of t bus = silence_beside (extended_entries t) (parent_of t bus) bus

-- ---- Document 01's answer, "the parent's answer, if the bus has the subtractive bit", as it was before ask 5: "Our query hands
-- it all its parent sees".

unfoldable pub climb_before : ℕ → List Entry → ℕ → ℕ → ℕ → ℕ → Seen
climb_before zero xs bus kind address climbed = answer (says xs bus kind address) climbed (Undeclared climbed)
climb_before (suc left) xs bus kind address climbed =
    answer (says xs bus kind address) climbed (climb_before left xs (head bus (parents_of (links xs) bus)) kind address (climbed + 1))

unfoldable pub seen_before : List ℕ → ℕ → ℕ → ℕ → Result Seen Refusal
seen_before t bus kind address =
    answered (refusal (address_rules t bus kind))
    (climb_before (length (ids_of bus_type (base_entries t)) - 1) (extended_entries t) bus kind address 0)

-- Two buses share a parent: two type 129 entries have the same one.
abbrev pub share_parent : List ℕ → Bool
share_parent t = twice (each parent_bus (links (extended_entries t)))
