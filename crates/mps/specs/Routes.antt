-- Interrupt routes. Document 01, "Routes and addresses", first paragraph; MPS 4.3.4 and 4.3.5. MPS connects destination 0FFh
-- to all APICs; the paper to the enabled ones. (MPS 4.3.1 and 4.3.3 call one without its EN bit "unusable".)
use Rattle.std.specs.Prelude.{ℕ, ◌/◌, Bool, not, ◌||◌, ◌&&◌, List, [], ◌∷◌, ◌++◌, length, ltb, eqb, Result}
use Rattle.mps.specs.Words.{keep, each, joined}
use Rattle.mps.specs.Refusals.{Rule, ◌when◌, query_number}
use Rattle.mps.specs.Layout.{Entry, of_type, interrupt_type_most, id_of, interrupt_type, source_bus, source_irq, destination, input, everyone, base_entries}
use Rattle.mps.specs.Rules.{Side, enabled_of, is_listed}
use Rattle.mps.specs.Judge.{table_rules}
use Rattle.mps.specs.Answers.{answered}
use Rattle.mps.specs.Rooms.{too_small, lent_refusal, lent_left}
use Rattle.mps.specs.declared.refusals.Refusal.{Refusal}

-- A question: the side that it is about, and "interrupt type, bus and IRQ".
pub record Question : Type 0 where
  pub side : Side
  pub itype : ℕ
  pub bus : ℕ
  pub irq : ℕ

abbrev pub question : Side → ℕ → ℕ → ℕ → Question
question side itype bus irq = record { side = side; itype = itype; bus = bus; irq = irq }

-- Whether an interrupt entry has this interrupt type, source bus and source IRQ, each compared as a whole byte.
unfoldable pub asked : ℕ → ℕ → ℕ → Entry → Bool
asked itype bus irq e = eqb (interrupt_type e) itype && eqb (source_bus e) bus && eqb (source_irq e) irq

-- .. and is of the side that is asked about.
unfoldable pub matches : Question → Entry → Bool
matches q e = of_type q.side.interrupts e && asked q.itype q.bus q.irq e

-- Whether an interrupt entry names an APIC: "255 names all".
unfoldable pub names : Entry → Entry → Bool
names e apic = eqb (destination e) everyone || eqb (destination e) (id_of apic)

-- "pairs (ID, input), two bytes each": the APIC's own ID, never 255.
abbrev pub pair_size : ℕ
pair_size = 2

-- The pair of an interrupt entry and the ID of an APIC that it names.
unfoldable pub pair : Entry → ℕ → List ℕ
pair e id = id ∷ input e ∷ []

-- ".. and in each entry every enabled I/O APIC it names, in table order"
unfoldable pub pairs_to : List Entry → Entry → List ℕ
pairs_to apics e = joined (pair e) (each id_of (keep (names e) apics))

-- "entries in table order": the bytes of all the pairs.
unfoldable pub routes : Question → List Entry → List ℕ
routes q es = joined (pairs_to (enabled_of q.side.targets es)) (keep (matches q) es)

-- The pairs of a table for a question.
unfoldable pub routes_of : Question → List ℕ → List ℕ
routes_of q t = routes q (base_entries t)

-- ---- The query: "queries test the table, then 24, then 19"

-- 24: "query: bus not listed .. or interrupt type over 3"
unfoldable pub wrong_line : Question → List ℕ → Bool
wrong_line q t = not (is_listed (base_entries t) q.bus) || ltb interrupt_type_most q.itype

-- What is tested before the room.
unfoldable pub line_rules : Question → List ℕ → List Rule
line_rules q t = table_rules t ++ (query_number when wrong_line q t ∷ [])

unfoldable pub route_refusal : Question → List ℕ → List ℕ → ℕ
route_refusal q t room = lent_refusal (line_rules q t) (too_small (length (routes_of q t)) room)

-- "No match is count 0."
unfoldable pub routed : Question → List ℕ → List ℕ → Result ℕ Refusal
routed q t room = answered (route_refusal q t room) (length (routes_of q t) / pair_size)

unfoldable pub routes_left : Question → List ℕ → List ℕ → List ℕ
routes_left q t room = lent_left (route_refusal q t room) (routes_of q t) room
