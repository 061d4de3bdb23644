-- What demand 2 speaks of: "the routes .. are those the table declares"; and the pairs of a PCI slot (document 02, ask 1).
use Rattle.std.specs.Prelude.{ℕ, ◌+◌, ◌*◌, ◌<◌, ◌≡◌, Bool, true, ◌&&◌, List, [], length, get_or}
use Rattle.mps.specs.Words.{byte, only, joined}
use Rattle.mps.specs.Layout.{Entry, io_apic_type, of_type, enabled, id_of, input}
use Rattle.mps.specs.Routes.{Question, matches, names, pair_size, pair}
use Rattle.mps.specs.Slots.{Slot, wired_from}

-- ---- Any query for pairs: it asks about the interrupt entries that pass a test, and about targets of one type

-- Whether an entry is a target that is enabled: "every enabled I/O APIC"; "enabled processors".
unfoldable pub target : ℕ → Entry → Bool
target targets a = of_type targets a && enabled a

-- Whether two entries of a table declare a route: the one is asked about, and names the other.
unfoldable pub declares : (Entry → Bool) → ℕ → Entry → Entry → Bool
declares asked targets e a = asked e && (target targets a && names e a)

-- "entries in table order, and in each entry every enabled I/O APIC it names, in table order": all entries with all entries,
-- the first by the second, and the pair of those that declare a route.
unfoldable pub pairs_declared : (Entry → Bool) → ℕ → List Entry → List ℕ
pairs_declared asked targets es =
    joined (λ (e : Entry). joined (λ (a : Entry). only (declares asked targets e a) (pair e (id_of a))) es) es

-- A pair of an ID and an input is declared: by the entries at two places of the table.
pub record PairDeclared (asked : Entry → Bool) (targets : ℕ) (es : List Entry) (id into : ℕ) : Type 0 where
  pub line : ℕ
  pub apic : ℕ
  pub line_there : line < length es
  pub apic_there : apic < length es
  pub route : declares asked targets (get_or es line []) (get_or es apic []) ≡ true
  pub named : id_of (get_or es apic []) ≡ id
  pub entered : input (get_or es line []) ≡ into

-- A pair is one of the first n of some bytes.
pub record Stands (n : ℕ) (s : List ℕ) (id into : ℕ) : Type 0 where
  pub place : ℕ
  pub there : place < n
  pub first : byte s (place * pair_size) ≡ id
  pub second : byte s (place * pair_size + 1) ≡ into

-- ---- The route queries

abbrev pub declared : Question → List Entry → List ℕ
declared q es = pairs_declared (matches q) q.side.targets es

-- A route of an ID and an input.
abbrev pub Route : Question → List Entry → ℕ → ℕ → Type 0
Route q es id into = PairDeclared (matches q) q.side.targets es id into

-- ---- A PCI slot: "the route pairs of interrupt type INT, bit 7 ignored"

abbrev pub slot_declared : Slot → List Entry → List ℕ
slot_declared s es = pairs_declared (wired_from s) io_apic_type es

abbrev pub SlotRoute : Slot → List Entry → ℕ → ℕ → Type 0
SlotRoute s es id into = PairDeclared (wired_from s) io_apic_type es id into
