-- What document 02's ask 2 leaves of number 16, in plain words: entries at places of a table, and no list of IDs.
use Rattle.std.specs.Prelude.{ℕ, ◌<◌, ◌≡◌, true, ◌||◌, List, [], length, get_or, eqb}
use Rattle.mps.specs.Layout.{Entry, io_apic_type, id_of, everyone}
use Rattle.mps.specs.Rules.{misplaced}
use Rattle.promises.specs.Declared.{target}

-- An enabled I/O APIC stands at a place.
pub record IoApicAt (es : List Entry) (place : ℕ) : Type 0 where
  pub there : place < length es
  pub on : target io_apic_type (get_or es place []) ≡ true

-- One is wrong by itself: "ID 255 .. address 0 or not a multiple of 1,024".
pub record WrongAlone (es : List Entry) : Type 0 where
  pub place : ℕ
  pub apic : IoApicAt es place
  pub wrong : (eqb everyone (id_of (get_or es place [])) || misplaced (get_or es place [])) ≡ true

-- "two enabled I/O APICs with one ID"
pub record TwoOfOneId (es : List Entry) : Type 0 where
  pub one : ℕ
  pub other : ℕ
  pub apart : one < other
  pub one_apic : IoApicAt es one
  pub other_apic : IoApicAt es other
  pub same_id : id_of (get_or es one []) ≡ id_of (get_or es other [])
