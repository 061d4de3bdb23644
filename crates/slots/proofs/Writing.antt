-- Laws of what is written in the room: a slot, those of a word, and those of a set. Assumes nothing.
use Prim.Native.Nat.{ℕ, suc, ◌+◌, ◌-◌, ◌*◌, ◌/◌, ◌%◌, ◌^◌, ◌≤◌, ◌<◌}
use mathlib.Core.Path.{◌≡◌, refl, ap}
use mathlib.Core.List.{List, ◌++◌}
use native.Mathlib.Omega.{arith}
use native.Mathlib.Numerals.{add-one}
use lib.Bits.{bit_and, and_le_r}
use lib.Count.{count_trailing_zeros}
use lib.ListN.{length, get_or, set, length-append}
use lib.Seq.{sets}
use Rattle.mps.specs.Words.{joined}
use Rattle.mps.specs.Slots.{slot_size}
use Rattle.laws.proofs.Joined.{joined_append, joined_length}
use Rattle.laws.proofs.Writes.{Writes, writes_first, writes_done, writes_next}
use Rattle.sets.specs.Sets.{members, set_bits}
use Rattle.sets.proofs.Bits.{bits_none, bits_lowest}
use Rattle.sets.proofs.Words.{members_from, members_first, members_next, members_done}
use Rattle.slots.specs.Sets.{slot_bytes}

-- ---- One slot

pub slot_put :
    (t : List ℕ) (at n : ℕ) → set (set (set t at (n / 128)) (at + 1) (n % 128 / 4)) (at + 2) (n % 128 % 4) ≡ sets t at (slot_bytes n)
unfolding slot_bytes
slot_put t at n =
    let device : n % 128 / 4 ≡ n / 4 % 32 = omega arith in
    let pin : n % 128 % 4 ≡ n % 4 = omega arith in
    let two : at + 2 ≡ suc (suc at) = omega arith in
    rw (device, pin, add-one at, two)

pub length_slots : (ns : List ℕ) → length (joined slot_bytes ns) ≡ length ns * slot_size
unfolding slot_bytes
length_slots = joined_length slot_bytes slot_size (λ n. refl)

-- ---- The slots of a word

-- What the loop keeps: with the bits left it comes to the whole.
abbrev pub Spells : List ℕ → ℕ → List ℕ → ℕ → List ℕ → ℕ → ℕ → Type 0
Spells t at w first out place rest = Writes t at w out place (joined slot_bytes (set_bits 64 first rest)) × (rest < 2 ^ 64)

module _ (t : List ℕ) (at : ℕ) (w : List ℕ) (first : ℕ) (out : List ℕ) (place rest : ℕ) (inv : Spells t at w first out place rest) where
  pub spells_done : rest ≡ 0 → (place ≡ at + length w) × (out ≡ sets t at w)
  unfolding joined
  spells_done e = writes_done inv.0 (ap (joined slot_bytes) (bits_none 64 first rest e))

  module _ (some : rest ≡ 0 → ⊥) where
    abbrev z : ℕ
    z = count_trailing_zeros 64 rest

    abbrev left : ℕ
    left = bit_and rest (rest - 1)

    next : joined slot_bytes (set_bits 64 first rest) ≡ slot_bytes (first + z) ++ joined slot_bytes (set_bits 64 first left)
    unfolding joined
    next = ap (joined slot_bytes) (bits_lowest 64 first rest some inv.1).1

    -- The next slot is one of the word's, there is room for it, and less is left behind it.
    pub spells_inside : z < 64
    spells_inside = (bits_lowest 64 first rest some inv.1).0

    pub spells_room : place + 3 ≤ at + length w
    unfolding slot_bytes
    spells_room = omega (arith, ap length next, inv.0.end)

    pub spells_less : left < rest
    spells_less = omega (arith, and_le_r rest (rest - 1), some)

    pub spells_next : {u : List ℕ} → u ≡ sets out place (slot_bytes (first + z)) → Spells t at w first u (place + 3) left
    unfolding slot_bytes
    spells_next g = (writes_next inv.0 (slot_bytes (first + z)) _ next refl g, omega (arith, spells_less, inv.1))

-- ---- The slots of a set

-- What the loop keeps.
abbrev pub Fills : List ℕ → List ℕ → List ℕ → ℕ → ℕ → Type 0
Fills t words out place k = Writes t 0 (joined slot_bytes (members words)) out place (joined slot_bytes (members_from words k))

pub fills_first : (t words : List ℕ) → Fills t words t 0 0
fills_first t words = rw (members_first words) (writes_first t 0 _)

module _ (t words out : List ℕ) (place k : ℕ) (inv : Fills t words out place k) where
  pub fills_done : length words ≤ k → (place ≡ length (joined slot_bytes (members words))) × (out ≡ sets t 0 (joined slot_bytes (members words)))
  unfolding joined
  fills_done h = let e = writes_done inv (ap (joined slot_bytes) (members_done words k h)) in (omega (arith, e.0), e.1)

  module _ (h : k < length words) where
    abbrev here : List ℕ
    here = joined slot_bytes (set_bits 64 (k * 64) (get_or words k 0))

    next_word : joined slot_bytes (members_from words k) ≡ here ++ joined slot_bytes (members_from words (k + 1))
    next_word = rw (members_next words k h) (joined_append slot_bytes (set_bits 64 (k * 64) (get_or words k 0)) (members_from words (k + 1)))

    pub fills_room : place + length here ≤ length (members words) * 3
    fills_room =
        omega (arith, inv.end, length_slots (members words), ap length next_word, length-append here (joined slot_bytes (members_from words (k + 1))))

    pub fills_next : {u : List ℕ} {q : ℕ} → q ≡ place + length here → u ≡ sets out place here → Fills t words u q (k + 1)
    fills_next e g = writes_next inv here _ next_word e g
