-- What a side answers: from the IDs gathered to the pairs told and written, and of which parts of the table. Assumes nothing.
use Prim.Native.Nat.{ℕ, ◌-◌, ◌*◌, ◌/◌, ◌≤◌, ◌<◌}
use mathlib.Core.Path.{◌≡◌, refl, sym, ap, ◌∙◌}
use mathlib.Core.Bool.{Bool, true, false}
use mathlib.Core.List.{List}
use native.Mathlib.Nat.{mul_assoc}
use native.Mathlib.Omega.{arith}
use lib.ListN.{length, take, drop, replicate}
use lib.Seq.{sets, length-sets, take_at}
use lib.Dec.{leb}
use Rattle.std.specs.Prelude.{Result, Ok, Err}
use borrow.Author.Tests.{le-leb, leb-true, leb-false}
use Rattle.mps.specs.Words.{keep, twice, part}
use Rattle.mps.specs.Layout.{Entry, of_type, io_interrupt_type, local_interrupt_type, header_size, processor_size, entry_size, enabled, destination, base_entries}
use Rattle.mps.specs.Sections.{rows}
use Rattle.mps.specs.Judge.{table_refusal}
use Rattle.mps.specs.Rooms.{fit_left}
use Rattle.mps.specs.Routes.{pair_size}
use Rattle.mps.specs.declared.Sections.{Sections}
use Rattle.mps.specs.declared.refusals.Refusal.{Refusal}
use Rattle.mps.specs.declared.refusals.Refusal.TheVariants.{RoomTooSmall}
use Rattle.laws.proofs.Small.{Bytes, small_keep, small_rows, below_each}
use Rattle.laws.proofs.Pigeons.{bytes_most}
use Rattle.laws.proofs.Stores.{sets_at_start}
use Rattle.laws.proofs.Lent.{fit_put, fit_short}
use Rattle.laws.proofs.Rows.{rows_count}
use Rattle.laws.proofs.Lists.{keep_most}
use Rattle.judge.specs.Placed.{Placed}
use Rattle.accepted.proofs.Sound.{sound, entries_least}
use Rattle.apics.specs.Enabled.{enabled_in}
use Rattle.routes.specs.declared.Side.{Side as Asked}
use Rattle.routes.specs.declared.Side.TheVariants.{Io, Local}
use Rattle.routes.specs.Pairs.{side_of, pairs_of, named, pairs_for, pairs_in, count_in, paired}
use Rattle.roll.specs.Roll.{taken_bit, enrolled, OnRoll}
use Rattle.roll.proofs.Laws.{enrolled_on}
use Rattle.routes.proofs.Laws.{length_pairs, pairs_count, kept_most, io_apart, local_apart, io_pairs, local_pairs}
use Rattle.routes.proofs.Counting.{named_most}

-- ---- One side

-- 256 places hold the IDs.
pub ids_most : (n : ℕ) (s : List ℕ) → Bytes s → twice (enabled_in n s) ≡ false → length (enabled_in n s) ≤ 256
unfolding enabled_in
ids_most n s b d = bytes_most _ (below_each 1 (small_keep enabled (small_rows n s b))) d

-- What was gathered in places is read there: the IDs, as many as there are.
module _ (places ids : List ℕ) (h : length ids ≤ length places) {n : ℕ} {list : List ℕ} (e : n ≡ length ids) (f : list ≡ sets places 0 ids) where
  pub ids_inside : n ≤ length list
  ids_inside = omega (arith, e, h, ap length f, length-sets places 0 ids)

  pub ids_read : take (n - 0) list ≡ ids
  ids_read =
      let m : n - 0 ≡ length ids = omega (arith, e) in
      rw (m, f, sets_at_start places ids h) (take_at ids (drop (length ids) places) (length ids) refl)

  -- They are on the roll.
  pub ids_known :
      {roll : List ℕ} → roll ≡ enrolled taken_bit (replicate 256 0) ids
      → OnRoll taken_bit roll (take (n - 0) list) × (length (take (n - 0) list) ≤ length places)
  ids_known g = rw (ids_read, g) (enrolled_on taken_bit 256 ids refl, h)

-- What is answered of pairs, and what is left in the room.
abbrev pub Gives : List ℕ → List ℕ → Result ℕ Refusal → List ℕ → Type 0
Gives pairs room r u = (r ≡ paired pairs room) × (u ≡ fit_left pairs room)

module _ (pairs room : List ℕ) where
  gives_short : length room < length pairs → Gives pairs room (Err RoomTooSmall) room
  gives_short h = fit_short pairs (length pairs / pair_size) room h

  gives_put : {n : ℕ} {u : List ℕ} → n ≡ length pairs → length pairs ≤ length room → u ≡ sets room 0 pairs → Gives pairs room (Ok (n / pair_size)) u
  gives_put e h q = fit_put pairs (length pairs / pair_size) room (ap (λ k. k / pair_size) e) h q

-- Whether they fit: there is room for a pair for each ID in each entry, or for as many as were counted.
module _ (ids : List ℕ) (p : Entry → Bool) (s : List ℕ) (room : ℕ) where
  abbrev all : List ℕ
  all = pairs_in ids p (rows entry_size s)

  most_pairs : length all ≤ length s / 8 * (length ids * pair_size)
  unfolding pairs_in pairs_for
  most_pairs =
      rw (← rows_count s)
      (kept_most (pairs_for ids) (length ids * pair_size)
      (λ e. rw (length_pairs e (named ids (destination e))) (omega (arith, named_most ids (destination e)))) p (rows entry_size s))

  pub room_most : length s / 8 * length ids * pair_size ≤ room → true ≡ leb (length all) room
  room_most h = sym (le-leb (length all) room (omega (arith, h, most_pairs, mul_assoc (length s / 8) (length ids) pair_size)))

  pub room_counted : {n : ℕ} → n ≡ count_in ids p (rows entry_size s) → leb (n * pair_size) room ≡ leb (length all) room
  room_counted e = rw (pairs_count ids p (rows entry_size s), e)

-- The IDs as they were read, and whether the pairs fit.
module _ (ids : List ℕ) (p : Entry → Bool) (es : List Entry) (room : List ℕ) {read : List ℕ} (same : read ≡ ids)
    {fit : Bool} (e : fit ≡ leb (length (pairs_in read p es)) (length room)) where
  pub answer_short : fit ≡ false → Gives (pairs_in ids p es) room (Err RoomTooSmall) room
  answer_short h =
      gives_short (pairs_in ids p es) room (leb-false (length (pairs_in ids p es)) (length room) (sym (rw same at e) ∙ h))

  module _ (h : fit ≡ true) where
    pub answer_room : length (pairs_in read p es) ≤ length room
    answer_room = leb-true (length (pairs_in read p es)) (length room) (sym e ∙ h)

    pub answer_put : {n : ℕ} {u : List ℕ} → n ≡ length (pairs_in read p es) → u ≡ sets room 0 (pairs_in read p es)
        → Gives (pairs_in ids p es) room (Ok (n / pair_size)) u
    answer_put k q = gives_put (pairs_in ids p es) room (rw same at k) (rw same at answer_room) (rw same at q)

-- ---- The sides of a table

-- An entry has eight bytes at least, and the base part has its limit.
entries_few : (t : List ℕ) → table_refusal t ≡ 0 → (n : ℕ) (s : List ℕ) → keep (of_type n) (base_entries t) ≡ rows entry_size s → length s ≤ 65535
entries_few t a n s e =
    omega (arith, rows_count s, ap length e, keep_most (of_type n) (base_entries t), entries_least t a, (sound t a).most)

module _ (t : List ℕ) (p : Sections) (a : table_refusal t ≡ 0) (placed : Placed t p) where
  pub io_ready :
      (4 ≤ entry_size) × (twice (enabled_in entry_size (part p.ioapics p.interrupts t)) ≡ false)
      × (length (part p.interrupts p.locals t) ≤ 65535)
  io_ready = (omega arith, io_apart t p placed a, entries_few t a io_interrupt_type _ placed.interrupts)

  pub local_ready :
      (4 ≤ processor_size) × (twice (enabled_in processor_size (part header_size p.buses t)) ≡ false)
      × (length (part p.locals p.mappings t) ≤ 65535)
  local_ready = (omega arith, local_apart t p placed a, entries_few t a local_interrupt_type _ placed.locals)

  -- The answer of a side.
  module _ (side : Asked) (test : Entry → Bool) (room : List ℕ) {r : Result ℕ Refusal} {u : List ℕ} where
    pub io_gives : side ≡ Io
        → Gives (pairs_in (enabled_in entry_size (part p.ioapics p.interrupts t)) test (rows entry_size (part p.interrupts p.locals t))) room r u
        → Gives (pairs_of (side_of side) test t) room r u
    io_gives l g = rw (l, io_pairs t p placed a test) g

    pub local_gives : side ≡ Local
        → Gives (pairs_in (enabled_in processor_size (part header_size p.buses t)) test (rows entry_size (part p.locals p.mappings t))) room r u
        → Gives (pairs_of (side_of side) test t) room r u
    local_gives l g = rw (l, local_pairs t p placed a test) g
