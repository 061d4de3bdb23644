-- The base entries: their walk as one of Walks.antt, one entry by itself, what the loops meet at a place, and what an
-- accepted walk tells of every entry. Assumes nothing.
use Prim.Native.Nat.{ℕ, suc, ◌+◌, ◌-◌, ◌*◌, ◌/◌, ◌≤◌, ◌<◌}
use mathlib.Core.Path.{◌≡◌, refl, ap, sym, ◌∙◌}
use mathlib.Core.Bool.{Bool, true, false, cond}
use mathlib.Core.List.{List, [], ◌∷◌}
use native.Mathlib.Omega.{arith}
use native.Mathlib.Nat.{zero-add}
use lib.ListN.{length, get_or, take, drop, length-drop, length-take}
use lib.Seq.{get_or-take, length-take-le}
use lib.Dec.{eqb, ltb, leb}
use borrow.Author.Tests.{eqb-true, eq-eqb, ne_eqb, ltb-false, lt-ltb, le-ltb, leb-true, le-leb}
use Rattle.mps.specs.Words.{first, keep, every, each}
use Rattle.mps.specs.Sums.{total}
use Rattle.mps.specs.Layout.{Entry, type, of_type, base_entry_length}
use Rattle.mps.specs.Table.{entry_fault, walk_from}
use Rattle.mps.specs.Sections.{span}
use Rattle.laws.proofs.Tests.{and_parts}
use Rattle.laws.proofs.Cut.{cut_next, cut_done}
use Rattle.std.specs.Prelude.{Ok, Err}
use Rattle.mps.specs.Reasons.{refusal_numbered}
use Rattle.mps.specs.declared.refusals.Refusal.{Refusal}
use Rattle.mps.specs.declared.refusals.Refusal.TheVariants.{EntryCut}
use Rattle.laws.proofs.Refusals.{first_some}
use Rattle.laws.proofs.Answers.{answered_err}
use Rattle.runs.specs.Runs.{size_of, bytes, Ran}
use Rattle.sections.specs.Base.{base_entries_in, base_fault, base_sections, base_own}
use Rattle.runs.proofs.Pieces.{size_some, first_there, every_cut}
use Rattle.runs.proofs.Runs.{one_is, one_not, after, Upto, upto_next, upto_stop, Behind, behind_none, behind_next}
use Rattle.runs.proofs.Walks.{fault, walk, walk_parts, walk_after, taken_span, every_walk, section_end}

-- ---- The walk of mps is one of those of Walks

fault_is : (b : ℕ) (e : Entry) → entry_fault b e ≡ fault base_own 11 b e
unfolding entry_fault fault base_own
fault_is b e = rw (le-ltb (type e) 0 (omega arith)) (cases (ltb 4 (type e)) (ltb (length e) (base_entry_length e)) (cond (ltb (type e) b) 12 0))
  where
    cases : (p q : Bool) (r : ℕ) → cond p 10 (cond q 11 r) ≡ first (cond p 10 (cond q 11 0)) r
    cases true q r = refl
    cases false true r = refl
    cases false false r = refl

pub base_walk : (b : ℕ) (es : List Entry) → walk_from b es ≡ walk base_own 11 b es
unfolding walk_from walk
base_walk b [] = refl
base_walk b (e ∷ es) = rw (fault_is b e, base_walk (type e) es)

-- ---- One entry

own_none : (e : Entry) → type e ≤ 4 → base_entry_length e ≤ length e → base_own e ≡ 0
unfolding base_own entry_fault
own_none e h l = rw (le-ltb 4 (type e) h, le-ltb (length e) (base_entry_length e) l, le-ltb (type e) 0 (omega arith))

own_parts : (e : Entry) → base_own e ≡ 0 → (type e ≤ 4) × (base_entry_length e ≤ length e)
unfolding base_own entry_fault
own_parts e o = cases (ltb 4 (type e)) (ltb (length e) (base_entry_length e)) refl refl o
  where
    cases :
        (p q : Bool) → ltb 4 (type e) ≡ p → ltb (length e) (base_entry_length e) ≡ q → ◌≡◌ {A = ℕ} (cond p 10 (cond q 11 (cond (ltb (type e) 0) 12 0))) 0
        → (type e ≤ 4) × (base_entry_length e ≤ length e)
    cases true q f g z = absurd (omega arith)
    cases false true f g z = absurd (omega arith)
    cases false false f g z = (ltb-false 4 (type e) f, ltb-false (length e) (base_entry_length e) g)

-- The bytes of an entry, by its type.
pub length_by : (e : Entry) (k : ℕ) → type e ≡ k → base_entry_length e ≡ size_of k
unfolding base_entry_length
length_by e k h = ap size_of h

length_other : (e : Entry) → eqb (type e) 0 ≡ false → base_entry_length e ≡ 8
unfolding base_entry_length
length_other e q = rw q

-- Behind the five types there is none without a fault.
pub behind_five : (es : List Entry) → walk base_own 11 5 es ≡ 0 → bytes es ≡ 0
unfolding bytes each total
behind_five [] w = refl
behind_five (e ∷ es) w =
    let p = walk_parts base_own 11 5 e es w in
    absurd (omega (arith, p.1, (own_parts e p.0).0))

-- ---- The entry at a place

module _ (s : List ℕ) (place : ℕ) where
  -- The bytes from there on, and the piece that is cut from them.
  abbrev there : List ℕ
  there = drop place s

  abbrev piece : Entry
  piece = take (base_entry_length there) there

  length_there : base_entry_length there ≡ size_of (get_or s place 0)
  length_there = length_by there (get_or s place 0) (first_there s place)

  pub type_there : (n : ℕ) → 0 < n → type (take n there) ≡ get_or s place 0
  type_there n h = get_or-take n there 0 0 h ∙ first_there s place

  type_piece : type piece ≡ get_or s place 0
  type_piece = type_there (base_entry_length there) (rw length_there (size_some (get_or s place 0)))

  length_piece : length piece ≤ length s - place
  length_piece = omega (arith, length-take (base_entry_length there) there, length-drop place s)

  -- ---- The loop of `run`

  module _ (kind size at : ℕ) (u : Upto base_own base_entry_length s kind at place) where
    pub run_next :
        kind ≤ 4 → size ≡ size_of kind → size ≤ length s - place → get_or s place 0 ≡ kind → Upto base_own base_entry_length s kind at (place + size)
    run_next k z h e =
        let p : 0 < size = omega (arith, z, size_some kind) in
        let t : type (take size there) ≡ kind = type_there size p ∙ e in
        let l : length (take size there) ≡ size = length-take-le size there (omega (arith, h, length-drop place s)) in
        let o = own_none (take size there) (omega (arith, t, k)) (omega (arith, length_by (take size there) kind t, l, z)) in
        upto_next base_own base_entry_length s kind at place size u p h (z ∙ ap size_of (sym e) ∙ sym length_there)
        (one_is base_own kind (take size there) t o)

    pub run_stop : size ≡ size_of kind → (get_or s place 0 ≡ kind → size ≤ length s - place → ⊥) → Ran base_own kind base_entry_length s at place
    run_stop z ends =
        upto_stop base_own base_entry_length s kind at place u
        (λ h. one_not base_own kind piece (λ t o. ends (sym type_piece ∙ t) (omega (arith, z, (own_parts piece o).1, length_by piece kind t, length_piece))))

  -- ---- `fault`

  -- Behind all five types every entry is faulty, and the first decides.
  module _ (h : place < length s) where
    walk_there : (n : ℕ) → entry_fault 5 piece ≡ suc n → walk_from 5 (base_entries_in there) ≡ suc n
    unfolding walk_from
    walk_there n e = rw (cut_next base_entry_length s place (base_entry_length there) h refl (rw length_there (size_some (get_or s place 0))), e)

    pub walk_some : walk_from 5 (base_entries_in there) ≡ 0 → ⊥
    walk_some w =
        let n = base_entry_length there in
        let c = cut_next base_entry_length s place n h refl (rw length_there (size_some (get_or s place 0))) in
        let v = ap (λ (es : List Entry). walk base_own 11 5 es) (sym c) ∙ sym (base_walk 5 (base_entries_in there)) ∙ w in
        let p = walk_parts base_own 11 5 piece (base_entries_in (drop (place + n) s)) v in
        omega (arith, p.1, (own_parts piece p.0).0)

    pub fault_type : 4 < get_or s place 0 → 10 ≡ walk_from 5 (base_entries_in there)
    unfolding entry_fault
    fault_type k = sym (walk_there 9 (rw (type_piece, lt-ltb 4 (get_or s place 0) k)))

    pub fault_cut : get_or s place 0 ≤ 4 → length s - place < size_of (get_or s place 0) → 11 ≡ walk_from 5 (base_entries_in there)
    unfolding entry_fault
    fault_cut k l =
        let e : base_entry_length piece ≡ size_of (get_or s place 0) = length_by piece (get_or s place 0) type_piece in
        sym (walk_there 10 (rw (e, type_piece, le-ltb 4 (get_or s place 0) k, lt-ltb (length piece) (size_of (get_or s place 0)) (omega (arith, l, length_piece)))))

    pub fault_order : get_or s place 0 ≤ 4 → size_of (get_or s place 0) ≤ length s - place → 12 ≡ walk_from 5 (base_entries_in there)
    unfolding entry_fault
    fault_order k l =
        let e : base_entry_length piece ≡ size_of (get_or s place 0) = length_by piece (get_or s place 0) type_piece in
        let w : length piece ≡ base_entry_length there = length-take-le (base_entry_length there) there (omega (arith, length_there, l, length-drop place s)) in
        sym
        (walk_there 11
        (rw (
          e,
          type_piece,
          le-ltb 4 (get_or s place 0) k,
          le-ltb (length piece) (size_of (get_or s place 0)) (omega (arith, w, length_there)),
          lt-ltb (get_or s place 0) 5 (omega (arith, k)),
        )))

-- ---- What an accepted walk tells

-- Whether an entry has the bytes of its type.
unfoldable pub exact : Entry → Bool
exact e = eqb (length e) (base_entry_length e)

length_some : (e : Entry) → 0 < base_entry_length e
unfolding base_entry_length
length_some e = size_some (type e)

pub exact_length : (e : Entry) → exact e ≡ true → length e ≡ base_entry_length e
unfolding exact
exact_length e x = eqb-true (length e) (base_entry_length e) x

pub exact_some : (e : Entry) → exact e ≡ true → 0 < length e
exact_some e x = omega (arith, exact_length e x, length_some e)

-- No piece is longer.
pieces_fit : (s : List ℕ) → every (λ e. leb (length e) (base_entry_length e)) (base_entries_in s) ≡ true
pieces_fit s = every_cut base_entry_length (λ e. leb (length e) (base_entry_length e)) fits 0 s
  where
    fits :
        (x : ℕ) (xs : List ℕ)
        → leb (length (take (base_entry_length (x ∷ xs)) (x ∷ xs))) (base_entry_length (take (base_entry_length (x ∷ xs)) (x ∷ xs))) ≡ true
    fits x xs =
        let t = x ∷ xs in
        let n = base_entry_length t in
        let e : base_entry_length (take n t) ≡ n = length_by (take n t) x (get_or-take n t 0 0 (length_some t)) ∙ sym (length_by t x refl) in
        le-leb (length (take n t)) (base_entry_length (take n t)) (omega (arith, e, length-take n t))

module _ (s : List ℕ) (w : walk_from 0 (base_entries_in s) ≡ 0) where
  pub base_accepted : walk base_own 11 0 (base_entries_in s) ≡ 0
  base_accepted = sym (base_walk 0 (base_entries_in s)) ∙ w

  pub every_exact : every exact (base_entries_in s) ≡ true
  unfolding exact
  every_exact =
      every_walk base_own 11 (λ e. leb (length e) (base_entry_length e)) exact
      (λ e o q. eq-eqb (length e) (base_entry_length e) (omega (arith, (own_parts e o).1, leb-true (length e) (base_entry_length e) q)))
      0 (base_entries_in s) base_accepted (pieces_fit s)

  pub whole_end : (k : ℕ) → length s ≡ span 0 k (base_entries_in s) + bytes (after base_own 0 k (base_entries_in s))
  whole_end = section_end base_own 11 base_entry_length s 0 base_accepted exact exact_some every_exact

-- ---- The number of entries

-- So many entries of 20 bytes, and so many of 8.
record Counted (es : List Entry) : Type 0 where
  large : ℕ
  small : ℕ
  number : length es ≡ large + small
  first_bytes : bytes (keep (of_type 0) es) ≡ 20 * large
  all_bytes : bytes es ≡ 20 * large + 8 * small

counted : (es : List Entry) → every exact es ≡ true → Counted es
unfolding every keep bytes each total
counted [] h = record { large = 0; small = 0; number = refl; first_bytes = refl; all_bytes = refl }
counted (e ∷ es) h =
    let p = and_parts (exact e) (every exact es) h in
    cases (eqb (type e) 0) refl (exact_length e p.0) (counted es p.1)
  where
    cases : (t : Bool) → eqb (type e) 0 ≡ t → length e ≡ base_entry_length e → Counted es → Counted (e ∷ es)
    cases true q l r =
        let k : bytes (keep (of_type 0) (e ∷ es)) ≡ length e + bytes (keep (of_type 0) es) = rw (keep, q) in
        let z : length e ≡ 20 = l ∙ length_by e 0 (eqb-true (type e) 0 q) in
        record {
          large = suc r.large;
          small = r.small;
          number = omega (arith, r.number);
          first_bytes = omega (arith, k, z, r.first_bytes);
          all_bytes = omega (arith, z, r.all_bytes);
        }
    cases false q l r =
        let k : bytes (keep (of_type 0) (e ∷ es)) ≡ bytes (keep (of_type 0) es) = rw (keep, q) in
        let z : length e ≡ 8 = l ∙ length_other e q in
        record {
          large = r.large;
          small = suc r.small;
          number = omega (arith, r.number);
          first_bytes = omega (arith, k, r.first_bytes);
          all_bytes = omega (arith, z, r.all_bytes);
        }

-- ---- `base`, from the places that its runs ended at

pub record RunEnds (s : List ℕ) (buses apics interrupts locals end : ℕ) : Type 0 where
  pub one : Behind base_own base_entry_length s 0 1 buses
  pub two : Behind base_own base_entry_length s 0 2 apics
  pub three : Behind base_own base_entry_length s 0 3 interrupts
  pub four : Behind base_own base_entry_length s 0 4 locals
  pub five : Behind base_own base_entry_length s 0 5 end

module _ (s : List ℕ) (buses apics interrupts locals end : ℕ) where
  pub run_ends :
      Ran base_own 0 base_entry_length s 0 buses → Ran base_own 1 base_entry_length s buses apics
      → Ran base_own 2 base_entry_length s apics interrupts → Ran base_own 3 base_entry_length s interrupts locals
      → Ran base_own 4 base_entry_length s locals end → RunEnds s buses apics interrupts locals end
  run_ends r1 r2 r3 r4 r5 =
      let next = behind_next base_own base_entry_length s 0 in
      let a = next 0 0 buses (behind_none base_own base_entry_length s 0) r1 in
      let b = next 1 buses apics a r2 in
      let c = next 2 apics interrupts b r3 in
      let d = next 3 interrupts locals c r4 in
      record { one = a; two = b; three = c; four = d; five = next 4 locals end d r5 }

module _ (s : List ℕ) (count buses apics interrupts locals end : ℕ) (at : RunEnds s buses apics interrupts locals end) where
  walk_end : walk_from 0 (base_entries_in s) ≡ walk_from 5 (base_entries_in (drop end s))
  walk_end =
      base_walk 0 (base_entries_in s)
      ∙ walk_after base_own 11 0 5 (base_entries_in s)
      ∙ ap (λ (es : List Entry). walk base_own 11 5 es) (sym at.five.entries)
      ∙ sym (base_walk 5 (base_entries_in (drop end s)))

  pub base_faulty : (r : Refusal) → end < length s → r ≡ refusal_numbered (walk_from 5 (base_entries_in (drop end s))) → Err r ≡ base_sections s count
  unfolding base_sections base_fault
  base_faulty r h e =
      let n = walk_from 5 (base_entries_in (drop end s)) in
      let some : n ≡ 0 → ⊥ = walk_some s end h in
      let here : base_fault s count ≡ n = rw walk_end (first_some n _ some) in
      answered_err (base_fault s count) _ (λ z. some (sym here ∙ z)) (e ∙ ap refusal_numbered (sym here))

  module _ (h : length s ≤ end) where
    walk_whole : walk_from 0 (base_entries_in s) ≡ 0
    unfolding walk_from
    walk_whole = walk_end ∙ rw (cut_done base_entry_length s end h)

    place_span : (k place : ℕ) → Behind base_own base_entry_length s 0 k place → place ≡ span 0 k (base_entries_in s)
    place_span k place b = b.place_is ∙ taken_span base_own 11 0 k (base_entries_in s) (base_accepted s walk_whole)

    count_is : length (base_entries_in s) ≡ buses / 20 + (length s - buses) / 8
    unfolding span bytes after
    count_is =
        let n = counted (base_entries_in s) (every_exact s walk_whole) in
        let b : buses ≡ bytes (keep (of_type 0) (base_entries_in s)) = place_span 1 buses at.one ∙ zero-add (bytes (keep (of_type 0) (base_entries_in s))) in
        let l : length s ≡ bytes (base_entries_in s) =
        whole_end s walk_whole 0 ∙ zero-add (bytes (base_entries_in s))
        in
        omega (arith, b, l, n.number, n.first_bytes, n.all_bytes)

    pub base_miscounted : (buses / 20 + (length s - buses) / 8 ≡ count → ⊥) → Err EntryCut ≡ base_sections s count
    unfolding base_sections base_fault refusal_numbered
    base_miscounted d = rw (walk_whole, count_is, ne_eqb (buses / 20 + (length s - buses) / 8) count d)

    pub base_sound : buses / 20 + (length s - buses) / 8 ≡ count
        → Ok (record { buses = buses; ioapics = apics; interrupts = interrupts; locals = locals }) ≡ base_sections s count
    unfolding base_sections base_fault
    base_sound c =
        rw (
          walk_whole,
          count_is,
          eq-eqb (buses / 20 + (length s - buses) / 8) count c,
          place_span 1 buses at.one,
          place_span 2 apics at.two,
          place_span 3 interrupts at.three,
          place_span 4 locals at.four,
        )
