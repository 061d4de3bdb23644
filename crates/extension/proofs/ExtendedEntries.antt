-- The extended entries: their walk as one of Walks.antt, one entry by itself, what the loops meet at a place, and what an
-- accepted walk tells of every entry. Assumes nothing.
use Prim.Native.Nat.{ℕ, zero, suc, ◌+◌, ◌-◌, ◌*◌, ◌≤◌, ◌<◌}
use mathlib.Core.Path.{◌≡◌, refl, ap, sym, ◌∙◌}
use mathlib.Core.Bool.{Bool, true, false, cond, not, ◌||◌, ◌&&◌, or-true}
use mathlib.Core.List.{List, [], ◌∷◌}
use native.Mathlib.Omega.{arith}
use lib.ListN.{length, get_or, take, drop, length-drop, length-take, get_or-eq_default}
use lib.Seq.{get_or-take, get_or-drop, length-take-le, take_all}
use lib.Dec.{eqb, ltb, leb}
use borrow.Author.Tests.{eqb-true, eq-eqb, ne_eqb, ltb-true, ltb-false, lt-ltb, le-ltb, leb-true, le-leb, not-false}
use Rattle.mps.specs.Words.{first, flag, every}
use Rattle.mps.specs.Numbers.{le}
use Rattle.mps.specs.Layout.{Entry, type, extended_entry_length, own_length}
use Rattle.mps.specs.Table.{extended_fault, extended_from}
use Rattle.laws.proofs.Tests.{and_parts, or_parts, either, whether}
use Rattle.laws.proofs.Cut.{cut_next, cut_done}
use Rattle.std.specs.Prelude.{Some, None}
use Rattle.runs.specs.Runs.{size_of, Ran}
use Rattle.extension.specs.Extended.{extended_entries_in, extended_sections, extended_own}
use Rattle.runs.proofs.Pieces.{size_two, first_there, every_cut, cut_head}
use Rattle.runs.proofs.Runs.{one_is, one_not, Upto, upto_next, upto_stop, Behind, behind_none, behind_next}
use Rattle.runs.proofs.Walks.{fault, walk, walk_start, walk_after, taken_span, every_walk}

-- ---- The walk of mps is one of those of Walks

fault_is : (b : ℕ) (e : Entry) → flag (extended_fault b e) ≡ fault extended_own 0 b e
unfolding extended_fault fault extended_own
fault_is b e =
    rw (le-ltb (type e) 0 (omega arith))
    (cases (ltb (extended_entry_length e) 2) (ltb (length e) (extended_entry_length e)) (ltb (type e) 128) (ltb (type e) b)
    (not (eqb (extended_entry_length e) (own_length e))))
  where
    cases : (p q r x y : Bool) → flag (p || q || r || x || y) ≡ first (flag (p || q || r || false || y)) (cond x 1 0)
    cases true q r x y = refl
    cases false true r x y = refl
    cases false false true x y = refl
    cases false false false true true = refl
    cases false false false true false = refl
    cases false false false false true = refl
    cases false false false false false = refl

pub extended_walk : (b : ℕ) (es : List Entry) → flag (extended_from b es) ≡ walk extended_own 0 b es
unfolding extended_from walk
extended_walk b [] = refl
extended_walk b (e ∷ es) = flag-or (extended_fault b e) (extended_from (type e) es) ∙ rw (fault_is b e, extended_walk (type e) es)
  where
    flag-or : (p q : Bool) → flag (p || q) ≡ first (flag p) (flag q)
    flag-or true q = refl
    flag-or false q = refl

flag_false : (b : Bool) → flag b ≡ 0 → b ≡ false
flag_false true e = absurd (omega arith)
flag_false false e = refl

flag_same : (a b : Bool) → flag a ≡ flag b → a ≡ b
flag_same true true e = refl
flag_same true false e = absurd (omega arith)
flag_same false true e = absurd (omega arith)
flag_same false false e = refl

-- ---- One entry

record Faultless (before : ℕ) (e : Entry) : Type 0 where
  long : 2 ≤ extended_entry_length e
  whole : extended_entry_length e ≤ length e
  high : 128 ≤ type e
  ascending : before ≤ type e
  known : extended_entry_length e ≡ own_length e

fault_none : (b : ℕ) (e : Entry) → Faultless b e → extended_fault b e ≡ false
unfolding extended_fault
fault_none b e f =
    rw (
      le-ltb (extended_entry_length e) 2 f.long,
      le-ltb (length e) (extended_entry_length e) f.whole,
      le-ltb (type e) 128 f.high,
      le-ltb (type e) b f.ascending,
      eq-eqb (extended_entry_length e) (own_length e) f.known,
    )

fault_parts : (b : ℕ) (e : Entry) → extended_fault b e ≡ false → Faultless b e
unfolding extended_fault
fault_parts b e h =
    let p = ltb (extended_entry_length e) 2 in
    let q = ltb (length e) (extended_entry_length e) in
    let r = ltb (type e) 128 in
    let x = ltb (type e) b in
    let y = eqb (extended_entry_length e) (own_length e) in
    let a = or_parts (p || q || r || x) (not y) h in
    let b4 = or_parts (p || q || r) x a.0 in
    let c = or_parts (p || q) r b4.0 in
    let d = or_parts p q c.0 in
    record {
      long = ltb-false (extended_entry_length e) 2 d.0;
      whole = ltb-false (length e) (extended_entry_length e) d.1;
      high = ltb-false (type e) 128 c.1;
      ascending = ltb-false (type e) b b4.1;
      known = eqb-true (extended_entry_length e) (own_length e) (not-false y a.1);
    }

own_none : (e : Entry) → Faultless 0 e → extended_own e ≡ 0
unfolding extended_own
own_none e f = rw (fault_none 0 e f)

own_parts : (e : Entry) → extended_own e ≡ 0 → Faultless 0 e
unfolding extended_own
own_parts e o = fault_parts 0 e (flag_false (extended_fault 0 e) o)

walk_high : (es : List Entry) → walk extended_own 0 0 es ≡ walk extended_own 0 128 es
walk_high es = walk_start extended_own 0 128 (λ e o. (own_parts e o).high) es

-- The length of an entry of a known type, and of one behind them.
pub own_known : (e : Entry) (k : ℕ) → k < 3 → type e ≡ 128 + k → own_length e ≡ size_of k
unfolding own_length
own_known e zero h t = rw (eq-eqb (type e) 128 t)
own_known e (suc zero) h t = rw (ne_eqb (type e) 128 (λ q. omega (arith, q, t)), eq-eqb (type e) 129 t)
own_known e (suc (suc zero)) h t =
    rw (ne_eqb (type e) 128 (λ q. omega (arith, q, t)), ne_eqb (type e) 129 (λ q. omega (arith, q, t)), eq-eqb (type e) 130 t)
own_known e (suc (suc (suc k))) h t = absurd (omega arith)

own_other : (e : Entry) → 131 ≤ type e → own_length e ≡ extended_entry_length e
unfolding own_length
own_other e h =
    rw (
      ne_eqb (type e) 128 (λ q. omega (arith, q, h)),
      ne_eqb (type e) 129 (λ q. omega (arith, q, h)),
      ne_eqb (type e) 130 (λ q. omega (arith, q, h)),
    )

-- ---- A piece, and the bytes that it is cut from

abbrev piece : List ℕ → Entry
piece t = take (extended_entry_length t) t

-- A piece of 2 bytes or more has its length from there; one of less says 0.
piece_length : (t : List ℕ) → 2 ≤ extended_entry_length t → extended_entry_length (piece t) ≡ extended_entry_length t
piece_length t h = get_or-take (extended_entry_length t) t 1 0 h

piece_short : (t : List ℕ) → extended_entry_length t < 2 → extended_entry_length (piece t) ≡ 0
piece_short t h = get_or-eq_default (piece t) 0 {n = 1} (omega (arith, h, length-take (extended_entry_length t) t))

-- No piece that says 2 bytes or more is longer than it says.
fits : Entry → Bool
fits e = ltb (extended_entry_length e) 2 || leb (length e) (extended_entry_length e)

pieces_fit : (s : List ℕ) → every fits (extended_entries_in s) ≡ true
unfolding fits
pieces_fit s = every_cut extended_entry_length fits (λ x xs. fit (x ∷ xs)) 0 s
  where
    fit : (t : List ℕ) → (ltb (extended_entry_length (piece t)) 2 || leb (length (piece t)) (extended_entry_length (piece t))) ≡ true
    fit t =
        whether (ltb (extended_entry_length t) 2)
        (λ h. rw (piece_short t (ltb-true (extended_entry_length t) 2 h)))
        (λ h.
        let l = piece_length t (ltb-false (extended_entry_length t) 2 h) in
        rw (le-leb (length (piece t)) (extended_entry_length (piece t)) (omega (arith, l, length-take (extended_entry_length t) t)))
        (or-true (ltb (extended_entry_length (piece t)) 2)))

-- ---- The entry at a place

module _ (s : List ℕ) (place : ℕ) where
  -- The bytes from there on.
  abbrev there : List ℕ
  there = drop place s

  length_there : extended_entry_length there ≡ get_or s (place + 1) 0
  length_there = get_or-drop place s 1 0

  type_there : (n : ℕ) → 0 < n → type (take n there) ≡ get_or s place 0
  type_there n h = get_or-take n there 0 0 h ∙ first_there s place

  -- What a piece without a fault tells of the bytes there.
  record Tells (before : ℕ) : Type 0 where
    type_is : type (piece there) ≡ get_or s place 0
    length_is : extended_entry_length (piece there) ≡ get_or s (place + 1) 0
    inside : get_or s (place + 1) 0 ≤ length s - place

  tells : (b : ℕ) → Faultless b (piece there) → Tells b
  tells b f =
      let n = extended_entry_length there in
      let h : 2 ≤ n =
      whether (ltb n 2) (λ l. absurd (omega (arith, f.long, piece_short there (ltb-true n 2 l)))) (λ l. ltb-false n 2 l)
      in
      let l = piece_length there h in
      record {
        type_is = type_there n (omega (arith, h));
        length_is = l ∙ length_there;
        inside = omega (arith, f.whole, l, length_there, length-take n there, length-drop place s);
      }

  -- An entry whose bytes are there, whole.
  faultless :
      (b n : ℕ) → 2 ≤ n → n ≤ length s - place → get_or s (place + 1) 0 ≡ n → 128 ≤ get_or s place 0 → b ≤ get_or s place 0
      → n ≡ own_length (take n there) → Faultless b (take n there)
  faultless b n h l e t a o =
      let y = type_there n (omega (arith, h)) in
      let x : extended_entry_length (take n there) ≡ n = get_or-take n there 1 0 h ∙ length_there ∙ e in
      record {
        long = omega (arith, x, h);
        whole = omega (arith, x, length-take-le n there (omega (arith, l, length-drop place s)));
        high = omega (arith, y, t);
        ascending = omega (arith, y, a);
        known = x ∙ o;
      }

  -- ---- The loop of `run_of`

  module _ (kind size at : ℕ) (u : Upto extended_own extended_entry_length s kind at place) (lo : 128 ≤ kind) (hi : kind ≤ 130) (z : size ≡ size_of (kind - 128)) where
    own_size : (e : Entry) → type e ≡ kind → own_length e ≡ size
    own_size e t = own_known e (kind - 128) (omega (arith, hi)) (omega (arith, lo, t)) ∙ sym z

    pub run_next :
        size ≤ length s - place → get_or s place 0 ≡ kind → get_or s (place + 1) 0 ≡ size → Upto extended_own extended_entry_length s kind at (place + size)
    run_next h e l =
        let two : 2 ≤ size = omega (arith, z, size_two (kind - 128)) in
        let t : type (take size there) ≡ kind = type_there size (omega (arith, two)) ∙ e in
        let f = faultless 0 size two h l (omega (arith, e, lo)) (omega arith) (sym (own_size (take size there) t)) in
        upto_next extended_own extended_entry_length s kind at place size u (omega (arith, two)) h (sym l ∙ sym length_there)
        (one_is extended_own kind (take size there) t (own_none (take size there) f))

    pub run_stop :
        (get_or s place 0 ≡ kind → get_or s (place + 1) 0 ≡ size → size ≤ length s - place → ⊥) → Ran extended_own kind extended_entry_length s at place
    run_stop ends =
        upto_stop extended_own extended_entry_length s kind at place u
        (λ h. one_not extended_own kind (piece there) (λ t o.
        let f = own_parts (piece there) o in
        let y = tells 0 f in
        let l : get_or s (place + 1) 0 ≡ size = sym y.length_is ∙ f.known ∙ own_size (piece there) t in
        ends (sym y.type_is ∙ t) l (omega (arith, y.inside, l))))

  -- ---- The loop of `others`

  module _ (before : ℕ) where
    pub others_next :
        (size : ℕ) → 131 ≤ before → size ≡ get_or s (place + 1) 0 → 2 ≤ size → size ≤ length s - place → before ≤ get_or s place 0
        → extended_from before (extended_entries_in there) ≡ extended_from (get_or s place 0) (extended_entries_in (drop (place + size) s))
    unfolding extended_from
    others_next size b e two h a =
        let t = type_there size (omega (arith, two)) in
        let x : extended_entry_length (take size there) ≡ size = get_or-take size there 1 0 two ∙ length_there ∙ sym e in
        let o = sym (own_other (take size there) (omega (arith, t, b, a)) ∙ x) in
        let f = faultless before size two h (sym e) (omega (arith, b, a)) a o in
        rw (cut_next extended_entry_length s place size (omega (arith, two, h)) (e ∙ sym length_there) (omega (arith, two)), fault_none before (take size there) f, t)

    pub others_stop :
        place < length s → (2 ≤ get_or s (place + 1) 0 → get_or s (place + 1) 0 ≤ length s - place → before ≤ get_or s place 0 → ⊥)
        → extended_from before (extended_entries_in there) ≡ true
    unfolding extended_from
    others_stop h ends =
        rw (cut_head extended_entry_length there (omega (arith, h, length-drop place s)))
        (whether (extended_fault before (piece there)) (λ f. rw f) (λ f.
        let p = fault_parts before (piece there) f in
        let y = tells before p in
        absurd (ends (omega (arith, p.long, y.length_is)) y.inside (omega (arith, p.ascending, y.type_is)))))

    pub others_end : place ≤ length s → length s - place < 2 → ltb place (length s) ≡ extended_from before (extended_entries_in there)
    unfolding extended_from
    others_end h l =
        whether (ltb place (length s))
        (λ t. t ∙ sym (others_stop (ltb-true place (length s) t) (λ a b c. omega (arith, a, b, l))))
        (λ t. t ∙ sym (rw (cut_done extended_entry_length s place (ltb-false place (length s) t))))

-- The same of the rest of a slice that the loop has come to.
module _ (s : List ℕ) (before : ℕ) where
  pub rest_next :
      (size : ℕ) → 131 ≤ before → size ≡ get_or s 1 0 → 2 ≤ size → size ≤ length s → before ≤ get_or s 0 0
      → extended_from before (extended_entries_in s) ≡ extended_from (get_or s 0 0) (extended_entries_in (take (length s - size) (drop size s)))
  rest_next size b e two h a =
      let from : 0 + size ≡ size = omega arith in
      rw (take_all (length s - size) (drop size s) (omega (arith, length-drop size s)))
      (rw from at (others_next s 0 before size b e two (omega arith) a))

  pub rest_short : 2 ≤ length s → get_or s 1 0 < 2 → extended_from before (extended_entries_in s) ≡ true
  rest_short h n = others_stop s 0 before (omega arith) (λ a b c. omega (arith, a, n))

  pub rest_cut : 2 ≤ length s → length s < get_or s 1 0 → extended_from before (extended_entries_in s) ≡ true
  rest_cut h n = others_stop s 0 before (omega arith) (λ a b c. omega (arith, b, n))

  pub rest_low : 2 ≤ length s → get_or s 0 0 < before → extended_from before (extended_entries_in s) ≡ true
  rest_low h n = others_stop s 0 before (omega arith) (λ a b c. omega (arith, c, n))

  pub rest_end : length s < 2 → ltb 0 (length s) ≡ extended_from before (extended_entries_in s)
  rest_end h = others_end s 0 before (omega arith) (omega arith)

pub ruleset rest_steps = (rest_next, rest_short, rest_cut, rest_low, rest_end)

-- ---- What an accepted walk tells

-- Whether an entry has the bytes that entries of its type have, and some.
unfoldable pub exact : Entry → Bool
exact e = ltb 0 (length e) && eqb (length e) (own_length e)

pub exact_parts : (e : Entry) → exact e ≡ true → (0 < length e) × (length e ≡ own_length e)
unfolding exact
exact_parts e x =
    let p = and_parts (ltb 0 (length e)) (eqb (length e) (own_length e)) x in
    (ltb-true 0 (length e) p.0, eqb-true (length e) (own_length e) p.1)

exact_is : (e : Entry) → extended_own e ≡ 0 → fits e ≡ true → exact e ≡ true
unfolding exact fits
exact_is e o h =
    let f = own_parts e o in
    let l : length e ≤ extended_entry_length e =
    either (ltb (extended_entry_length e) 2) (leb (length e) (extended_entry_length e)) h
    (λ t. absurd (omega (arith, f.long, ltb-true (extended_entry_length e) 2 t)))
    (λ t. leb-true (length e) (extended_entry_length e) t)
    in
    rw (
      lt-ltb 0 (length e) (omega (arith, f.long, f.whole)),
      eq-eqb (length e) (own_length e) (omega (arith, l, f.whole, f.known)),
    )

module _ (s : List ℕ) (w : extended_from 0 (extended_entries_in s) ≡ false) where
  pub extended_accepted : walk extended_own 0 128 (extended_entries_in s) ≡ 0
  extended_accepted = sym (walk_high (extended_entries_in s)) ∙ sym (extended_walk 0 (extended_entries_in s)) ∙ ap flag w

  pub every_exact : every exact (extended_entries_in s) ≡ true
  every_exact = every_walk extended_own 0 fits exact exact_is 128 (extended_entries_in s) extended_accepted (pieces_fit s)

-- ---- `extended`, from the places that its runs ended at

module _
    (s : List ℕ) (links modifiers others : ℕ) (r1 : Ran extended_own 128 extended_entry_length s 0 links)
    (r2 : Ran extended_own 129 extended_entry_length s links modifiers) (r3 : Ran extended_own 130 extended_entry_length s modifiers others)
  where
    one_behind : Behind extended_own extended_entry_length s 128 1 links
    one_behind = behind_next extended_own extended_entry_length s 128 0 0 links (behind_none extended_own extended_entry_length s 128) r1

    two_behind : Behind extended_own extended_entry_length s 128 2 modifiers
    two_behind = behind_next extended_own extended_entry_length s 128 1 links modifiers one_behind r2

    three_behind : Behind extended_own extended_entry_length s 128 3 others
    three_behind = behind_next extended_own extended_entry_length s 128 2 modifiers others two_behind r3

    walk_others : extended_from 0 (extended_entries_in s) ≡ extended_from 131 (extended_entries_in (drop others s))
    walk_others =
        flag_same (extended_from 0 (extended_entries_in s)) (extended_from 131 (extended_entries_in (drop others s)))
        (extended_walk 0 (extended_entries_in s)
        ∙ walk_high (extended_entries_in s)
        ∙ walk_after extended_own 0 128 3 (extended_entries_in s)
        ∙ ap (λ (es : List Entry). walk extended_own 0 131 es) (sym three_behind.entries)
        ∙ sym (extended_walk 131 (extended_entries_in (drop others s))))

    module _ (faulty : Bool) (e : faulty ≡ extended_from 131 (extended_entries_in (drop others s))) where
      pub extended_faulty : faulty ≡ true → None ≡ extended_sections s
      unfolding extended_sections
      extended_faulty h = rw (walk_others, ← e, h)

      pub extended_sound : faulty ≡ false → Some (record { links = links; modifiers = modifiers; others = others }) ≡ extended_sections s
      unfolding extended_sections
      extended_sound h =
          let w : walk extended_own 0 128 (extended_entries_in s) ≡ 0 = extended_accepted s (walk_others ∙ sym e ∙ h) in
          rw (
            walk_others,
            ← e,
            h,
            one_behind.place_is ∙ taken_span extended_own 0 128 1 (extended_entries_in s) w,
            two_behind.place_is ∙ taken_span extended_own 0 128 2 (extended_entries_in s) w,
            three_behind.place_is ∙ taken_span extended_own 0 128 3 (extended_entries_in s) w,
          )

-- ---- Type and length as one number

pub first_two : (e : Entry) → le 2 (take 2 e) 0 ≡ get_or e 0 0 + 256 * get_or e 1 0
unfolding le
first_two e = rw (get_or-take 2 e 0 0 (omega arith), get_or-take 2 e 1 0 (omega arith)) (omega arith)
