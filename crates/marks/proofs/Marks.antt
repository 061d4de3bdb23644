-- That the marks of the buses say what mps's `says` says. Assumes nothing.
use Prim.Native.Nat.{ℕ, ◌≤◌, ◌<◌, max}
use mathlib.Core.Path.{◌≡◌, refl, ap, sym, ◌∙◌}
use mathlib.Core.Bool.{Bool, true, false, cond, not, ◌||◌, ◌&&◌, and-false, or-false}
use mathlib.Core.List.{List, [], ◌∷◌}
use native.Mathlib.Omega.{arith}
use lib.ListN.{length, set, length-set, length-replicate}
use lib.Seq.{get_or-set_same, get_or-set_other}
use lib.Dec.{eqb}
use borrow.Author.Tests.{eqb-true, eqb-false, eq-eqb}
use Rattle.mps.specs.Words.{byte, keep, any}
use Rattle.mps.specs.Ranges.{in_list}
use Rattle.mps.specs.Layout.{Entry, type, of_type, mapping_type, hierarchy_type, modifier_type, extended_bus, subtractive_bit, takes_bit, range_list}
use Rattle.mps.specs.Rules.{on_bus, links}
use Rattle.mps.specs.Addresses.{covers, touches, takes_away, adds, covers_or_adds, has_entry, subtractive, Say, says}
use Rattle.laws.proofs.Tests.{whether, or_parts}
use Rattle.laws.proofs.Lists.{any_keep, keep_in, keep_out}
use Rattle.marks.specs.Marks.{mapping_rank, link_rank, modifier_rank, meaning, marked, all_marked, nothing}

-- ---- Marks

-- The first of four tests that is so, as a number.
level : Bool → Bool → Bool → Bool → ℕ
level a b c d = cond a 4 (cond b 3 (cond c 2 (cond d 1 0)))

pub cond_most : (a : Bool) (n x : ℕ) → x ≤ n → cond a n x ≤ n
cond_most true n x h = omega arith
cond_most false n x h = omega arith

pub cond_max : (a b : Bool) (n x y : ℕ) → x ≤ n → y ≤ n → max (cond a n x) (cond b n y) ≡ cond (a || b) n (max x y)
cond_max true true n x y h g = omega arith
cond_max true false n x y h g = omega arith
cond_max false true n x y h g = omega arith
cond_max false false n x y h g = refl

level_max : (a b c d e f g h : Bool) → max (level a b c d) (level e f g h) ≡ level (a || e) (b || f) (c || g) (d || h)
unfolding level
level_max a b c d e f g h =
    let one : (x : Bool) → cond x 1 0 ≤ 1 = λ x. cond_most x 1 0 (omega arith) in
    let two : (x y : Bool) → cond x 2 (cond y 1 0) ≤ 2 = λ x y. cond_most x 2 (cond y 1 0) (omega (arith, one y)) in
    let three : (x y z : Bool) → cond x 3 (cond y 2 (cond z 1 0)) ≤ 3 = λ x y z. cond_most x 3 (cond y 2 (cond z 1 0)) (omega (arith, two y z)) in
    cond_max a e 4 _ _ (omega (arith, three b c d)) (omega (arith, three f g h))
    ∙ ap (cond (a || e) 4) (cond_max b f 3 _ _ (omega (arith, two c d)) (omega (arith, two g h))
    ∙ ap (cond (b || f) 3) (cond_max c g 2 _ _ (omega (arith, one d)) (omega (arith, one h))
    ∙ ap (cond (c || g) 2) (cond_max d h 1 0 0 (omega arith) (omega arith))))

level_none : 0 ≡ level false false false false
unfolding level
level_none = refl

-- The highest that entries say of a bus, each of the one at its place.
unfoldable pub highest : (Entry → ℕ) → (Entry → ℕ) → ℕ → List Entry → ℕ
highest place rank bus [] = 0
highest place rank bus (e ∷ es) = max (cond (eqb (place e) bus) (rank e) 0) (highest place rank bus es)

-- What one entry says of its own bus, of whatever type it is.
rank_of : ℕ → ℕ → Entry → ℕ
rank_of kind address e =
    let bus = extended_bus e in
    level (takes_away bus kind address e) (covers_or_adds bus kind address e) (of_type hierarchy_type e && subtractive_bit e) (has_entry bus e)

module _ (bus kind address : ℕ) where
  -- Whether an entry is the bus's link and has the bit.
  linked : Entry → Bool
  linked e = of_type hierarchy_type e && subtractive bus e

  -- What one entry says of the bus,
  said : Entry → ℕ
  said e = cond (on_bus bus e) (rank_of kind address e) 0

  level_said : (e : Entry) → said e ≡ level (takes_away bus kind address e) (covers_or_adds bus kind address e) (linked e) (has_entry bus e)
  unfolding said level linked rank_of takes_away covers_or_adds covers adds touches has_entry subtractive
  level_said e = whether (on_bus bus e) (λ o. rw (eqb-true (extended_bus e) bus o, eq-eqb bus bus refl)) (λ o. simp (o, and-false))

  -- and what many say.
  level_highest : (es : List Entry)
      → highest extended_bus (rank_of kind address) bus es
      ≡ level (any (takes_away bus kind address) es) (any (covers_or_adds bus kind address) es) (any linked es) (any (has_entry bus) es)
  unfolding highest any said
  level_highest [] = level_none
  level_highest (e ∷ es) = rw (level_highest es, level_said e) (level_max _ _ _ _ _ _ _ _)

meaning_level : (a b c d : Bool)
    → meaning (level a b c d) ≡ cond a Say.no (cond b Say.yes (cond c Say.parent (cond d Say.no Say.undeclared)))
unfolding level
meaning_level true b c d = refl
meaning_level false true c d = refl
meaning_level false false true d = refl
meaning_level false false false true = refl
meaning_level false false false false = refl

-- What a bus says is what its highest entry says.
says_highest : (es : List Entry) (bus kind address : ℕ) → meaning (highest extended_bus (rank_of kind address) bus es) ≡ says es bus kind address
unfolding says links linked
says_highest es bus kind address =
    rw (any_keep (subtractive bus) (of_type hierarchy_type) es, level_highest bus kind address es)
    (meaning_level (any (takes_away bus kind address) es) (any (covers_or_adds bus kind address) es)
    (any (linked bus kind address) es) (any (has_entry bus) es))

-- ---- Marks by types

-- A modifier that touches takes away or adds.
touching : (w b : Bool) → cond {A = ℕ} w (cond b 4 3) 1 ≡ cond (w && b) 4 (cond (w && not b) 3 1)
touching true true = refl
touching true false = refl
touching false b = refl

-- An entry of a type says what the entries of that type say.
module _ (kind address : ℕ) (e : Entry) where
  own_bus : eqb (extended_bus e) (extended_bus e) ≡ true
  own_bus = eq-eqb (extended_bus e) (extended_bus e) refl

  mapping_says : of_type mapping_type e ≡ true → mapping_rank kind address e ≡ rank_of kind address e
  unfolding mapping_rank rank_of level takes_away covers_or_adds covers touches adds has_entry
  mapping_says t = simp (eqb-true (type e) mapping_type t, own_bus, or-false)

  link_says : of_type hierarchy_type e ≡ true → link_rank e ≡ rank_of kind address e
  unfolding link_rank rank_of level takes_away covers_or_adds covers touches adds has_entry
  link_says t = rw (eqb-true (type e) hierarchy_type t)

  modifier_says : of_type modifier_type e ≡ true → modifier_rank kind address e ≡ rank_of kind address e
  unfolding modifier_rank rank_of level takes_away covers_or_adds covers touches adds has_entry
  modifier_says t = rw (eqb-true (type e) modifier_type t, own_bus) (touching (eqb kind 0 && in_list (range_list e) address) (takes_bit e))

module _ (bus kind address : ℕ) where
  highest_keep : (rank : Entry → ℕ) (q : Entry → Bool) (e : Entry) (xs : List Entry) → (q e ≡ true → rank e ≡ rank_of kind address e)
      → highest extended_bus rank bus (keep q (e ∷ xs)) ≡ max (cond (q e) (said bus kind address e) 0) (highest extended_bus rank bus (keep q xs))
  unfolding highest said
  highest_keep rank q e xs s = whether (q e) (λ t. rw (keep_in q e xs t, t, s t)) (λ f. rw (keep_out q e xs f, f) (omega arith))

  said_none : (e : Entry) → (of_type mapping_type e || of_type hierarchy_type e || of_type modifier_type e) ≡ false → said bus kind address e ≡ 0
  unfolding said rank_of level takes_away covers_or_adds covers adds touches has_entry
  said_none e n =
      let p = or_parts (of_type mapping_type e || of_type hierarchy_type e) (of_type modifier_type e) n in
      let q = or_parts (of_type mapping_type e) (of_type hierarchy_type e) p.0 in
      whether (on_bus bus e) (λ o. rw (o, q.0, q.1, p.1)) (λ o. rw o)

-- A number that is 0 where none of three tests is so.
max_one : (a b c : Bool) (h : ℕ) → ((a || b || c) ≡ false → h ≡ 0) → h ≡ max (max (cond a h 0) (cond b h 0)) (cond c h 0)
max_one true b c h n = omega (arith, cond_most b h 0 (omega arith), cond_most c h 0 (omega arith))
max_one false true c h n = omega (arith, cond_most c h 0 (omega arith))
max_one false false true h n = omega arith
max_one false false false h n = n refl

max_four : (a b c d : ℕ) → max (max a b) (max c d) ≡ max (max a c) (max b d)
max_four a b c d = omega arith

max_spread : (h a b c x y z : ℕ) → h ≡ max (max a b) c → max h (max (max x y) z) ≡ max (max (max a x) (max b y)) (max c z)
max_spread h a b c x y z q = rw (q, max_four a x b y, max_four (max a b) (max x y) c z)

-- Only entries of the three types say anything.
highest_types : (bus kind address : ℕ) (xs : List Entry)
    → highest extended_bus (rank_of kind address) bus xs
    ≡ max (max (highest extended_bus (mapping_rank kind address) bus (keep (of_type mapping_type) xs)) (highest extended_bus link_rank bus (keep (of_type hierarchy_type) xs)))
    (highest extended_bus (modifier_rank kind address) bus (keep (of_type modifier_type) xs))
unfolding highest keep said
highest_types bus kind address [] = refl
highest_types bus kind address (e ∷ xs) =
    rw (
      highest_keep bus kind address (mapping_rank kind address) (of_type mapping_type) e xs (mapping_says kind address e),
      highest_keep bus kind address link_rank (of_type hierarchy_type) e xs (link_says kind address e),
      highest_keep bus kind address (modifier_rank kind address) (of_type modifier_type) e xs (modifier_says kind address e),
      highest_types bus kind address xs,
    )
    (max_spread (said bus kind address e) _ _ _ _ _ _
    (max_one (of_type mapping_type e) (of_type hierarchy_type e) (of_type modifier_type e) (said bus kind address e) (said_none bus kind address e)))

-- ---- The list of marks

-- What one entry puts in.
mark_set : (marks : List ℕ) (b r bus : ℕ) → bus < length marks
    → byte (set marks b (max (byte marks b) r)) bus ≡ max (byte marks bus) (cond (eqb b bus) r 0)
mark_set marks b r bus h =
    whether (eqb b bus)
    (λ o. rw (o, eqb-true b bus o) (get_or-set_same marks bus (max (byte marks bus) r) 0 h))
    (λ o. rw o (get_or-set_other marks b bus (max (byte marks b) r) 0 (λ q. eqb-false b bus o (sym q)) ∙ omega arith))

-- The list of marks has the highest of what stood there and what the entries say.
pub marked_byte : (place rank : Entry → ℕ) (marks : List ℕ) (es : List Entry) (bus : ℕ) → bus < length marks
    → byte (marked place rank marks es) bus ≡ max (byte marks bus) (highest place rank bus es)
unfolding marked highest
marked_byte place rank marks [] bus h = omega arith
marked_byte place rank marks (e ∷ es) bus h =
    marked_byte place rank (set marks (place e) (max (byte marks (place e)) (rank e))) es bus (rw length-set h)
    ∙ rw (mark_set marks (place e) (rank e) bus h) (omega arith)

length_marked : (place rank : Entry → ℕ) (marks : List ℕ) (es : List Entry) → length (marked place rank marks es) ≡ length marks
unfolding marked
length_marked place rank marks [] = refl
length_marked place rank marks (e ∷ es) =
    length_marked place rank (set marks (place e) (max (byte marks (place e)) (rank e))) es ∙ length-set marks (place e) _

pub max_none : (n : ℕ) → max 0 n ≡ n
max_none n = omega arith

-- The marks of all three types, where nothing was marked, mean what the bus says.
pub marked_says : (kind address : ℕ) (marks : List ℕ) (xs : List Entry) (bus : ℕ) → bus < length marks → byte marks bus ≡ 0
    → meaning (byte (all_marked kind address marks (keep (of_type mapping_type) xs) (keep (of_type hierarchy_type) xs) (keep (of_type modifier_type) xs)) bus)
    ≡ says xs bus kind address
marked_says kind address marks xs bus h z =
    let maps = keep (of_type mapping_type) xs in
    let ls = keep (of_type hierarchy_type) xs in
    let mapped = marked extended_bus (mapping_rank kind address) marks maps in
    let linked = marked extended_bus link_rank mapped ls in
    let m = length_marked extended_bus (mapping_rank kind address) marks maps in
    let l = length_marked extended_bus link_rank mapped ls in
    rw (
      marked_byte extended_bus (modifier_rank kind address) linked (keep (of_type modifier_type) xs) bus (omega (arith, h, m, l)),
      marked_byte extended_bus link_rank mapped ls bus (omega (arith, h, m)),
      marked_byte extended_bus (mapping_rank kind address) marks maps bus h,
      z,
      max_none,
      ← highest_types bus kind address xs,
    ) (says_highest xs bus kind address)

pub length_nothing : length nothing ≡ 256
length_nothing = length-replicate {A = ℕ} 256 0
