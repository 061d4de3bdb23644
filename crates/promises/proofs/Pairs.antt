-- Of any query for pairs, whichever interrupt entries it asks about and whatever targets: a pair stands in the answer exactly
-- when two entries of the table declare it, the pairs stand in the order of the table, each has an ID of the table, and none
-- has 255. Routes and Slots are its instances. Assumes nothing.
use Prim.Native.Nat.{ℕ, zero, suc, ◌+◌, ◌-◌, ◌*◌, ◌/◌, ◌<◌, ◌≤◌}
use mathlib.Core.Path.{◌≡◌, refl, sym, ap, ◌∙◌}
use mathlib.Core.Bool.{Bool, true, false, ◌&&◌, false≢true}
use mathlib.Core.Logic.{◌↔◌}
use mathlib.Core.List.{List, [], ◌∷◌, ◌++◌}
use native.Mathlib.Omega.{arith}
use lib.ListN.{length, get_or, drop, length-append, get_or-append}
use lib.Dec.{ltb}
use borrow.Author.Tests.{ltb-true, ltb-false}
use Rattle.mps.specs.Words.{byte, among, keep, each, only, joined}
use Rattle.mps.specs.Layout.{Entry, everyone, of_type, enabled, id_of, input}
use Rattle.mps.specs.Rules.{enabled_of, enabled_ids}
use Rattle.mps.specs.Answers.{answered}
use Rattle.mps.specs.Rooms.{lent_left}
use Rattle.mps.specs.Routes.{names, pair_size, pair, pairs_to}
use Rattle.std.specs.Prelude.{Ok}
use Rattle.laws.proofs.Tests.{whether, and_parts}
use Rattle.laws.proofs.Lists.{among_first, among_rest, keep_keep, byte_right}
use Rattle.laws.proofs.Joined.{joined_same, joined_keep, joined_each, joined_only}
use Rattle.laws.proofs.Lent.{left_put}
use Rattle.laws.proofs.Answers.{given_ok}
use Rattle.promises.specs.Declared.{target, declares, pairs_declared, PairDeclared, Stands}

-- ---- In order

pub pairs_declared_lem : (asked : Entry → Bool) (targets : ℕ) (es : List Entry)
    → joined (pairs_to (enabled_of targets es)) (keep asked es) ≡ pairs_declared asked targets es
unfolding pairs_declared pairs_to enabled_of declares target
pairs_declared_lem asked targets es =
    joined_keep (pairs_to (enabled_of targets es)) asked es
    ∙ joined_same _ _ (λ e.
    ap (only (asked e))
    (joined_each (pair e) id_of (keep (names e) (enabled_of targets es))
    ∙ ap (λ (l : List Entry). joined (λ (a : Entry). pair e (id_of a)) (keep (names e) l)) (keep_keep enabled (of_type targets) es)
    ∙ ap (joined (λ (a : Entry). pair e (id_of a))) (keep_keep (names e) (target targets) es)
    ∙ joined_keep (λ (a : Entry). pair e (id_of a)) (λ (a : Entry). target targets a && names e a) es)
    ∙ joined_only (asked e) (λ (a : Entry). target targets a && names e a) (λ (a : Entry). pair e (id_of a)) es) es

-- ---- Exactly those

-- Bytes that are pairs, and a pair among them.
abbrev Even : List ℕ → Type 0
Even s = (m : ℕ) × (length s ≡ m * 2)

record PairIn (s : List ℕ) (id into : ℕ) : Type 0 where
  place : ℕ
  there : place * 2 + 2 ≤ length s
  first : byte s (place * 2) ≡ id
  second : byte s (place * 2 + 1) ≡ into

module _ (a b : List ℕ) (id into : ℕ) where
  pair_in_left : PairIn a id into → PairIn (a ++ b) id into
  pair_in_left h =
      let t = h.there in
      record {
        place = h.place;
        there = rw (length-append a b) (omega arith);
        first = get_or-append a b 0 (h.place * 2) (omega arith) ∙ h.first;
        second = get_or-append a b 0 (h.place * 2 + 1) (omega arith) ∙ h.second;
      }

  pair_in_right : Even a → PairIn b id into → PairIn (a ++ b) id into
  pair_in_right e h =
      let t = h.there in
      let q = e.1 in
      record {
        place = e.0 + h.place;
        there = rw (length-append a b) (omega arith);
        first = byte_right a b ((e.0 + h.place) * 2) (omega arith) ∙ ap (byte b) (omega arith) ∙ h.first;
        second = byte_right a b ((e.0 + h.place) * 2 + 1) (omega arith) ∙ ap (byte b) (omega arith) ∙ h.second;
      }

  pair_in_cases : {C : Type 0} → Even a → PairIn (a ++ b) id into → (PairIn a id into → C) → (PairIn b id into → C) → C
  pair_in_cases e h f g =
      let t = rw (length-append a b) at h.there in
      let q = e.1 in
      whether (ltb h.place e.0)
      (λ l. let k = ltb-true h.place e.0 l in
      f (record {
        place = h.place;
        there = omega arith;
        first = sym (get_or-append a b 0 (h.place * 2) (omega arith)) ∙ h.first;
        second = sym (get_or-append a b 0 (h.place * 2 + 1) (omega arith)) ∙ h.second;
      }))
      (λ l. let k = ltb-false h.place e.0 l in
      g (record {
        place = h.place - e.0;
        there = omega arith;
        first = sym (byte_right a b (h.place * 2) (omega arith) ∙ ap (byte b) (omega arith)) ∙ h.first;
        second = sym (byte_right a b (h.place * 2 + 1) (omega arith) ∙ ap (byte b) (omega arith)) ∙ h.second;
      }))

pair_in_none : {C : Type 0} (id into : ℕ) → PairIn [] id into → C
pair_in_none id into h = let t = h.there in absurd (omega arith)

-- Among what is made of each element: at some place of the list.
record At {A : Type 0} (f : A → List ℕ) (d : A) (xs : List A) (id into : ℕ) : Type 0 where
  place : ℕ
  there : place < length xs
  within : PairIn (f (get_or xs place d)) id into

module _ {A : Type 0} (f : A → List ℕ) (even : (x : A) → Even (f x)) (d : A) (id into : ℕ) where
  even_joined : (xs : List A) → Even (joined f xs)
  unfolding joined
  even_joined [] = (0, refl)
  even_joined (x ∷ xs) =
      let p = even x in
      let q = even_joined xs in
      (p.0 + q.0, length-append (f x) (joined f xs) ∙ omega (arith, p.1, q.1))

  pair_in_at : (xs : List A) → PairIn (joined f xs) id into → At f d xs id into
  unfolding joined
  pair_in_at [] h = pair_in_none id into h
  pair_in_at (x ∷ xs) h =
      pair_in_cases (f x) (joined f xs) id into (even x) h
      (λ l. record { place = 0; there = omega arith; within = l })
      (λ r. let k = pair_in_at xs r in record { place = suc k.place; there = omega (arith, k.there); within = k.within })

  at_pair_in : (xs : List A) (i : ℕ) → i < length xs → PairIn (f (get_or xs i d)) id into → PairIn (joined f xs) id into
  unfolding joined
  at_pair_in [] i h k = absurd (omega arith)
  at_pair_in (x ∷ xs) zero h k = pair_in_left (f x) (joined f xs) id into k
  at_pair_in (x ∷ xs) (suc i) h k = pair_in_right (f x) (joined f xs) id into (even x) (at_pair_in xs i (omega arith) k)

-- One pair, where a test holds.
pair_even : (b : Bool) (e : Entry) (id : ℕ) → Even (only b (pair e id))
unfolding pair
pair_even true e id = (1, refl)
pair_even false e id = (0, refl)

pair_told : (b : Bool) (e : Entry) (own id into : ℕ) → PairIn (only b (pair e own)) id into → (b ≡ true) × (own ≡ id) × (input e ≡ into)
unfolding pair
pair_told false e own id into h = pair_in_none id into h
pair_told true e own id into h =
    let z : h.place ≡ 0 = omega (arith, h.there) in
    (refl, rw z at h.first, rw z at h.second)

told_pair : (b : Bool) (e : Entry) (own id into : ℕ) → b ≡ true → own ≡ id → input e ≡ into → PairIn (only b (pair e own)) id into
unfolding pair
told_pair b e own id into t p q = rw t (record { place = 0; there = omega arith; first = p; second = q })

module _ (asked : Entry → Bool) (targets : ℕ) where
  one : Entry → Entry → List ℕ
  one e a = only (declares asked targets e a) (pair e (id_of a))

  one_even : (e a : Entry) → Even (one e a)
  unfolding one
  one_even e a = pair_even (declares asked targets e a) e (id_of a)

module _ (asked : Entry → Bool) (targets : ℕ) (es : List Entry) where
  line_even : (id into : ℕ) (e : Entry) → Even (joined (one asked targets e) es)
  line_even id into e = even_joined (one asked targets e) (one_even asked targets e) [] id into es

  declared_even : Even (pairs_declared asked targets es)
  unfolding pairs_declared one
  declared_even = even_joined (λ (e : Entry). joined (one asked targets e) es) (line_even 0 0) [] 0 0 es

  declared_exactly : (id into : ℕ) → PairIn (pairs_declared asked targets es) id into ↔ PairDeclared asked targets es id into
  unfolding pairs_declared one
  declared_exactly id into =
      let line : Entry → List ℕ = λ (e : Entry). joined (one asked targets e) es in
      let even = line_even id into in (
        λ h.
            let i = pair_in_at line even [] id into es h in
            let e = get_or es i.place [] in
            let j = pair_in_at (one asked targets e) (one_even asked targets e) [] id into es i.within in
            let k = pair_told _ e (id_of (get_or es j.place [])) id into j.within in
            record {
              line = i.place;
              apic = j.place;
              line_there = i.there;
              apic_there = j.there;
              route = k.0;
              named = k.1;
              entered = k.2;
            },
        λ r.
            let e = get_or es r.line [] in
            at_pair_in line even [] id into es r.line r.line_there
            (at_pair_in (one asked targets e) (one_even asked targets e) [] id into es r.apic r.apic_there
            (told_pair _ e (id_of (get_or es r.apic [])) id into r.route r.named r.entered)),
      )

-- ---- The calls: each answers a number and a count, and leaves the pairs in its room

module _ (asked : Entry → Bool) (targets : ℕ) (es : List Entry) (given : ℕ) (room : List ℕ) {n : ℕ}
    (r : answered given (length (pairs_declared asked targets es) / pair_size) ≡ Ok n) where
  -- What is answered, and of which call.
  counted : (given ≡ 0) × (n ≡ length (pairs_declared asked targets es) / pair_size)
  counted = given_ok _ _ (sym r)

  -- The count is that of the pairs.
  pub pairs_count : length (pairs_declared asked targets es) ≡ n * pair_size
  pairs_count = let d = declared_even asked targets es in omega (arith, d.1, counted.1)

  -- They stand from the room's first byte on, in the order of the table; what lies past them stays.
  pub pairs_in_order : lent_left given (pairs_declared asked targets es) room ≡ pairs_declared asked targets es ++ drop (n * pair_size) room
  pairs_in_order = rw (counted.0, left_put (pairs_declared asked targets es) room, pairs_count)

  -- A pair is in the answer exactly when some entry that is asked about names that enabled one with that input.
  pub pairs_exactly : (id into : ℕ)
      → Stands n (lent_left given (pairs_declared asked targets es) room) id into ↔ PairDeclared asked targets es id into
  pairs_exactly id into =
      let all = pairs_declared asked targets es in
      let rest = drop (n * 2) room in
      let d = declared_exactly asked targets es id into in
      let c = pairs_count in (
        λ s.
            let h = s.there in
            d.0 (record {
              place = s.place;
              there = omega arith;
              first = sym (get_or-append all rest 0 (s.place * 2) (omega arith)) ∙ rw pairs_in_order at s.first;
              second = sym (get_or-append all rest 0 (s.place * 2 + 1) (omega arith)) ∙ rw pairs_in_order at s.second;
            }),
        λ p.
            let k = d.1 p in
            let h = k.there in
            record {
              place = k.place;
              there = omega arith;
              first = rw pairs_in_order (get_or-append all rest 0 (k.place * 2) (omega arith) ∙ k.first);
              second = rw pairs_in_order (get_or-append all rest 0 (k.place * 2 + 1) (omega arith) ∙ k.second);
            },
      )

-- ---- The ID of a pair is that of an enabled target, as the table states it

-- What is enabled and of a type has its ID among those.
enabled_among :
    (n : ℕ) (es : List Entry) (k : ℕ) → k < length es → (of_type n (get_or es k []) && enabled (get_or es k [])) ≡ true
    → among (id_of (get_or es k [])) (enabled_ids n es) ≡ true
unfolding enabled_ids enabled_of keep each
enabled_among n [] k h t = absurd (omega arith)
enabled_among n (e ∷ es) zero h t =
    let p = and_parts (of_type n e) (enabled e) t in
    rw (p.0, p.1) (among_first (id_of e) (id_of e) _ refl)
enabled_among n (e ∷ es) (suc k) h t =
    let r = enabled_among n es k (omega arith) t in
    whether (of_type n e)
    (λ a. whether (enabled e) (λ b. rw (a, b) (among_rest _ (id_of e) _ r)) (λ b. rw (a, b) r))
    (λ a. rw a r)

pub pair_own : (asked : Entry → Bool) (targets : ℕ) (es : List Entry) (id into : ℕ) → PairDeclared asked targets es id into
    → among id (enabled_ids targets es) ≡ true
unfolding declares target
pair_own asked targets es id into r =
    let e = get_or es r.line [] in
    let a = get_or es r.apic [] in
    let both = and_parts (asked e) ((of_type targets a && enabled a) && names e a) r.route in
    let is = and_parts (of_type targets a && enabled a) (names e a) both.1 in
    rw r.named at (enabled_among targets es r.apic r.apic_there is.0)

-- "255 names all": where no enabled target has that ID, it stands in no pair.
pub no_everyone : (asked : Entry → Bool) (targets : ℕ) (es : List Entry) → among everyone (enabled_ids targets es) ≡ false
    → (id into : ℕ) → PairDeclared asked targets es id into → id ≡ everyone → ⊥
no_everyone asked targets es own id into r h = false≢true (sym own ∙ rw h at (pair_own asked targets es id into r))
