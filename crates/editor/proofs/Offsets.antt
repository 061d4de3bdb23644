-- Where the entry at a place stands, by how many processors there are. Assumes nothing.
use Rattle.std.proofs.Common.{◌≡◌, ℕ, zero, suc, ◌+◌, ◌-◌, ◌*◌, ◌/◌, ◌<◌, ◌≤◌, true, eqb, List, [], ◌∷◌, ◌++◌, length, sym, refl, ◌∙◌, suc-mul, zero-mul, arith, length-append, eqb-true, min, ltb, ltb-true, ltb-false}
use Rattle.mps.specs.Words.{part, every, each, keep, cut}
use Rattle.mps.specs.Sums.{total}
use Rattle.mps.specs.Layout.{Entry, header_size, processor_size, entry_size, part_most, entry_count, base_entries}
use Rattle.mps.specs.Sections.{rows}
use Rattle.mps.specs.Edits.{before, offset_of}
use Rattle.mps.specs.declared.Sections.{Sections}
use Rattle.laws.proofs.Tests.{and_parts, whether}
use Rattle.laws.proofs.Lists.{every_append, keep_in, keep_out}
use Rattle.laws.proofs.Parts.{length_part}
use Rattle.laws.proofs.Rows.{rows_count_20}
use Rattle.accepted.proofs.Sound.{sound}
use Rattle.accepted.proofs.Stands.{stands}
use Rattle.judge.specs.Placed.{Placed}
use Rattle.editor.specs.Tested.{Accepted}

-- ---- Entries that all have n bytes

abbrev Even : ℕ → List Entry → Type 0
Even n es = every (λ e. eqb (length e) n) es ≡ true

kept_even : (n : ℕ) (es : List Entry) → Even n (keep (λ e. eqb (length e) n) es)
unfolding every keep
kept_even n [] = refl
kept_even n (e ∷ es) =
    whether (eqb (length e) n)
    (λ t. rw (keep_in (λ (x : Entry). eqb (length x) n) e es t, t) (kept_even n es))
    (λ f. rw (keep_out (λ (x : Entry). eqb (length x) n) e es f) (kept_even n es))

rows_even : (n : ℕ) (s : List ℕ) → Even n (rows n s)
unfolding rows
rows_even n s = kept_even n (cut (λ _. n) 0 s)

module _ (n : ℕ) where
  even_more : (xs ys : List Entry) → Even n xs → Even n ys → Even n (xs ++ ys)
  even_more xs ys p q = every_append (λ (e : Entry). eqb (length e) n) xs ys ∙ rw (p, q)

  even_before : (es : List Entry) → Even n es → (k : ℕ) → k ≤ length es → before k es ≡ k * n
  unfolding before total each every
  even_before es h zero l = sym (zero-mul n)
  even_before [] h (suc k) l = absurd (omega arith)
  even_before (e ∷ es) h (suc k) l =
      let parts = and_parts (eqb (length e) n) (every (λ (x : Entry). eqb (length x) n) es) h in
      rw suc-mul (omega (arith, eqb-true (length e) n parts.0, even_before es parts.1 k (omega arith)))

-- Before an entry among the first ones, or among those behind them.
before_first : (xs ys : List Entry) (k : ℕ) → k ≤ length xs → before k (xs ++ ys) ≡ before k xs
unfolding before total each
before_first xs ys zero l = refl
before_first [] ys (suc k) l = absurd (omega arith)
before_first (x ∷ xs) ys (suc k) l = rw (before_first xs ys k (omega arith))

before_behind : (xs ys : List Entry) (k : ℕ) → before (length xs + k) (xs ++ ys) ≡ before (length xs) xs + before k ys
unfolding before total each
before_behind [] ys k = let e : 0 + k ≡ k = omega arith in rw e (omega arith)
before_behind (x ∷ xs) ys k =
    let e : suc (length xs) + k ≡ suc (length xs + k) = omega arith in
    rw (e, before_behind xs ys k) (omega arith)

module _ (t : List ℕ) (p : Sections) (h : Placed t p) where
  abbrev cpus : List Entry
  cpus = rows processor_size (part header_size p.buses t)

  behind : List Entry
  behind =
      rows entry_size (part p.buses p.ioapics t)
      ++ (rows entry_size (part p.ioapics p.interrupts t)
      ++ (rows entry_size (part p.interrupts p.locals t) ++ rows entry_size (part p.locals p.mappings t)))

  behind_even : Even entry_size behind
  unfolding behind
  behind_even =
      even_more 8 _ _ (rows_even 8 _) (even_more 8 _ _ (rows_even 8 _) (even_more 8 _ _ (rows_even 8 _) (rows_even 8 _)))

  all : base_entries t ≡ cpus ++ behind
  unfolding behind
  all = h.base_order

  how_many : length cpus ≡ (p.buses - header_size) / processor_size
  how_many =
      rows_count_20 (part header_size p.buses t)
      ∙ rw (length_part header_size p.buses t (omega (arith, h.to_ioapics, h.to_interrupts, h.to_locals, h.to_mappings, h.to_links, h.to_modifiers, h.to_others, h.to_end, h.inside)))

  module _ {n : ℕ} (e : n ≡ (p.buses - header_size) / processor_size) (place : ℕ) where
    count : length cpus ≡ n
    count = how_many ∙ sym e

    pub of_processor : place < n → header_size + processor_size * place ≡ offset_of t place
    unfolding offset_of
    of_processor l =
        rw (all, before_first cpus behind place (omega (arith, count, l)), even_before processor_size cpus (rows_even processor_size _) place (omega (arith, count, l)))
        (omega arith)

    pub of_other : n ≤ place → place < length (base_entries t) → header_size + processor_size * n + entry_size * (place - n) ≡ offset_of t place
    unfolding offset_of
    of_other l b =
        let k = place - n in
        let sum : length cpus + k ≡ place = omega (arith, count, l) in
        let within : k ≤ length behind = omega (arith, rw all at b, length-append cpus behind, count) in
        let first = even_before processor_size cpus (rows_even processor_size _) (length cpus) (omega arith) in
        let second = even_before entry_size behind behind_even k within in
        let whole : before place (cpus ++ behind) ≡ length cpus * processor_size + k * entry_size = rw sum at (before_behind cpus behind k) ∙ rw (first, second) in
        rw (all, whole, count) (omega arith)

-- ---- In an accepted table

module _ (t : List ℕ) (p : Sections) (a : Accepted t p) {place : ℕ} (h : place < entry_count t) where
  pub counted : place < length (base_entries t)
  counted = omega (arith, (sound t a.number).counted, h)

module _ {t : List ℕ} {p : Sections} (a : Accepted t p) where
  pub from_header : header_size ≤ p.buses
  from_header = a.placed.from_header

  module _ (place : ℕ) (h : place < entry_count t) where
    abbrev first : ℕ
    first = min place ((p.buses - header_size) / processor_size)

    pub place_of : header_size + processor_size * first + entry_size * (place - first) ≡ offset_of t place
    place_of =
        let n = (p.buses - header_size) / processor_size in
        whether (ltb place n)
        (λ l. let k : first ≡ place = omega (arith, ltb-true place n l) in
        let z : place - place ≡ 0 = omega arith in
        rw (k, z) (omega (arith, of_processor t p a.placed {n = n} refl place (ltb-true place n l))))
        (λ l. let m = ltb-false place n l in
        let k : first ≡ n = omega (arith, m) in
        rw k (of_other t p a.placed refl place m (counted t p a h)))

    pub place_inside : header_size + processor_size * first + entry_size * (place - first) ≤ part_most
    place_inside =
        let s = sound t a.number in
        omega (arith, place_of, (stands t place s h).inside, s.most)
