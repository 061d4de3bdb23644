-- What the two loops keep. Assumes nothing.
use Prim.Native.Nat.{ℕ, ◌+◌, ◌%◌, ◌≤◌, ◌<◌}
use mathlib.Core.Path.{◌≡◌, refl, ap}
use mathlib.Core.List.{List, [], ◌∷◌, ◌++◌}
use native.Mathlib.Omega.{arith}
use lib.ListN.{length, get_or, set, length-append}
use lib.Seq.{sets}
use Rattle.mps.specs.Layout.{id_of, everyone}
use Rattle.laws.proofs.Enabled.{ids_end, ids_on, ids_off}
use Rattle.laws.proofs.Counting.{Below, below_first, below_rest}
use Rattle.laws.proofs.Writes.{Writes, writes_done, writes_next}
use Rattle.apics.specs.Enabled.{enabled_in}
use Rattle.sets.specs.Sets.{with_number, put_all}
use Rattle.renumbering.specs.Giving.{number_in, own_with, numbers_in}
use Rattle.renumbering.proofs.Laws.{length_in}

-- ---- hold

-- With the IDs of the rows left it comes to those of all, in number and in the set.
pub record Puts (set₀ s : List ℕ) (n : ℕ) (set : List ℕ) (count : ℕ) (rest : List ℕ) : Type 0 where
  pub few : count + length rest ≤ length s
  pub number : count + length (enabled_in n rest) ≡ length (enabled_in n s)
  pub words : put_all set (enabled_in n rest) ≡ put_all set₀ (enabled_in n s)

module _ {set₀ s : List ℕ} {n : ℕ} {words : List ℕ} {count : ℕ} {rest : List ℕ} (inv : Puts set₀ s n words count rest) where
  pub puts_done : length rest < n → (count ≡ length (enabled_in n s)) × (words ≡ put_all set₀ (enabled_in n s))
  unfolding put_all enabled_in
  puts_done f =
      let none = ids_end n rest f in
      (omega (arith, inv.number, ap length none), rw none at inv.words)

  module _ (e left : List ℕ) (z : 4 ≤ n) (h : length e ≡ n) (c : rest ≡ e ++ left) where
    pub puts_off : (get_or e 3 0 % 2 ≡ 1 → ⊥) → Puts set₀ s n words count left
    unfolding enabled_in
    puts_off p =
        let same = ids_off n rest e left (omega arith) h c p in
        record { few = omega (arith, inv.few, ap length c, length-append e left); number = rw same at inv.number; words = rw same at inv.words }

    pub puts_on :
        get_or e 3 0 % 2 ≡ 1 → {more : List ℕ} → more ≡ with_number words (id_of e) → Puts set₀ s n more (count + 1) left
    unfolding put_all enabled_in
    puts_on p q =
        let here = ids_on n rest e left (omega arith) h c p in
        record {
          few = omega (arith, inv.few, ap length c, length-append e left, h, z);
          number = omega (arith, inv.number, ap length here);
          words = rw q (rw here at inv.words);
        }

-- ---- give

-- With the numbers of the rows left it comes to those of all.
pub record Gives (out₀ own₀ cpus s out own : List ℕ) (place : ℕ) (rest : List ℕ) : Type 0 where
  pub writes : Writes out₀ 0 (numbers_in cpus own₀ (enabled_in 8 s)) out place (numbers_in cpus own (enabled_in 8 rest))
  pub below : Below everyone (numbers_in cpus own (enabled_in 8 rest))

module _ {out₀ own₀ cpus s out own : List ℕ} {place : ℕ} {rest : List ℕ} (inv : Gives out₀ own₀ cpus s out own place rest) where
  pub gives_done : length rest < 8 → out ≡ sets out₀ 0 (numbers_in cpus own₀ (enabled_in 8 s))
  unfolding numbers_in enabled_in
  gives_done f = (writes_done inv.writes (rw (ids_end 8 rest f))).1

  module _ (e left : List ℕ) (h : length e ≡ 8) (c : rest ≡ e ++ left) where
    pub gives_off : (get_or e 3 0 % 2 ≡ 1 → ⊥) → Gives out₀ own₀ cpus s out own place left
    unfolding enabled_in
    gives_off p =
        let same = ids_off 8 rest e left (omega arith) h c p in
        record { writes = rw same at inv.writes; below = rw same at inv.below }

    module _ (p : get_or e 3 0 % 2 ≡ 1) where
      abbrev number : ℕ
      number = number_in cpus own (id_of e)

      abbrev others : List ℕ
      others = numbers_in cpus (own_with cpus own (id_of e)) (enabled_in 8 left)

      next : numbers_in cpus own (enabled_in 8 rest) ≡ number ∷ others
      unfolding numbers_in enabled_in
      next = rw (ids_on 8 rest e left (omega arith) h c p)

      -- It is a byte, and there is room for it.
      pub gives_small : number < everyone
      gives_small = below_first everyone number others (rw next at inv.below)

      pub gives_room : length (enabled_in 8 s) ≤ length out₀ → place < length out
      gives_room k = omega (arith, k, inv.writes.end, inv.writes.room, ap length next, length_in cpus own₀ (enabled_in 8 s))

      pub gives_on :
          {n : ℕ} {u : List ℕ} → n ≡ number → u ≡ own_with cpus own (id_of e)
          → Gives out₀ own₀ cpus s (set out place n) u (place + 1) left
      gives_on q g = record {
        writes = rw (q, g) (writes_next inv.writes (number ∷ []) others next refl refl);
        below = rw g (below_rest everyone number others (rw next at inv.below));
      }
