-- The lines of extended entries, from their words and by their type. Assumes nothing.
use Prim.Native.Nat.{ℕ, zero, suc, ◌%◌, ◌<◌}
use mathlib.Core.Path.{◌≡◌, refl}
use mathlib.Core.List.{List}
use native.Mathlib.Omega.{arith}
use native.Mathlib.Nat.{div-one}
use lib.Dec.{eqb}
use lib.ListN.{get_or}
use borrow.Author.Tests.{eq-eqb, ne_eqb}
use Rattle.mps.specs.Words.{text, bit, flag}
use Rattle.mps.specs.Numbers.{le}
use Rattle.mps.specs.Layout.{Entry}
use Rattle.mps.specs.Listing.{decimal, hex, map_line, tree_line, mod_line, skip_line, extended_line}
use Rattle.text.specs.Text.{ended}
use Rattle.lines.specs.Wrote.{Wrote, space_line}
use Rattle.lines.proofs.Laws.{last, next}

-- ---- From its words, each a field of the entry

low_flag : (n : ℕ) → n % 2 ≡ flag (bit 0 n)
unfolding bit
low_flag n = rw div-one (cases (n % 2) (omega arith))
  where
    cases : (k : ℕ) → k < 2 → k ≡ flag (eqb k 1)
    cases zero h = refl
    cases (suc zero) h = refl
    cases (suc (suc k)) h = absurd (omega (arith, h))

pub map_is :
    {t u v x y z : List ℕ} {at p q r s l : ℕ} (e : Entry) (base size : ℕ)
    → Wrote t at (ended (text "map") 32) u p → Wrote u p (ended (decimal (get_or e 2 0)) 32) v q
    → Wrote v q (ended (decimal (get_or e 3 0)) 32) x r → Wrote x r (ended (hex 16 base) 32) y s
    → Wrote y s (ended (hex 16 size) 10) z l → Wrote t at (space_line e base size) z l
unfolding space_line
map_is e base size a b c d j =
    (next (text "map") a (next (decimal (get_or e 2 0)) b (next (decimal (get_or e 3 0)) c
    (next (hex 16 base) d (last (hex 16 size) j))))).wrote

module _ {t u v x y : List ℕ} {at p q r s link : ℕ} (e : Entry) (g : link ≡ get_or e 3 0) where
  pub tree_is :
      Wrote t at (ended (text "tree") 32) u p → Wrote u p (ended (decimal (get_or e 2 0)) 32) v q
      → Wrote v q (ended (decimal (get_or e 4 0)) 32) x r → Wrote x r (ended (decimal (link % 2)) 10) y s
      → Wrote t at (tree_line e) y s
  unfolding tree_line
  tree_is a b c d =
      rw (← g, ← low_flag link)
      (next (text "tree") a (next (decimal (get_or e 2 0)) b (next (decimal (get_or e 4 0)) c (last (decimal (link % 2)) d)))).wrote

  pub mod_is :
      {list : ℕ} → list ≡ le 4 e 4
      → Wrote t at (ended (text "mod") 32) u p → Wrote u p (ended (decimal (get_or e 2 0)) 32) v q
      → Wrote v q (ended (decimal (link % 2)) 32) x r → Wrote x r (ended (decimal list) 10) y s
      → Wrote t at (mod_line e) y s
  unfolding mod_line
  mod_is {list} h a b c d =
      rw (← g, ← h, ← low_flag link)
      (next (text "mod") a (next (decimal (get_or e 2 0)) b (next (decimal (link % 2)) c (last (decimal list) d)))).wrote

pub skip_is :
    {t u v x : List ℕ} {at p q r : ℕ} (e : Entry)
    → Wrote t at (ended (text "skip") 32) u p → Wrote u p (ended (decimal (get_or e 0 0)) 32) v q
    → Wrote v q (ended (decimal (get_or e 1 0)) 10) x r → Wrote t at (skip_line e) x r
unfolding skip_line
skip_is e a b c = (next (text "skip") a (next (decimal (get_or e 0 0)) b (last (decimal (get_or e 1 0)) c))).wrote

-- ---- By its type

module _ (e : Entry) {kind : ℕ} (f : kind ≡ get_or e 0 0) where
  pub map_type : kind ≡ 128 → extended_line e ≡ map_line e
  unfolding extended_line
  map_type h = rw (← f, eq-eqb _ _ h)

  pub tree_type : (kind ≡ 128 → ⊥) → kind ≡ 129 → extended_line e ≡ tree_line e
  unfolding extended_line
  tree_type a h = rw (← f, ne_eqb _ _ a, eq-eqb _ _ h)

  pub mod_type : (kind ≡ 128 → ⊥) → (kind ≡ 129 → ⊥) → kind ≡ 130 → extended_line e ≡ mod_line e
  unfolding extended_line
  mod_type a b h = rw (← f, ne_eqb _ _ a, ne_eqb _ _ b, eq-eqb _ _ h)

  pub skip_type : (kind ≡ 128 → ⊥) → (kind ≡ 129 → ⊥) → (kind ≡ 130 → ⊥) → extended_line e ≡ skip_line e
  unfolding extended_line
  skip_type a b h = rw (← f, ne_eqb _ _ a, ne_eqb _ _ b, ne_eqb _ _ h)
