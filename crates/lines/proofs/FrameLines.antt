-- The lines around the entries and those that stand alone, from their words. Assumes nothing.
use Prim.Native.Nat.{ℕ}
use mathlib.Core.Path.{◌≡◌, refl}
use mathlib.Core.List.{List}
use Rattle.mps.specs.Words.{text}
use Rattle.mps.specs.Listing.{decimal, hex, line, pointer_line, table_line, end_line, default_line, refused_line}
use Rattle.text.specs.Text.{ended}
use Rattle.lines.specs.Wrote.{Wrote}
use Rattle.lines.proofs.Laws.{last, next}

pub end_is : ended (text "end") 10 ≡ end_line
unfolding ended line end_line
end_is = refl

pub refused_is :
    {t u v : List ℕ} {at p q : ℕ} (n : ℕ)
    → Wrote t at (ended (text "refused") 32) u p → Wrote u p (ended (decimal n) 10) v q → Wrote t at (refused_line n) v q
unfolding refused_line
refused_is n a b = (next (text "refused") a (last (decimal n) b)).wrote

-- A word, a number, the word "imcr" and its bit.
module _ {t u v x y : List ℕ} {at p q r s : ℕ} where
  pub pointer_is :
      (address b : ℕ)
      → Wrote t at (ended (text "pointer") 32) u p → Wrote u p (ended (hex 8 address) 32) v q → Wrote v q (ended (text "imcr") 32) x r
      → Wrote x r (ended (decimal b) 10) y s → Wrote t at (pointer_line address b) y s
  unfolding pointer_line
  pointer_is address b k l m n = (next (text "pointer") k (next (hex 8 address) l (next (text "imcr") m (last (decimal b) n)))).wrote

  pub default_is :
      (number b : ℕ)
      → Wrote t at (ended (text "default") 32) u p → Wrote u p (ended (decimal number) 32) v q → Wrote v q (ended (text "imcr") 32) x r
      → Wrote x r (ended (decimal b) 10) y s → Wrote t at (default_line number b) y s
  unfolding default_line
  default_is number b k l m n = (next (text "default") k (next (decimal number) l (next (text "imcr") m (last (decimal b) n)))).wrote

pub table_is :
    {t u v x y z : List ℕ} {at p q r s l : ℕ} (address base extended count : ℕ)
    → Wrote t at (ended (text "table") 32) u p → Wrote u p (ended (hex 8 address) 32) v q → Wrote v q (ended (decimal base) 32) x r
    → Wrote x r (ended (decimal extended) 32) y s → Wrote y s (ended (decimal count) 10) z l
    → Wrote t at (table_line address base extended count) z l
unfolding table_line
table_is address base extended count k l m n o =
    (next (text "table") k
    (next (hex 8 address) l (next (decimal base) m (next (decimal extended) n (last (decimal count) o))))).wrote
