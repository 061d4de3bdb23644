-- Writing on, in a loop: what is written so far, and what is left to write. Assumes nothing.
use Prim.Native.Nat.{ℕ, ◌+◌}
use mathlib.Core.Path.{◌≡◌, refl, ap, sym, ◌∙◌}
use mathlib.Core.List.{List, [], ◌++◌}
use native.Mathlib.Omega.{arith}
use lib.ListN.{length, length-append}
use lib.Seq.{sets, length-sets}
use Rattle.laws.proofs.Stores.{sets_append}

-- With `rest` written from `place` on, `out` is what `t` is with `w` written from `at` on, and ends at the same place.
pub record Writes (t : List ℕ) (at : ℕ) (w out : List ℕ) (place : ℕ) (rest : List ℕ) : Type 0 where
  pub whole : sets out place rest ≡ sets t at w
  pub end : place + length rest ≡ at + length w
  pub room : length out ≡ length t

pub writes_first : (t : List ℕ) (at : ℕ) (w : List ℕ) → Writes t at w t at w
writes_first t at w = record { whole = refl; end = refl; room = refl }

module _ {t w out rest : List ℕ} {at place : ℕ} (inv : Writes t at w out place rest) where
  -- Nothing is left.
  pub writes_done : rest ≡ [] → (place ≡ at + length w) × (out ≡ sets t at w)
  writes_done e = (omega (arith, inv.end, ap length e), rw e at inv.whole)

  -- What is written now, and what is left then.
  pub writes_next :
      (now later : List ℕ) → rest ≡ now ++ later
      → {u : List ℕ} {q : ℕ} → q ≡ place + length now → u ≡ sets out place now → Writes t at w u q later
  writes_next now later e f g = record {
    whole = rw (f, g) (sym (sets_append out place now later) ∙ rw e at inv.whole);
    end = omega (arith, f, inv.end, ap length e, length-append now later);
    room = rw g (length-sets out place now ∙ inv.room);
  }
