-- How a line comes from its words. Assumes nothing.
use Prim.Native.Nat.{ℕ, ◌+◌, ◌-◌, ◌≤◌, ◌<◌}
use mathlib.Core.Bool.{Bool, true, false}
use mathlib.Core.Path.{◌≡◌, ap, sym, ◌∙◌}
use mathlib.Core.List.{List, [], ◌∷◌, ◌++◌, append_assoc}
use native.Mathlib.Omega.{arith}
use lib.ListN.{length, take, drop, length-append}
use lib.Seq.{sets, take-append_seam}
use lib.Dec.{leb}
use borrow.Author.Tests.{leb-true, le-leb, lt-leb}
use Rattle.mps.specs.Listing.{decimal, hex, line}
use Rattle.laws.proofs.Tests.{same_test}
use Rattle.laws.proofs.Stores.{sets_append, sets_at_start}
use Rattle.text.specs.Text.{ended}
use Rattle.text.proofs.Laws.{length_ended, length_decimal_most, length_hex}
use Rattle.lines.specs.Wrote.{Wrote}

-- ---- One word

-- A word behind its place: what its store and its length give.
pub behind :
    {t w u : List ℕ} {r : ℕ} (at n : ℕ) → r ≡ length w → u ≡ sets t at w → length w ≤ n → Wrote t at w u (at + r) × (at + r ≤ at + n)
behind at n e f h = (record { place = ap (λ (k : ℕ). at + k) e; text = f }, omega arith)

pub decimal_short : (n end : ℕ) → length (ended (decimal n) end) ≤ 6
decimal_short n end = omega (arith, length_ended (decimal n) end, length_decimal_most n)

pub hex_short : (k n end : ℕ) → length (ended (hex k n) end) ≤ k + 1
hex_short k n end = omega (arith, length_ended (hex k n) end, length_hex k n)

-- ---- Words to a line

-- One text after another.
pub then : {t v u w x : List ℕ} {at r q : ℕ} → Wrote t at v u r → Wrote u r w x q → Wrote t at (v ++ w) x q
then {t} {v} {u} {w} {x} {at} {r} {q} a b =
    record { place = omega (arith, length-append v w, a.place, b.place); text = b.text ∙ rw (a.text, a.place, sets_append t at v w) }

-- A line and the words that it is made of.
pub record Line (t : List ℕ) (at : ℕ) (w : List ℕ) (ws : List (List ℕ)) (u : List ℕ) (r : ℕ) : Type 0 where
  pub wrote : Wrote t at (line w ws) u r

-- Its last word, and a word before others.
pub last : {t u : List ℕ} {at r : ℕ} (w : List ℕ) → Wrote t at (ended w 10) u r → Line t at w [] u r
unfolding ended line
last w a = record { wrote = a }

joint : (w n : List ℕ) (ws : List (List ℕ)) → ended w 32 ++ line n ws ≡ line w (n ∷ ws)
unfolding ended line
joint w n ws = append_assoc w (32 ∷ []) (line n ws)

pub next :
    {t u x n : List ℕ} {at r q : ℕ} {ws : List (List ℕ)} (w : List ℕ)
    → Wrote t at (ended w 32) u r → Line u r n ws x q → Line t at w (n ∷ ws) x q
next {t} {u} {x} {n} {at} {r} {q} {ws} w a b = record { wrote = rw (← joint w n ws) (then a b.wrote) }

-- ---- The whole line

-- Whether there is room for it.
pub has_fits : {r : Bool} (n : ℕ) (t : List ℕ) (at : ℕ) → r ≡ leb (at + n) (length t) → r ≡ true → at + n ≤ length t
has_fits n t at e h = leb-true (at + n) (length t) (sym e ∙ h)

-- A line that was made in a buffer.
buffer_holds : (z w : List ℕ) → length w ≤ length z → take (length w) (sets z 0 w) ≡ w
buffer_holds z w h = rw (sets_at_start z w h) (take-append_seam w (drop (length w) z))

pub buffered :
    {z w b u : List ℕ} {n r : ℕ} (t : List ℕ) (at : ℕ) → n ≤ length z → Wrote z 0 w b n → r ≡ n → u ≡ sets t at (take n b)
    → (r ≡ length w) × (u ≡ sets t at w)
buffered {z} {w} {b} {u} {n} t at h a e f =
    let k : n ≡ length w = omega (arith, a.place) in
    let g : take n b ≡ w = rw (k, a.text) (buffer_holds z w (omega arith)) in
    (e ∙ k, f ∙ ap (sets t at) g)

-- ---- Whether n bytes have room

-- Whether it has, from the room's length less n.
pub has_room : (at n l : ℕ) → n ≤ l → leb at (l - n) ≡ leb (at + n) l
has_room at n l h =
    same_test (leb at (l - n)) (leb (at + n) l)
    (λ e. let k = leb-true at (l - n) e in le-leb (at + n) l (omega arith))
    (λ e. let k = leb-true (at + n) l e in le-leb at (l - n) (omega arith))

pub has_none : (at n l : ℕ) → l < n → false ≡ leb (at + n) l
has_none at n l h = sym (lt-leb (at + n) l (omega arith))
