-- What is packed comes out as it went in. Assumes nothing.
use Prim.Native.Nat.{ℕ, ◌+◌, ◌*◌, ◌/◌, ◌%◌, ◌^◌, ◌<◌}
use mathlib.Core.Path.{◌≡◌, refl, ◌∙◌}
use mathlib.Core.List.{List, [], ◌∷◌}
use native.Mathlib.Nat.{add-mul-div_left, add-mul-mod_self_left, mod-eq_of_lt, div-eq_of_lt, zero-add}
use lib.Pow.{pow_pos}
use Rattle.packs.specs.Packs.{packed, taken, padded, Fit}

low : (w x r : ℕ) → x < 2 ^ w → (x + 2 ^ w * r) % 2 ^ w ≡ x
low w x r h = add-mul-mod_self_left x (2 ^ w) r ∙ mod-eq_of_lt h

high : (w x r : ℕ) → x < 2 ^ w → (x + 2 ^ w * r) / 2 ^ w ≡ r
high w x r h = add-mul-div_left x r (pow_pos w) ∙ rw (div-eq_of_lt h) (zero-add r)

-- Of nothing, zeros.
taken_none : (ws : List ℕ) → taken ws 0 ≡ padded ws []
unfolding taken
taken_none [] = refl
taken_none (w ∷ ws) = rw (mod-eq_of_lt (pow_pos w), div-eq_of_lt (pow_pos w), taken_none ws)

-- Nothing is lost.
pub taken_packed : (ws xs : List ℕ) → Fit ws xs → taken ws (packed ws xs) ≡ padded ws xs
unfolding taken packed
taken_packed [] [] f = refl
taken_packed [] (x ∷ xs) f = absurd f
taken_packed (w ∷ ws) [] f = taken_none (w ∷ ws)
taken_packed (w ∷ ws) (x ∷ xs) f =
    rw (mod-eq_of_lt f.0, low w x (packed ws xs) f.0, high w x (packed ws xs) f.0, taken_packed ws xs f.1)
