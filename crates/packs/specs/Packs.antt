-- Numbers packed into one by their widths in bits, the first lowest; and taken out again.
use Rattle.std.specs.Prelude.{ℕ, ◌+◌, ◌*◌, ◌/◌, ◌%◌, ◌^◌, ◌<◌, ◌≤◌, List, [], ◌∷◌}

-- A number has the bits of its width and no more; one that is not there is 0.
unfoldable pub packed : List ℕ → List ℕ → ℕ
packed [] xs = 0
packed (w ∷ ws) [] = 0
packed (w ∷ ws) (x ∷ xs) = x % 2 ^ w + 2 ^ w * packed ws xs

-- As many numbers as widths.
unfoldable pub taken : List ℕ → ℕ → List ℕ
taken [] n = []
taken (w ∷ ws) n = n % 2 ^ w ∷ taken ws (n / 2 ^ w)

-- ---- What the laws speak of

-- There is a width for every number, and none is too wide for it.
abbrev pub Fit : List ℕ → List ℕ → Type 0
Fit ws [] = 0 ≤ 0
Fit [] (x ∷ xs) = ⊥
Fit (w ∷ ws) (x ∷ xs) = (x < 2 ^ w) × Fit ws xs

-- The numbers, and a 0 for each width that is left.
abbrev pub padded : List ℕ → List ℕ → List ℕ
padded [] xs = []
padded (w ∷ ws) [] = 0 ∷ padded ws []
padded (w ∷ ws) (x ∷ xs) = x ∷ padded ws xs
