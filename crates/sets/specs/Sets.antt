-- Sets of numbers in words of 64 bits: number n is bit n % 64 of word n / 64. Four words have bits for 0 to 255; a number past
-- the last word is in no set.
use Rattle.std.specs.Prelude.{ℕ, zero, suc, ◌*◌, ◌/◌, ◌%◌, ◌^◌, Bool, not, ◌||◌, List, [], ◌∷◌, ◌++◌, eqb, length, get_or, set}
use Rattle.std.specs.Int.Bits.{bit_or}
use Rattle.mps.specs.Words.{bit, only, keep, head, below}

-- Whether a number is in a set.
unfoldable pub holds : List ℕ → ℕ → Bool
holds words n = bit (n % 64) (get_or words (n / 64) 0)

-- A set with one number more, where it has a bit for it.
unfoldable pub with_number : List ℕ → ℕ → List ℕ
with_number words n = set words (n / 64) (bit_or (get_or words (n / 64) 0) (2 ^ (n % 64)))

-- A set with every number of a list.
unfoldable pub put_all : List ℕ → List ℕ → List ℕ
put_all words [] = words
put_all words (n ∷ ns) = put_all (with_number words n) ns

-- How many numbers a set has bits for.
abbrev pub bits_of : List ℕ → ℕ
bits_of words = 64 * length words

-- The numbers in a set, rising.
unfoldable pub members : List ℕ → List ℕ
members words = keep (holds words) (below (bits_of words))

-- The lowest number that is in neither of two sets: where each that the first set has bits for is in one, the number behind
-- these.
unfoldable pub lowest_out : List ℕ → List ℕ → ℕ
lowest_out a b = head (bits_of a) (keep (λ (n : ℕ). not (holds a n || holds b n)) (below (bits_of a)))

-- The numbers of a word's bits that are set, its first d bits being numbered from n on.
unfoldable pub set_bits : ℕ → ℕ → ℕ → List ℕ
set_bits zero n word = []
set_bits (suc d) n word = only (eqb (word % 2) 1) (n ∷ []) ++ set_bits d (suc n) (word / 2)
