-- The few words that the definitions are written in. None belongs to MPS; each means what its comment says.
use Rattle.std.specs.Prelude.{ℕ, zero, suc, pred, ◌-◌, ◌^◌, ◌/◌, ◌%◌, Bool, true, false, cond, ◌||◌, ◌&&◌, List, [], ◌∷◌, ◌++◌, length, get_or, take, drop, leb, eqb}
use Prim.Native.Char.{code}
use Prim.Native.String.{String, [] as nothing, ◌∷◌ as ◌then◌}

-- The byte at a place of a list, 0 past its end.
abbrev pub byte : List ℕ → ℕ → ℕ
byte s at = get_or s at 0

-- The bytes of a quoted text, in ASCII as MPS 4 codes its strings.
unfoldable pub text : String → List ℕ
text nothing = []
text (c then s) = code c ∷ text s

-- Whether bit k of a number is set, bit 0 the lowest.
unfoldable pub bit : ℕ → ℕ → Bool
bit k n = eqb (n / 2 ^ k % 2) 1

-- A bit as the number 0 or 1.
abbrev pub flag : Bool → ℕ
flag b = cond b 1 0

-- Whether two lists of bytes are the same.
unfoldable pub same : List ℕ → List ℕ → Bool
same [] [] = true
same [] (y ∷ ys) = false
same (x ∷ xs) [] = false
same (x ∷ xs) (y ∷ ys) = eqb x y && same xs ys

-- Whether a number is among those of a list.
unfoldable pub among : ℕ → List ℕ → Bool
among x [] = false
among x (y ∷ ys) = eqb x y || among x ys

-- Whether some number stands twice in a list.
unfoldable pub twice : List ℕ → Bool
twice [] = false
twice (x ∷ xs) = among x xs || twice xs

-- Whether a number lies between two, both counted.
abbrev pub within : ℕ → ℕ → ℕ → Bool
within low high n = leb low n && leb n high

-- The first number that is not 0, of two.
abbrev pub first : ℕ → ℕ → ℕ
first zero b = b
first (suc a) b = suc a

module _ {A : Type 0} where
  -- A list where a test holds, and nothing where it does not.
  abbrev pub only : Bool → List A → List A
  only true l = l
  only false l = []

  -- The elements of a list that pass a test, in their order.
  unfoldable pub keep : (A → Bool) → List A → List A
  keep p [] = []
  keep p (x ∷ xs) = only (p x) (x ∷ []) ++ keep p xs

  -- Whether some element passes a test.
  unfoldable pub any : (A → Bool) → List A → Bool
  any p [] = false
  any p (x ∷ xs) = p x || any p xs

  -- Whether every element passes a test.
  unfoldable pub every : (A → Bool) → List A → Bool
  every p [] = true
  every p (x ∷ xs) = p x && every p xs

  -- Whether a list is empty.
  abbrev pub none : List A → Bool
  none [] = true
  none (x ∷ xs) = false

  -- The first element of a list, or what is given where there is none.
  abbrev pub head : A → List A → A
  head d [] = d
  head d (x ∷ xs) = x

  -- The last element of a list, or what is given where there is none.
  unfoldable pub last : A → List A → A
  last d [] = d
  last d (x ∷ xs) = last x xs

module _ {A B : Type 0} where
  -- What a function makes of each element.
  unfoldable pub each : (A → B) → List A → List B
  each f [] = []
  each f (x ∷ xs) = f x ∷ each f xs

  -- The lists that a function makes of each element, one behind the other.
  unfoldable pub joined : (A → List B) → List A → List B
  joined f [] = []
  joined f (x ∷ xs) = f x ++ joined f xs

-- So many numbers from one on, rising.
unfoldable pub rising : ℕ → ℕ → List ℕ
rising zero k = []
rising (suc n) k = k ∷ rising n (suc k)

-- The numbers below one, rising.
abbrev pub below : ℕ → List ℕ
below n = rising n 0

-- The pieces of a list of bytes are `cut len 0 s`: the bytes from the first of a piece on tell its length, and the last
-- piece is what is left, where that is shorter. A piece of length 0 is empty and passes one byte. The number k is how
-- many bytes of a piece are still to be passed. In plain words (crate laws, cut-first): where the length is not 0, the
-- first piece, and then the pieces of what is left behind it.
unfoldable pub cut : (List ℕ → ℕ) → ℕ → List ℕ → List (List ℕ)
cut len k [] = []
cut len (suc k) (x ∷ xs) = cut len k xs
cut len zero (x ∷ xs) = take (len (x ∷ xs)) (x ∷ xs) ∷ cut len (pred (len (x ∷ xs))) xs

-- The part of a list from one place up to another, as `&s[from..to]` is; what of it lies past the end is not there, and
-- where `to` is not past `from` it is empty.
abbrev pub part : ℕ → ℕ → List ℕ → List ℕ
part from to s = take (to - from) (drop from s)

-- So many bytes of a list from its first on, 0 past its end.
unfoldable pub exactly : ℕ → List ℕ → List ℕ
exactly zero s = []
exactly (suc k) [] = 0 ∷ exactly k []
exactly (suc k) (x ∷ xs) = x ∷ exactly k xs

-- What a room holds once an answer stands at its first byte: "what lies past them stays".
abbrev pub put : List ℕ → List ℕ → List ℕ
put answer room = answer ++ drop (length answer) room
