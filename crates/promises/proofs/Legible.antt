-- What a listing shows can be read again: a number from its digits, a name without its padding, the value of any field
-- that is readable; and lines of such fields can be told apart. Assumes nothing.
use Prim.Native.Nat.{ℕ, zero, suc, ◌+◌, ◌-◌, ◌*◌, ◌/◌, ◌%◌, ◌^◌, ◌<◌, ◌≤◌}
use mathlib.Core.Path.{◌≡◌, refl, sym, ap, ◌∙◌}
use mathlib.Core.Bool.{Bool, true, false, not, ◌&&◌, false≢true, true≢false}
use mathlib.Core.List.{List, [], ◌∷◌, ◌++◌, append_assoc}
use native.Mathlib.Omega.{arith}
use native.Mathlib.Nat.{pow-zero, pow-suc, div-lt_iff_lt-mul, div-add-mod', mod-lt}
use native.Mathlib.Numerals.{add-one}
use lib.ListN.{length, get_or, replicate, length-append}
use lib.Dec.{ltb}
use borrow.Author.Tests.{ltb-true, ltb-false, lt-ltb, le-ltb, ne_eqb, eq-eqb, eqb-true, not-true}
use Rattle.mps.specs.Words.{text, flag, keep, same, any, every, none, each, joined}
use Rattle.mps.specs.Buses.{bus_names, is_bus_name}
use Rattle.mps.specs.Listing.{digits, decimal_digit, hex_digit, decimal_width, decimal, hex, line, unpadded}
use Rattle.laws.proofs.Tests.{whether, either, and_parts}
use Rattle.laws.proofs.Lists.{every_append}
use Rattle.slices.proofs.Laws.{same_true}
use Rattle.text.proofs.Laws.{length_digits, width_is}
use Rattle.promises.specs.Shown.{value, decimal_value, hex_value, padded, place_of, on_first, pieces, read_lines}
use Rattle.promises.specs.Shown.{Field, word, choice, number, address, name, shown, Again, fits, visible}
use Rattle.promises.specs.Shown.{readable, AllReadable, shown_lines, line_of, states, ranks, kinds}

-- ---- Digits

module _ (b : ℕ) (g : ℕ → ℕ) where
  value_append : (w : List ℕ) (c : ℕ) → value b g (w ++ (c ∷ [])) ≡ value b g w * b + g c
  unfolding value
  value_append [] c = rw pow-zero (omega arith)
  value_append (x ∷ w) c = rw (value_append w c, length-append w (c ∷ []), add-one, pow-suc) (omega arith)

-- Digits stand for the number that they show, where it has no more of them.
module _ (b : ℕ) (f g : ℕ → ℕ) (some : 0 < b) (back : (d : ℕ) → d < b → g (f d) ≡ d) where
  digits_shows : (k n : ℕ) → n < b ^ k → value b g (digits b f k n) ≡ n
  unfolding digits value
  digits_shows zero n h = let one = rw pow-zero at h in omega arith
  digits_shows (suc k) n h =
      let rest = digits_shows k (n / b) ((div-lt_iff_lt-mul some).1 (rw pow-suc at h)) in
      value_append b g (digits b f k (n / b)) (f (n % b)) ∙ rw (rest, back (n % b) (mod-lt n some)) (div-add-mod' n b)

width_holds : (n : ℕ) → n < 100000 → n < 10 ^ decimal_width n
unfolding decimal_width
width_holds n h =
    whether (ltb n 10) (λ a. rw a (ltb-true n 10 a)) (λ a.
    whether (ltb n 100) (λ b. rw (a, b) (ltb-true n 100 b)) (λ b.
    whether (ltb n 1000) (λ c. rw (a, b, c) (ltb-true n 1000 c)) (λ c.
    whether (ltb n 10000) (λ e. rw (a, b, c, e) (ltb-true n 10000 e)) (λ e. rw (a, b, c, e) h))))

pub decimal_shows : (n : ℕ) → n < 100000 → value 10 decimal_value (decimal n) ≡ n
unfolding decimal decimal_digit decimal_value
decimal_shows n h =
    digits_shows 10 decimal_digit decimal_value (omega arith) (λ d k. omega arith) (decimal_width n) n (width_holds n h)

hex_digit_lem : (d : ℕ) → d < 16 → hex_value (hex_digit d) ≡ d
unfolding hex_digit hex_value
hex_digit_lem d h =
    whether (ltb d 10)
    (λ e. let k = ltb-true d 10 e in rw (e, lt-ltb (48 + d) 65 (omega arith)) (omega arith))
    (λ e. let k = ltb-false d 10 e in rw (e, le-ltb (55 + d) 65 (omega arith)) (omega arith))

pub hex_shows : (k n : ℕ) → n < 16 ^ k → value 16 hex_value (hex k n) ≡ n
unfolding hex
hex_shows k n h = digits_shows 16 hex_digit hex_value (omega arith) hex_digit_lem k n h

-- ---- Names

-- What holds of each name of a list holds of one that is the same as one of them.
named :
    (p : List ℕ → Bool) (n : List ℕ) (names : List (List ℕ))
    → any (same n) names ≡ true → every p names ≡ true → p n ≡ true
unfolding any every
named p n [] a f = absurd (false≢true a)
named p n (m ∷ names) a f =
    let q = and_parts (p m) (every p names) f in
    either (same n m) (any (same n) names) a (λ h. rw (same_true n m h) q.0) (λ h. named p n names h q.1)

pub name_shows : (n : List ℕ) → is_bus_name n ≡ true → n ≡ unpadded n ++ replicate (6 - length (unpadded n)) 0x20
unfolding is_bus_name bus_names any every text same unpadded keep
name_shows n h =
    let rest : List ℕ → List ℕ = λ (m : List ℕ). unpadded m ++ replicate (6 - length (unpadded m)) 0x20 in
    same_true n (rest n) (named (λ m. same m (rest m)) n bus_names h refl)

-- ---- A field

pub field_again : (f : Field) → readable f ≡ true → Again f
unfolding readable fits shown padded
field_again (word w) e = refl
field_again (choice ws k) e = eqb-true _ k (and_parts (visible (get_or ws k [])) _ e).1
field_again (number n) e =
    let k = ltb-true n 65536 (and_parts (visible (decimal n)) _ e).1 in
    decimal_shows n (omega arith)
field_again (address k n) e = hex_shows k n (ltb-true n (16 ^ k) (and_parts (visible (hex k n)) _ e).1)
field_again (name n) e = sym (name_shows n (and_parts (visible (unpadded n)) _ e).1)

again_at : (fs : List Field) (j : ℕ) → every readable fs ≡ true → Again (get_or fs j (word []))
unfolding every shown
again_at [] j e = refl
again_at (f ∷ fs) zero e = field_again f (and_parts (readable f) (every readable fs) e).0
again_at (f ∷ fs) (suc j) e = again_at fs j (and_parts (readable f) (every readable fs) e).1

-- Field j of line i.
pub lines_again : (ls : List (List Field)) (i j : ℕ) → AllReadable ls → Again (get_or (get_or ls i []) j (word []))
unfolding every shown
lines_again [] i j e = refl
lines_again (fs ∷ ls) zero j e = again_at fs j (and_parts (every readable fs) _ e).0
lines_again (fs ∷ ls) (suc i) j e = lines_again ls i j (and_parts (every readable fs) _ e).1

-- ---- Words that are visible

some_byte : (w : List ℕ) → 0 < length w → none w ≡ false
some_byte [] h = absurd (omega arith)
some_byte (x ∷ w) h = refl

module _ (b : ℕ) (f : ℕ → ℕ) (high : (d : ℕ) → 32 < f d) where
  digits_high : (k n : ℕ) → every (λ c. ltb 32 c) (digits b f k n) ≡ true
  unfolding digits every
  digits_high zero n = refl
  digits_high (suc k) n =
      every_append (λ c. ltb 32 c) (digits b f k (n / b)) (f (n % b) ∷ [])
      ∙ rw (digits_high k (n / b), lt-ltb 32 (f (n % b)) (high (n % b)))

  digits_visible : (k n : ℕ) → 0 < k → visible (digits b f k n) ≡ true
  unfolding visible
  digits_visible k n p = rw (some_byte (digits b f k n) (omega (arith, length_digits b f k n)), digits_high k n)

pub word_readable : (w : List ℕ) → visible w ≡ true → readable (word w) ≡ true
unfolding readable shown fits
word_readable w e = rw e

width_some : (n : ℕ) → 0 < decimal_width n
width_some n = omega (arith, width_is n)

pub number_readable : (n : ℕ) → n < 65536 → readable (number n) ≡ true
unfolding readable shown fits decimal decimal_digit
number_readable n h =
    let seen = digits_visible 10 decimal_digit (λ d. omega arith) (decimal_width n) n (width_some n) in
    rw (seen, lt-ltb n 65536 h)

hex_high : (d : ℕ) → 32 < hex_digit d
unfolding hex_digit
hex_high d = whether (ltb d 10) (λ t. rw t (omega arith)) (λ f. rw f (omega arith))

pub address_readable : (k n : ℕ) → 0 < k → n < 16 ^ k → readable (address k n) ≡ true
unfolding readable shown fits hex
address_readable k n p h = rw (digits_visible 16 hex_digit hex_high k n p, lt-ltb n (16 ^ k) h)

pub name_readable : (n : List ℕ) → is_bus_name n ≡ true → readable (name n) ≡ true
unfolding readable shown fits is_bus_name bus_names any every text same unpadded keep visible
name_readable n h = rw h (named (λ m. visible (unpadded m) && true) n bus_names h refl)

pub state_readable : (b : Bool) → readable (choice states (flag b)) ≡ true
unfolding readable shown fits states visible every place_of same text
state_readable true = refl
state_readable false = refl

pub rank_readable : (b : Bool) → readable (choice ranks (flag b)) ≡ true
unfolding readable shown fits ranks visible every place_of same text
rank_readable true = refl
rank_readable false = refl

pub kind_readable : (n : ℕ) → n ≤ 3 → readable (choice kinds n) ≡ true
unfolding readable shown fits kinds visible every place_of same text
kind_readable zero h = refl
kind_readable (suc zero) h = refl
kind_readable (suc (suc zero)) h = refl
kind_readable (suc (suc (suc zero))) h = refl
kind_readable (suc (suc (suc (suc n)))) h = absurd (omega arith)

-- ---- Lines and words told apart

module _ (c : ℕ) where
  above : List ℕ → Bool
  above w = every (λ x. ltb c x) w

  piece_more : (x : ℕ) (s : List ℕ) → c < x → pieces c (x ∷ s) ≡ on_first x (pieces c s)
  unfolding pieces
  piece_more x s h = rw (ne_eqb x c (λ e. omega arith))

  -- A piece and the byte behind it, and a piece behind which nothing stands.
  piece_ended : (w s : List ℕ) → above w ≡ true → pieces c (w ++ (c ∷ s)) ≡ w ∷ pieces c s
  unfolding pieces above every on_first
  piece_ended [] s h = rw (eq-eqb c c refl)
  piece_ended (x ∷ w) s h =
      let q = and_parts (ltb c x) (above w) h in
      piece_more x (w ++ (c ∷ s)) (ltb-true c x q.0) ∙ rw (piece_ended w s q.1)

  piece_last : (x : ℕ) (w : List ℕ) → above (x ∷ w) ≡ true → pieces c (x ∷ w) ≡ (x ∷ w) ∷ []
  unfolding pieces above every on_first
  piece_last x [] h = piece_more x [] (ltb-true c x (and_parts (ltb c x) true h).0)
  piece_last x (y ∷ w) h =
      let q = and_parts (ltb c x) (above (y ∷ w)) h in
      piece_more x (y ∷ w) (ltb-true c x q.0) ∙ rw (piece_last y w q.1)

-- Words with a space between them.
spaced : List (List ℕ) → List ℕ
spaced [] = []
spaced (w ∷ []) = w
spaced (w ∷ v ∷ ws) = w ++ (32 ∷ spaced (v ∷ ws))

line_spaced : (w : List ℕ) (ws : List (List ℕ)) (s : List ℕ) → line w ws ++ s ≡ spaced (w ∷ ws) ++ (10 ∷ s)
unfolding line spaced
line_spaced w [] s = append_assoc w (10 ∷ []) s
line_spaced w (v ∷ ws) s =
    append_assoc w (32 ∷ line v ws) s
    ∙ rw (line_spaced v ws s) (sym (append_assoc w (32 ∷ spaced (v ∷ ws)) (10 ∷ s)))

-- A visible word has no space and no line's end.
visible_above : (c : ℕ) (w : List ℕ) → c ≤ 32 → every (λ x. ltb 32 x) w ≡ true → above c w ≡ true
unfolding above every
visible_above c [] h e = refl
visible_above c (x ∷ w) h e =
    let q = and_parts (ltb 32 x) _ e in
    let k = ltb-true 32 x q.0 in
    rw (lt-ltb c x (omega arith)) (visible_above c w h q.1)

visible_parts : (w : List ℕ) (ws : List (List ℕ)) → every visible (w ∷ ws) ≡ true
    → (none w ≡ false) × (every (λ x. ltb 32 x) w ≡ true) × (every visible ws ≡ true)
unfolding every visible
visible_parts w ws e =
    let q = and_parts (visible w) (every visible ws) e in
    let r = and_parts (not (none w)) (every (λ x. ltb 32 x) w) q.0 in
    (not-true (none w) r.0, r.1, q.1)

spaced_above : (ws : List (List ℕ)) → every visible ws ≡ true → above 10 (spaced ws) ≡ true
unfolding spaced above every
spaced_above [] e = refl
spaced_above (w ∷ []) e = visible_above 10 w (omega arith) (visible_parts w [] e).1
spaced_above (w ∷ v ∷ ws) e =
    let q = visible_parts w (v ∷ ws) e in
    every_append (λ x. ltb 10 x) w (32 ∷ spaced (v ∷ ws))
    ∙ rw (visible_above 10 w (omega arith) q.1) (spaced_above (v ∷ ws) q.2)

words_apart : (ws : List (List ℕ)) → every visible ws ≡ true → pieces 32 (spaced ws) ≡ ws
unfolding spaced pieces
words_apart [] e = refl
words_apart ([] ∷ []) e = absurd (true≢false (visible_parts [] [] e).0)
words_apart ((x ∷ w) ∷ []) e = piece_last 32 x w (visible_above 32 (x ∷ w) (omega arith) (visible_parts (x ∷ w) [] e).1)
words_apart (w ∷ v ∷ ws) e =
    let q = visible_parts w (v ∷ ws) e in
    piece_ended 32 w (spaced (v ∷ ws)) (visible_above 32 w (omega arith) q.1) ∙ rw (words_apart (v ∷ ws) q.2)

shown_visible : (fs : List Field) → every readable fs ≡ true → every visible (each shown fs) ≡ true
unfolding every each readable
shown_visible [] e = refl
shown_visible (f ∷ fs) e =
    let q = and_parts (readable f) (every readable fs) e in
    rw ((and_parts (visible (shown f)) (fits f) q.0).0, shown_visible fs q.1)

line_apart :
    (fs : List Field) (s : List ℕ) → every readable fs ≡ true
    → pieces 10 (line_of fs ++ s) ≡ spaced (each shown fs) ∷ pieces 10 s
unfolding line_of each spaced pieces
line_apart [] s e = refl
line_apart (f ∷ fs) s e =
    ap (pieces 10) (line_spaced (shown f) (each shown fs) s)
    ∙ piece_ended 10 (spaced (each shown (f ∷ fs))) s (spaced_above (each shown (f ∷ fs)) (shown_visible (f ∷ fs) e))

-- Lines of fields that can be read again are cut into the words that show them.
pub lines_apart : (ls : List (List Field)) → AllReadable ls → read_lines (joined line_of ls) ≡ shown_lines ls
unfolding read_lines each joined pieces every
lines_apart [] e = refl
lines_apart (fs ∷ ls) e =
    let q = and_parts (every readable fs) _ e in
    let words = words_apart (each shown fs) (shown_visible fs q.0) in
    rw (line_apart fs (joined line_of ls) q.0, words, lines_apart ls q.1)
