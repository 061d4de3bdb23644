-- What the calls answer, and what they leave. Assumes nothing.
use Prim.Native.Nat.{ℕ, ◌+◌, ◌≤◌, ◌<◌}
use mathlib.Core.Path.{◌≡◌, refl, ap, sym, ◌∙◌}
use mathlib.Core.Bool.{true, false}
use mathlib.Core.List.{List, [], ◌∷◌, ◌++◌, append_assoc}
use native.Mathlib.Omega.{arith}
use lib.ListN.{length, length-append}
use lib.Dec.{leb}
use lib.Seq.{sets}
use borrow.Author.Tests.{ne_eqb}
use Rattle.mps.specs.Words.{text, part, joined, among, each, any}
use Rattle.mps.specs.Sums.{total}
use Rattle.mps.specs.Refusals.{Rule, room_number}
use Rattle.mps.specs.Rooms.{too_small, room_rules, lent_refusal, fitted, fitted_bytes, fit_left}
use Rattle.mps.specs.Layout.{base_length, extended_length, entry_count, base_entries, extended_entries}
use Rattle.mps.specs.Layout.{feature1}
use Rattle.mps.specs.Pointer.{pointer_bytes, is_default, imcr_of}
use Rattle.mps.specs.Judge.{pointer_rules, table_rules, dump_rules, dump_refusal, held}
use Rattle.mps.specs.Listing.{decimal, decimal_width, hex}
use Rattle.mps.specs.Listing.{base_line, extended_line, pointer_line, table_line, end_line, default_line, refused_line, table_lines, listing}
use Rattle.mps.specs.Listing.{list_refusal, listed, list_left, program_output, printed, print_left}
use Rattle.std.specs.Prelude.{Result, Ok, Err}
use Rattle.mps.specs.Reasons.{number_of_refusal, refusal_numbered}
use Rattle.mps.specs.declared.Held.{Held}
use Rattle.mps.specs.declared.refusals.Refusal.{Refusal}
use Rattle.mps.specs.declared.refusals.Refusal.TheVariants.{RoomTooSmall}
use Rattle.laws.proofs.Answers.{answered_err, given_ok, given_err, Known, known_rows, number_numbered}
use Rattle.laws.proofs.Tests.{whether}
use Rattle.laws.proofs.Refusals.{number, refusal_none, refusal_below}
use Rattle.laws.proofs.Lent.{lent_early, lent_none, lent_19, lent_before, left_kept, fit_put, fit_short, fit_late}
use Rattle.dump.proofs.Laws.{Pointed}
use Rattle.laws.proofs.Stores.{sets_past}
use Rattle.text.proofs.Laws.{length_decimal, length_hex, length_line}
use Rattle.lines.specs.Wrote.{Wrote}
use Rattle.lines.proofs.Laws.{then}
use Rattle.listing.specs.Texts.{table_text, frame_length, entries_text}

-- ---- What was read

-- What is matched is what the reader answered.
pub told : (d : List ℕ) {x : Result Held Refusal} {h k : Held} → x ≡ held d → x ≡ Ok h → h ≡ k → held d ≡ Ok k
told d e i q = sym e ∙ i ∙ ap Ok q

-- ---- A room and an answer

-- In no room nothing is stored.
nothing : (v w : List ℕ) → v ≡ sets [] 0 w → v ≡ []
nothing v w e = e ∙ sets_past [] 0 w (omega arith)

-- Whether it fits is learnt by making the answer in no room.
module _ (w room v : List ℕ) {n : ℕ} (m : v ≡ sets [] 0 w) (e : n ≡ length w) where
  pub too_long : length (v ++ room) < n → (Err RoomTooSmall ≡ fitted_bytes w room) × (v ++ room ≡ fit_left w room)
  too_long h = let z = rw (nothing v w m) at h in rw (nothing v w m) (fit_short w (length w) room (omega arith))

  pub it_fits : (u : List ℕ) → n ≤ length (v ++ room) → u ≡ sets (v ++ room) 0 w → (Ok n ≡ fitted_bytes w room) × (u ≡ fit_left w room)
  it_fits u h k =
      let z = rw (nothing v w m) at h in
      fit_put w (length w) room e (omega arith) (rw (nothing v w m) at k)

-- ---- The listing of a table from its parts

pub text_is :
    (pointer imcr address : ℕ) (t : List ℕ)
    → let head = table_line address (base_length t) (extended_length t) (entry_count t) in
    pointer_line pointer imcr ++ (head ++ (entries_text t ++ end_line)) ≡ table_text pointer imcr address t
unfolding table_text table_lines entries_text
text_is pointer imcr address t =
    rw (append_assoc (joined base_line (base_entries t)) (joined extended_line (extended_entries t)) end_line)

pub table_is :
    {o u v x y : List ℕ} {a b c d : ℕ} (pointer imcr address : ℕ) (t : List ℕ) {base extended count : ℕ}
    → base ≡ base_length t → extended ≡ extended_length t → count ≡ entry_count t
    → Wrote o 0 (pointer_line pointer imcr) u a → Wrote u a (table_line address base extended count) v b
    → Wrote v b (entries_text t) x c → Wrote x c end_line y d
    → (d ≡ length (table_text pointer imcr address t)) × (y ≡ sets o 0 (table_text pointer imcr address t))
table_is pointer imcr address t i j k l m n p =
    let w = rw (i, j, k, text_is pointer imcr address t) at (then l (then m (then n p))) in
    (omega (arith, w.place), w.text)

-- ---- How long it is

pub frame_is :
    (pointer imcr address base extended count : ℕ) {a b c d : ℕ} → a ≡ decimal_width base → b ≡ decimal_width extended
    → c ≡ decimal_width imcr → d ≡ decimal_width count
    → 45 + c + (a + b) + d ≡ frame_length pointer imcr address base extended count
unfolding frame_length pointer_line table_line end_line text total each
frame_is pointer imcr address base extended count e f g h =
    omega (
      arith,
      length_line (text "pointer") (hex 8 pointer ∷ text "imcr" ∷ decimal imcr ∷ []),
      length_line (text "table") (hex 8 address ∷ decimal base ∷ decimal extended ∷ decimal count ∷ []),
      length_line (text "end") [],
      length_hex 8 pointer,
      length_hex 8 address,
      length_decimal imcr,
      length_decimal base,
      length_decimal extended,
      length_decimal count,
    )

pub table_width_lem :
    (pointer imcr address : ℕ) (t : List ℕ) {base extended count f n : ℕ}
    → base ≡ base_length t → extended ≡ extended_length t → count ≡ entry_count t
    → f ≡ frame_length pointer imcr address base extended count → n ≡ length (entries_text t)
    → f + n ≡ length (table_text pointer imcr address t)
unfolding frame_length
table_width_lem pointer imcr address t i j k l m =
    let p = pointer_line pointer imcr in
    let h = table_line address (base_length t) (extended_length t) (entry_count t) in
    let x = entries_text t in
    let f = rw (i, j, k) at l in
    omega (
      arith,
      ap length (text_is pointer imcr address t),
      length-append p (h ++ (x ++ end_line)),
      length-append h (x ++ end_line),
      length-append x end_line,
      f,
    )

-- ---- The dump's number and the room's

-- No rule of a dump gives 0, and none gives 19 or more.
pub dump_given : (d : List ℕ) → (among 0 (each number (dump_rules d)) ≡ false) × (any (λ (r : Rule). leb 19 (number r)) (dump_rules d) ≡ false)
unfolding dump_rules pointer_rules table_rules among each any
dump_given d = whether (is_default d) (λ t. rw t (refl, refl)) (λ f. rw f (refl, refl))

never_19 : (d : List ℕ) → among room_number (each number (dump_rules d)) ≡ false
unfolding dump_rules pointer_rules table_rules among each
never_19 d = whether (is_default d) (λ t. rw t refl) (λ f. rw f refl)

pub dump_below : (d : List ℕ) → dump_refusal d < 19
unfolding dump_refusal
dump_below d = refusal_below 19 (dump_rules d) (omega arith) (dump_given d).1

module _ (d room : List ℕ) where
  pub list_none : list_refusal d room ≡ 0 → dump_refusal d ≡ 0
  unfolding list_refusal dump_refusal
  list_none e = (lent_none (dump_rules d) (dump_given d).0 _ e).0

  early : {n : ℕ} → dump_refusal d ≡ n → 0 < n → list_refusal d room ≡ n
  unfolding list_refusal dump_refusal
  early e p = lent_early (dump_rules d) (dump_given d).0 _ e (λ z. omega arith)

  pub list_refused :
      {r : Refusal} → (dump_refusal d ≡ 0 → ⊥) → r ≡ refusal_numbered (dump_refusal d) → (Err r ≡ listed d room) × (room ≡ list_left d room)
  unfolding listed list_left
  list_refused z q =
      let n = dump_refusal d in
      let k = early refl (omega (arith, z)) in
      (rw k (answered_err n _ z q), rw k (sym (left_kept n _ room z)))

  -- The number is one that a refusal has.
  list_known : Known (list_refusal d room)
  unfolding list_refusal lent_refusal room_rules dump_rules pointer_rules table_rules any among each
  list_known =
      known_rows (room_rules (dump_rules d) (too_small (length (listing d)) room))
      (whether (is_default d) (λ t. rw t refl) (λ f. rw f refl))

  list_number : {r : Refusal} → Err r ≡ listed d room → (list_refusal d room ≡ 0 → ⊥) × (number_of_refusal r ≡ list_refusal d room)
  unfolding listed
  list_number e =
      let g = given_err (list_refusal d room) _ e in
      (g.0, rw g.1 (number_numbered (list_refusal d room) g.0 list_known))

-- An accepted dump's listing goes into the room as any answer does.
module _ (d room : List ℕ) (e : dump_refusal d ≡ 0) where
  list_fits : (fitted_bytes (listing d) room ≡ listed d room) × (fit_left (listing d) room ≡ list_left d room)
  unfolding fitted fit_left listed list_left list_refusal dump_refusal
  list_fits = let k = fit_late (dump_rules d) (dump_given d).0 (listing d) room e in (rw k, rw k)

  pub list_written :
      {r : Result ℕ Refusal} {u w : List ℕ} → w ≡ listing d → (r ≡ fitted_bytes w room) × (u ≡ fit_left w room)
      → (r ≡ listed d room) × (u ≡ list_left d room)
  list_written {r} {u} {w} q h = (rw q at h.0 ∙ list_fits.0, rw q at h.1 ∙ list_fits.1)

-- What an accepted dump's listing is.
pub default_text : (d : List ℕ) {n b : ℕ} → is_default d ≡ true → n ≡ feature1 (pointer_bytes d) → b ≡ imcr_of d → default_line n b ≡ listing d
unfolding listing
default_text d t e f = rw (t, e, f)

pub table_text_lem : (d : List ℕ) {p b a s e : ℕ} → Pointed d p b a s e → table_text p b a (part s e d) ≡ listing d
unfolding listing table_text
table_text_lem d h = rw (h.table, h.place, h.bit, h.address, h.bytes)

-- ---- What the program writes

module _ (d room : List ℕ) where
  -- Of an accepted dump it writes what the listing is, or 19;
  print_accepted : dump_refusal d ≡ 0 → (listed d room ≡ printed d room) × (list_left d room ≡ print_left d room)
  unfolding program_output printed print_left
  print_accepted e =
      let o : program_output d ≡ listing d = rw e in
      (rw o (sym (list_fits d room e).0), rw o (sym (list_fits d room e).1))

  -- of any other the one line.
  print_line : (n : ℕ) → dump_refusal d ≡ n → 0 < n → program_output d ≡ refused_line n
  unfolding program_output
  print_line n e p = rw (e, ne_eqb n 0 (λ q. omega arith))

  pub print_count : {u : List ℕ} {n : ℕ} → Ok n ≡ listed d room → u ≡ list_left d room → (Ok n ≡ printed d room) × (u ≡ print_left d room)
  unfolding listed
  print_count e w =
      let h = print_accepted (list_none d room (given_ok _ _ e).0) in
      (e ∙ h.0, w ∙ h.1)

  -- 19 is the room's, so that the dump is accepted; any other number is the dump's.
  pub print_room :
      {u : List ℕ} → Err RoomTooSmall ≡ listed d room → u ≡ list_left d room → (Err RoomTooSmall ≡ printed d room) × (u ≡ print_left d room)
  unfolding list_refusal dump_refusal
  print_room e w =
      let k = (lent_19 (dump_rules d) (too_small (length (listing d)) room) (never_19 d)).0 (sym (list_number d room e).1) in
      let h = print_accepted ((refusal_none (dump_rules d) (dump_given d).0).1 k.0) in
      (e ∙ h.0, w ∙ h.1)

  pub print_refusal :
      {a : Result ℕ Refusal} {r : Refusal} {u v : List ℕ} → Err r ≡ listed d room → (r ≡ RoomTooSmall → ⊥) → v ≡ list_left d room
      → let w = refused_line (number_of_refusal r) in
      (a ≡ fitted_bytes w v) × (u ≡ fit_left w v) → (a ≡ printed d room) × (u ≡ print_left d room)
  unfolding listed list_refusal dump_refusal printed print_left refusal_numbered
  print_refusal {r = r} e f w h =
      let g = list_number d room e in
      let n = number_of_refusal r in
      let some : 0 < n = omega (arith, g) in
      let other : n ≡ 19 → ⊥ = λ q. f ((given_err (list_refusal d room) _ e).1 ∙ ap refusal_numbered (sym g.1 ∙ q)) in
      let q = (lent_before (dump_rules d) _ (dump_given d).0 n some (ne_eqb n 19 other)).0 (sym g.1) in
      let same = w ∙ sym (list_refused d room (λ z. omega (arith, q, z, some)) refl).1 in
      let o = print_line n q some in
      (rw (same, ← o) at h.0, rw (same, ← o) at h.1)
