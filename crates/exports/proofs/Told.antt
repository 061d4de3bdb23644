-- Nothing is lost on the way to C: of every answer that a call can give, what C takes out of its code are the numbers that
-- mps's specs/Answers.antt has for it: the refusal's, the inner one, each value. Assumes nothing.
use Prim.Native.Nat.{ℕ, zero, suc, ◌+◌, ◌-◌, ◌/◌, ◌^◌, ◌≤◌, ◌<◌}
use mathlib.Core.Path.{◌≡◌, refl, sym, ◌∙◌, ap}
use mathlib.Core.Bool.{false}
use mathlib.Core.List.{List, [], ◌∷◌, ◌++◌}
use native.Mathlib.Omega.{arith}
use lib.ListN.{length, length-append}
use lib.Dec.{eqb, leb}
use Rattle.packs.specs.Packs.{packed, padded, Fit}
use Rattle.packs.proofs.Laws.{taken_packed}
use Rattle.mps.specs.Words.{among, any, part, first, head, below}
use Rattle.mps.specs.Refusals.{Rule, refusal, inner_number}
use Rattle.mps.specs.Rooms.{room_rules, lent_refusal}
use Rattle.mps.specs.Layout.{base_length, extended_end, base_entries, book_most}
use Rattle.std.specs.Prelude.{Result, Ok, Err}
use Rattle.mps.specs.Reasons.{number_of_refusal, refusal_numbered}
use Rattle.mps.specs.Answers.{answered, numbers_of, judged_numbers, held_numbers, lent_numbers, parted_numbers, renumbered_numbers}
use Rattle.mps.specs.Answers.{seen_values, seen_numbers, links_in, links_of, edited_numbers, found_numbers, found_of}
use Rattle.mps.specs.Answers.{booked_numbers, latest_numbers, body_numbers}
use Rattle.mps.specs.declared.refusals.Refusal.{Refusal}
use Rattle.mps.specs.declared.refusals.EditRefusal.{EditRefusal}
use Rattle.mps.specs.declared.refusals.EditRefusal.TheVariants.{Refused, Inner}
use Rattle.mps.specs.Pointer.{is_default}
use Rattle.mps.specs.Judge.{table_rules, table_refusal, pointer_rules, dump_rules, dump_refusal, judged, held}
use Rattle.mps.specs.Listing.{listing, list_refusal, listed}
use Rattle.mps.specs.Defaults.{default_table, make_refusal, made, full_listing, full_rules, full_refusal, full_listed}
use Rattle.mps.specs.Writing.{Parts, image, image_size, part_rules, early_refusal, write_refusal, written, parted}
use Rattle.mps.specs.Edits.{Edit, edited_table, inner_refusal, edit_rules, edit_refusal, edited}
use Rattle.mps.specs.Reader.{size_at, found}
use Rattle.mps.specs.Routes.{Question, pair_size, routes_of, line_rules, route_refusal, routed}
use Rattle.mps.specs.Slots.{Slot, slot_routes_of, slot_rules, slot_refusal, slot_routed, slot_size, slots_of, slots_refusal, slots_listed}
use Rattle.mps.specs.Renumber.{new_numbers_of, used_numbers, bits_set, renumber_rules, renumber_refusal, renumbered}
use Rattle.mps.specs.Addresses.{seen_by, address_rules, seen}
use Rattle.mps.specs.Book.{Row, layout1, latest, body_rules, bodies_at, book_of, rows_of}
use Rattle.mps.specs.History.{book_rules, book_refusal, booked, latest_told, edition_rules, edition_refusal, body_told}
use Rattle.mps.specs.History.{history_refusal, history_told}
use Rattle.mps.specs.Saving.{new_row, grown_book, addition_rules, grown, Ask, save, restore, addition, ask_rules, add_refusal, added}
use Rattle.mps.specs.declared.Held.{Held}
use Rattle.mps.specs.declared.Held.TheVariants.{Default, Table}
use Rattle.mps.specs.declared.Seen.{Seen}
use Rattle.mps.specs.declared.Seen.TheVariants.{No, Yes, Undeclared}
use Rattle.laws.proofs.Answers.{refusal_small}
use Rattle.laws.proofs.Tests.{whether}
use Rattle.laws.proofs.Refusals.{number, first_none, refusal_below}
use Rattle.laws.proofs.Lists.{keep_most}
use Rattle.laws.proofs.Rising.{length_rising}
use Rattle.laws.proofs.Parts.{length_part}
use Rattle.laws.proofs.Small.{Bytes}
use Rattle.numbers.proofs.Laws.{le_below}
use Rattle.accepted.proofs.Sound.{sound}
use Rattle.accepted.proofs.Numbering.{new_most}
use Rattle.pages.proofs.Bytes.{readable1, length_book, length_rows}
use Rattle.pages.proofs.Editions.{latest_below, held_tells}
use Rattle.pages.proofs.Again.{rows_fit}
use Rattle.pages.proofs.Good.{book_most_lem}
use Rattle.pages.proofs.Answered.{book_answered, edition_answered, add_first, addition_answered, not_full}
use Rattle.judge.proofs.Laws.{behind_room}
use Rattle.dump.proofs.Laws.{held_number, held_table}
use Rattle.dump.proofs.Narrow.{default_narrow, table_narrow}
use Rattle.listing.proofs.Longest.{list_most}
use Rattle.listing.proofs.Defaults.{full_none, full_most}
use Rattle.defaults.proofs.Calls.{make_most}
use Rattle.writer.proofs.Most.{written_most}
use Rattle.routes.proofs.Most.{routes_most, slot_most}
use Rattle.slots.proofs.Laws.{slots_most_lem}
use Rattle.addresses.proofs.Links.{links_most}
use Rattle.reader.proofs.Laws.{size_most}
use Rattle.exports.specs.Codes.{count_row, pair_row, seen_row, held_row, addresses_row, edited_row, coded}
use Rattle.exports.specs.Codes.{judged_code, lent_code, found_code, parted_code, renumbered_code, seen_code, edited_code, held_code, addresses_code}
use Rattle.exports.specs.Codes.{booked_code, latest_code, body_code}
use Rattle.exports.specs.Codes.{refusal_in, values_in, answered as read_back, numbers_in, edited_from, edited_in, held_from, held_in}

-- ---- Of any code

module _ (row values : List ℕ) (n : ℕ) (h : n < 2 ^ 8) where
  refusal_in_lem : refusal_in (coded row (n ∷ values)) ≡ n
  unfolding packed
  refusal_in_lem = omega arith

  values_in_lem : values_in (coded row (n ∷ values)) ≡ packed row values
  unfolding packed
  values_in_lem = omega arith

  told : Fit row values → numbers_in row (coded row (n ∷ values)) ≡ read_back n (padded row values)
  unfolding numbers_in
  told f = rw (refusal_in_lem, values_in_lem, taken_packed row values f)

-- A code whose low byte is not 0 is a refusal's.
pub refused_in : (row numbers : List ℕ) → (refusal_in (coded row numbers) ≡ 0 → ⊥) → head 0 numbers ≡ 0 → ⊥
refused_in row [] h z = h refl
refused_in row (n ∷ values) h z = h (rw z (refusal_in_lem row values 0 (omega arith)))

-- A refusal has its number alone, whatever the row.
refused : (row : List ℕ) (r : Refusal) → numbers_in row (coded row (number_of_refusal r ∷ [])) ≡ number_of_refusal r ∷ []
refused row r = cases (number_of_refusal r) (refusal_small r)
  where
    cases : (n : ℕ) → (0 < n) × (n < 256) × (eqb n inner_number ≡ false) → numbers_in row (coded row (n ∷ [])) ≡ n ∷ []
    cases zero h = absurd (omega (arith, h))
    cases (suc n) h = told row [] (suc n) (omega (arith, h)) (omega arith)

answer : (row values : List ℕ) → Fit row values → numbers_in row (coded row (0 ∷ values)) ≡ 0 ∷ padded row values
answer row values f = told row values 0 (omega arith) f

-- An answer has its values, which are as wide as their row where nothing is refused.
answer_told : {A : Type 0} (row : List ℕ) (values : A → List ℕ) (n : ℕ) (a : A) → padded row (values a) ≡ values a → (n ≡ 0 → Fit row (values a))
    → numbers_in row (coded row (numbers_of values (answered n a))) ≡ numbers_of values (answered n a)
answer_told row values zero a p f = answer row (values a) (f refl) ∙ rw p
answer_told row values (suc n) a p f = refused row (refusal_numbered (suc n))

-- ---- The judge

pub judge_told : (t : List ℕ) → numbers_in [] (judged_code (judged t)) ≡ judged_numbers (judged t)
unfolding judged judged_code
judge_told t = answer_told [] (λ _. []) (table_refusal t) tt refl (λ e. omega arith)

-- ---- The calls that are lent a room

lent_told : (n count : ℕ) → (n ≡ 0 → count < 2 ^ 48) → numbers_in count_row (lent_code (answered n count)) ≡ lent_numbers (answered n count)
unfolding lent_code
lent_told n count f = answer_told count_row (λ c. c ∷ []) n count refl (λ e. (f e, omega arith))

pub list_told : (d room : List ℕ) → numbers_in count_row (lent_code (listed d room)) ≡ lent_numbers (listed d room)
unfolding listed
list_told d room =
    lent_told (list_refusal d room) (length (listing d)) (λ e. omega (arith, list_most d room e))

pub full_told : (d : List ℕ) (boot : ℕ) (room : List ℕ) → numbers_in count_row (lent_code (full_listed d boot room)) ≡ lent_numbers (full_listed d boot room)
unfolding full_listed
full_told d boot room =
    lent_told (full_refusal d boot room) (length (full_listing d boot))
    (λ e. let n = full_none d boot room e in omega (arith, full_most d boot n.0 n.1))

pub make_told : (n boot : ℕ) (room : List ℕ) → numbers_in count_row (lent_code (made n boot room)) ≡ lent_numbers (made n boot room)
unfolding made
make_told n boot room =
    lent_told (make_refusal n boot room) (length (default_table n boot))
    (λ e. omega (arith, make_most n boot room e))

pub write_told : (p : Parts) (room : List ℕ) → numbers_in count_row (lent_code (written p room)) ≡ lent_numbers (written p room)
unfolding written
write_told p room = lent_told (write_refusal p room) (image_size p) (λ e. omega (arith, written_most p room e))

-- From here on it is said of bytes, which is what a call is lent, where a value is as wide as the bytes that it is read from.
pub routes_told : (q : Question) (t room : List ℕ) → Bytes t → numbers_in count_row (lent_code (routed q t room)) ≡ lent_numbers (routed q t room)
unfolding routed
routes_told q t room b =
    lent_told (route_refusal q t room) (length (routes_of q t) / pair_size)
    (λ e. omega (arith, routes_most q t room b e))

pub slot_told : (s : Slot) (t room : List ℕ) → Bytes t → numbers_in count_row (lent_code (slot_routed s t room)) ≡ lent_numbers (slot_routed s t room)
unfolding slot_routed
slot_told s t room b =
    lent_told (slot_refusal s t room) (length (slot_routes_of s t) / pair_size)
    (λ e. omega (arith, slot_most s t room b e))

pub slots_told : (t room : List ℕ) → numbers_in count_row (lent_code (slots_listed t room)) ≡ lent_numbers (slots_listed t room)
unfolding slots_listed
slots_told t room =
    lent_told (slots_refusal t room) (length (slots_of t) / slot_size) (λ e. omega (arith, slots_most_lem t))

-- ---- The entry at a place

found_told : (n : ℕ) → n < 2 ^ 8 → numbers_in count_row (found_code (found_of n)) ≡ found_numbers (found_of n)
unfolding found_code
found_told zero h = answer count_row (0 ∷ []) (omega arith, omega arith)
found_told (suc n) h = answer count_row (suc n ∷ []) (omega arith, omega arith)

pub entry_told : (t : List ℕ) (place : ℕ) → Bytes t → numbers_in count_row (found_code (found t place)) ≡ found_numbers (found t place)
unfolding found
entry_told t place b = found_told (size_at t place) (size_most t place b)

-- ---- Where the parts of a table stand

parted_told : (n base end : ℕ) → (n ≡ 0 → Fit pair_row (base ∷ end ∷ []))
    → numbers_in pair_row (parted_code (answered n (record { base = base; end = end }))) ≡ parted_numbers (answered n (record { base = base; end = end }))
unfolding parted_code
parted_told n base end f = answer_told pair_row (λ x. x.base ∷ x.end ∷ []) n (record { base = base; end = end }) refl f

pub parts_told : (t : List ℕ) → numbers_in pair_row (parted_code (parted t)) ≡ parted_numbers (parted t)
unfolding parted
parts_told t =
    parted_told (table_refusal t) (base_length t) (extended_end t)
    (λ e. let s = sound t e in (omega (arith, s.most), (omega (arith, s.most, s.extended_most), omega arith)))

-- ---- The new numbers

renumbered_told : (n count used : ℕ) → (n ≡ 0 → Fit pair_row (count ∷ used ∷ []))
    → numbers_in pair_row (renumbered_code (answered n (record { count = count; used = used }))) ≡ renumbered_numbers (answered n (record { count = count; used = used }))
unfolding renumbered_code
renumbered_told n count used f = answer_told pair_row (λ x. x.count ∷ x.used ∷ []) n (record { count = count; used = used }) refl f

-- An answer is of an accepted table.
renumber_accepted : (t room : List ℕ) → renumber_refusal t room ≡ 0 → table_refusal t ≡ 0
unfolding renumber_refusal renumber_rules
renumber_accepted t room e = (first_none (table_refusal t) _ (sym (behind_room t _ _) ∙ e)).0

-- A set of 256 bits has no more.
bits_most : (used : List ℕ) → bits_set used ≤ 256
unfolding bits_set
bits_most used = omega (arith, keep_most (λ (n : ℕ). among n used) (below 256), length_rising 256 0)

pub renumber_told : (t room : List ℕ) → Bytes t → numbers_in pair_row (renumbered_code (renumbered t room)) ≡ renumbered_numbers (renumbered t room)
unfolding renumbered
renumber_told t room b =
    renumbered_told (renumber_refusal t room) (length (new_numbers_of t)) (bits_set (used_numbers (base_entries t)))
    (λ e. (omega (arith, new_most t (renumber_accepted t room e) b), (omega (arith, bits_most (used_numbers (base_entries t))), omega arith)))

-- ---- The book of earlier tables

booked_told : (n rows size : ℕ) → (n ≡ 0 → Fit pair_row (rows ∷ size ∷ []))
    → numbers_in pair_row (booked_code (answered n (record { rows = rows; size = size }))) ≡ booked_numbers (answered n (record { rows = rows; size = size }))
unfolding booked_code
booked_told n rows size f = answer_told pair_row (λ x. x.rows ∷ x.size ∷ []) n (record { rows = rows; size = size }) refl f

-- Where a book is within its bytes, its rows are not more.
book_fit : (rows : List Row) → length (book_of layout1 rows) ≤ book_most → Fit pair_row (length rows ∷ length (book_of layout1 rows) ∷ [])
unfolding bodies_at
book_fit rows h = (omega (arith, h, length_book layout1 rows), (omega (arith, h), omega arith))

pub book_told : (s : List ℕ) → numbers_in pair_row (booked_code (booked layout1 s)) ≡ booked_numbers (booked layout1 s)
unfolding booked
book_told s =
    booked_told (book_refusal layout1 s) (length (rows_of layout1 s)) (length (book_of layout1 (rows_of layout1 s)))
    (λ e. book_fit (rows_of layout1 s) (book_most_lem layout1 s ((book_answered layout1 s).0 e)))

latest_told_of : (n edition : ℕ) → edition < 2 ^ 48
    → numbers_in count_row (latest_code (answered n edition)) ≡ latest_numbers (answered n edition)
unfolding latest_code
latest_told_of n edition f = answer_told count_row (λ e. e ∷ []) n edition refl (λ e. (f, omega arith))

pub latest_told_lem : (s : List ℕ) (machine : ℕ) → Bytes s
    → numbers_in count_row (latest_code (latest_told layout1 s machine)) ≡ latest_numbers (latest_told layout1 s machine)
unfolding latest_told
latest_told_lem s machine b =
    latest_told_of (book_refusal layout1 s) (latest machine (rows_of layout1 s))
    (omega (arith, latest_below machine (rows_of layout1 s) (rows_fit layout1 s b)))

body_told_of : (n size start : ℕ) → (n ≡ 0 → Fit pair_row (size ∷ start ∷ []))
    → numbers_in pair_row (body_code (answered n (record { size = size; start = start }))) ≡ body_numbers (answered n (record { size = size; start = start }))
unfolding body_code
body_told_of n size start f = answer_told pair_row (λ x. x.size ∷ x.start ∷ []) n (record { size = size; start = start }) refl f

pub body_told_lem : (s : List ℕ) (machine edition : ℕ)
    → numbers_in pair_row (body_code (body_told layout1 s machine edition)) ≡ body_numbers (body_told layout1 s machine edition)
unfolding body_told
body_told_lem s machine edition =
    body_told_of (edition_refusal layout1 s machine edition) _ _
    (λ e.
    let g = (edition_answered layout1 s machine edition).0 e in
    let t = held_tells layout1 machine edition s readable1 g.0 g.1 in
    let m = book_most_lem layout1 s g.0 in
    (omega (arith, t.begins, t.size, t.ends, m), (omega (arith, t.begins, t.size, t.ends, m), omega arith)))

pub history_told_lem : (s room : List ℕ) → Bytes s
    → numbers_in count_row (lent_code (history_told layout1 s room)) ≡ lent_numbers (history_told layout1 s room)
unfolding history_told
history_told_lem s room b =
    lent_told (history_refusal layout1 s room) (length (rows_of layout1 s))
    (λ e. omega (arith, length_rows layout1 s, le_below 2 s 1 b))

-- What is added fits.
added_most : (s : List ℕ) (ask : Ask) → add_refusal layout1 s ask ≡ 0 → length (grown_book layout1 s (addition layout1 s ask)) ≤ book_most
added_most s ask e =
    let a = addition layout1 s ask in
    let p = first_none (refusal (ask_rules layout1 s ask)) _ (sym (add_first layout1 s ask) ∙ e) in
    (not_full layout1 s a (addition_answered layout1 s a p.1).1).0

pub add_told : (s : List ℕ) (ask : Ask) → numbers_in pair_row (booked_code (added layout1 s ask)) ≡ booked_numbers (added layout1 s ask)
unfolding added grown grown_book
add_told s ask =
    booked_told (add_refusal layout1 s ask) _ _ (λ e. grown-fit (added_most s ask e))
  where
    grown-fit : length (grown_book layout1 s (addition layout1 s ask)) ≤ book_most
        → Fit pair_row ((length (rows_of layout1 s) + 1) ∷ length (grown_book layout1 s (addition layout1 s ask)) ∷ [])
    grown-fit h = rw (length-append (rows_of layout1 s) (new_row (addition layout1 s ask) ∷ [])) at (book_fit (rows_of layout1 s ++ (new_row (addition layout1 s ask) ∷ [])) h)

-- ---- What a bus sees: a climb refuses nothing

seen_fit : (r : Seen) → links_in r < 2 ^ 40 → Fit seen_row (seen_values r)
seen_fit (No k) h = (omega arith, (h, omega arith))
seen_fit (Yes k) h = (omega arith, (h, omega arith))
seen_fit (Undeclared k) h = (omega arith, (h, omega arith))

seen_padded : (r : Seen) → padded seen_row (seen_values r) ≡ seen_values r
seen_padded (No k) = refl
seen_padded (Yes k) = refl
seen_padded (Undeclared k) = refl

pub address_told : (t : List ℕ) (bus kind address : ℕ) → Bytes t
    → numbers_in seen_row (seen_code (seen t bus kind address)) ≡ seen_numbers (seen t bus kind address)
unfolding seen seen_code
address_told t bus kind address b =
    let r = seen_by t bus kind address in
    answer_told seen_row seen_values (refusal (address_rules t bus kind)) r (seen_padded r)
    (λ e. seen_fit r (omega (arith, links_most t bus kind address b, ap (λ n. links_of (answered n r)) e)))

-- ---- What became of an edit

edited_in_lem : (numbers : List ℕ) → Fit edited_row numbers → edited_in (packed edited_row numbers) ≡ edited_from (padded edited_row numbers)
unfolding edited_in
edited_in_lem numbers f = rw (taken_packed edited_row numbers f)

edited_told : (r : Result (Unit {0}) EditRefusal) → edited_in (edited_code r) ≡ edited_numbers r
unfolding edited_code
edited_told (Ok u) = edited_in_lem (0 ∷ []) (omega arith, omega arith)
edited_told (Err (Refused r)) = cases (number_of_refusal r) (refusal_small r)
  where
    cases : (n : ℕ) → (0 < n) × (n < 256) × (eqb n inner_number ≡ false) → edited_in (packed edited_row (n ∷ [])) ≡ n ∷ []
    cases n h = rw h.2 at (edited_in_lem (n ∷ []) (h.1, omega arith))
edited_told (Err (Inner r)) = edited_in_lem (inner_number ∷ number_of_refusal r ∷ []) (omega arith, ((refusal_small r).1, omega arith))

pub edit_told : (t : List ℕ) (e : Edit) → edited_in (edited_code (edited t e)) ≡ edited_numbers (edited t e)
edit_told t e = edited_told (edited t e)

-- ---- What a dump holds: both codes together

module _ (n : ℕ) (places addresses : List ℕ) where
  held_told : n < 2 ^ 8 → Fit held_row places → Fit addresses_row addresses
      → held_in (coded held_row (n ∷ places)) (packed addresses_row addresses)
      ≡ read_back n (held_from (padded held_row places) (padded addresses_row addresses))
  unfolding held_in
  held_told h f g =
      rw (refusal_in_lem held_row places n h, values_in_lem held_row places n h, taken_packed held_row places f, taken_packed addresses_row addresses g)

pub read_told : (d : List ℕ) → Bytes d → held_in (held_code (held d)) (addresses_code (held d)) ≡ held_numbers (held d)
unfolding held_code addresses_code
read_told d small = cases (held d) refl
  where
    refusals : (n : ℕ) → (0 < n) × (n < 256) × (eqb n inner_number ≡ false) → held_in (coded held_row (n ∷ [])) (packed addresses_row []) ≡ n ∷ []
    refusals zero h = absurd (omega (arith, h))
    refusals (suc n) h = held_told (suc n) [] [] h.1 (omega arith) (omega arith)

    cases : (r : Result Held Refusal) → held d ≡ r → held_in (held_code r) (addresses_code r) ≡ held_numbers r
    cases (Ok (Default zero b)) q = absurd (omega (arith, (default_narrow d zero b q).0))
    cases (Ok (Default (suc n) b)) q =
        let k = default_narrow d (suc n) b q in
        held_told 0 (suc n ∷ b ∷ []) [] (omega arith) (omega (arith, k.1), (omega (arith, k.2), omega arith)) (omega arith)
    cases (Ok (Table p b a s e)) q =
        let k = table_narrow d p b a s e small q in
        let h = held_table d p b a s e q in
        let w = h.1 in
        let long = (sound (part s e d) (sym w.rules ∙ h.0)).long in
        let l = length_part s e d w.inside in
        let end : s + (e - s) ≡ e = omega (arith, w.order) in
        let start : s < 2 ^ 16 = omega (arith, long, l, w.order, w.inside, w.most) in
        let size : e - s < 2 ^ 16 = omega (arith, w.shorter, w.most) in
        rw end at (held_told 0 (0 ∷ b ∷ s ∷ (e - s) ∷ []) (a ∷ p ∷ []) (omega arith)
        (omega arith, (omega (arith, k.1), (start, (size, omega arith))))
        (k.2, (k.0, omega arith)))
    cases (Err r) q = refusals (number_of_refusal r) (refusal_small r)
