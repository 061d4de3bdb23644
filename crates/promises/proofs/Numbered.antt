-- Demand 1, "Every public call takes any bytes and ends with an answer or a numbered refusal of document 01": of every call
-- the numbers that it may give; then those of the dump reader, the listing and the writer, given exactly when. That a call
-- ends at all is proved with its contract, which asks nothing of its caller. Assumes nothing.
use Prim.Native.Nat.{ℕ, suc, ◌/◌, ◌<◌, ◌^◌}
use mathlib.Core.Path.{◌≡◌, refl, sym, ◌∙◌}
use mathlib.Core.Bool.{Bool, true, false, not, ◌||◌, or-true, false≢true}
use mathlib.Core.List.{List, [], ◌∷◌, ◌++◌, append-nil, append_assoc}
use mathlib.Core.Logic.{◌↔◌}
use native.Mathlib.Omega.{arith}
use lib.ListN.{length, take, drop}
use lib.Dec.{eqb, ltb}
use borrow.Author.Tests.{eq-eqb, eqb-true, eqb-false, le-ltb}
use Rattle.mps.specs.Words.{text, same, among, any, each, only, first}
use Rattle.mps.specs.Refusals.{Rule, ◌when◌, refusal, room_number, default_number}
use Rattle.mps.specs.Answers.{number_of, judged_numbers, examined_numbers, held_numbers, lent_numbers, parted_numbers, seen_numbers, edited_numbers, renumbered_numbers}
use Rattle.mps.specs.Answers.{answered, edited_of}
use Rattle.mps.specs.Rooms.{too_small, room_rules, lent_refusal, room_refusal, fitted}
use Rattle.mps.specs.Layout.{known_revision, part_most, header_size, base_length, extended_end, base_bytes, base_entries}
use Rattle.mps.specs.Sums.{sum256}
use Rattle.mps.specs.Numbers.{bytes}
use Rattle.mps.specs.Pointer.{is_default, table_in}
use Rattle.mps.specs.Table.{header_cut, wrong_signature, wrong_base_length, wrong_base_sum, wrong_revision}
use Rattle.mps.specs.Judge.{table_rules, table_refusal, pointer_rules, dump_rules, dump_refusal, judged, examined, told, pointed, held}
use Rattle.mps.specs.Sections.{sections}
use Rattle.mps.specs.Listing.{listing, list_refusal, listed, program_output, printed}
use Rattle.mps.specs.Writing.{Parts, base_size, header, base_sum_of, extended_sum_of, image, image_size, part_rules, early_refusal, write_refusal, written, parted}
use Rattle.mps.specs.Defaults.{default_table, no_default, make_refusal, made, full_listing, wrong_boot, full_rules, full_refusal, full_listed}
use Rattle.mps.specs.Routes.{Question, pair_size, routes_of, line_rules, route_refusal, routed}
use Rattle.mps.specs.Slots.{Slot, slot_routes_of, slot_rules, slot_refusal, slot_routed, slot_size, slots_of, slots_refusal, slots_listed}
use Rattle.mps.specs.Renumber.{new_numbers_of, used_numbers, bits_set, renumber_rules, renumber_refusal, renumbered}
use Rattle.mps.specs.Addresses.{seen_by, address_rules, seen}
use Rattle.mps.specs.Edits.{Edit, edited_table, edit_rules, edit_refusal, edited, inner_refusal}
use Rattle.laws.proofs.Tests.{whether}
use Rattle.laws.proofs.Lists.{among_none, among_cases, among_more}
use Rattle.laws.proofs.Refusals.{number, so, first_some, first_none, refusal_append, refusal_passed, absent_only, given_exactly}
use Rattle.laws.proofs.Lent.{lent_19, lent_before}
use Rattle.laws.proofs.Answers.{Known, answered_number}
use Rattle.sums.proofs.Laws.{stored_append}
use Rattle.writer.proofs.Laws.{length_image}
use Rattle.writer.proofs.Most.{early_fits}
use Rattle.promises.specs.Numbered.{OneOf, table_numbers, pointer_numbers, edit_numbers, address_numbers, route_numbers, slot_numbers, slots_numbers, renumber_numbers, read_numbers, list_numbers, print_numbers, make_numbers, full_numbers, later_numbers, write_numbers}
use Rattle.promises.proofs.Given.{Exactly}
use Rattle.promises.proofs.Answered.{known, edited_number}
use Rattle.promises.proofs.Headers.{header_sum, image_front, image_base_length}

-- ---- The number of the first row that is so is a row's number, or 0

pub refusal_among : (rows : List Rule) → among (refusal rows) (0 ∷ each number rows) ≡ true
unfolding refusal among each
refusal_among [] = refl
refusal_among (n when true ∷ rows) = rw (eq-eqb n n refl, or-true)
refusal_among (n when false ∷ rows) = later (eqb (refusal rows) 0) (eqb (refusal rows) n) _ (refusal_among rows)
  where
    later : (a b c : Bool) → (a || c) ≡ true → (a || (b || c)) ≡ true
    later true b c e = refl
    later false true c e = refl
    later false false c e = e

-- The rows of a dump, with or without those of a table, and some behind them.
module _ (d : List ℕ) where
  dump_among :
      (b : Bool) (rows : List Rule)
      → among (refusal (pointer_rules d ++ (only b (table_rules (table_in d)) ++ rows))) (0 ∷ pointer_numbers ++ (table_numbers ++ each number rows))
      ≡ true
  unfolding pointer_rules table_rules each
  dump_among true rows = refusal_among (pointer_rules d ++ (table_rules (table_in d) ++ rows))
  dump_among false rows = among_more _ (0 ∷ pointer_numbers) table_numbers (each number rows) (refusal_among (pointer_rules d ++ rows))

-- ---- "ends with an answer or a numbered refusal of document 01"

pub one_of : {X : Type 0} {of : ℕ → X} {numbers : List ℕ} {x : X} (n : ℕ) → x ≡ of n → among n (0 ∷ numbers) ≡ true → OneOf of n numbers x
one_of n e h = record { made = e; known = h }

-- Of each call: its answer's number is the call's, which is that of the first row that is so; and it is 0 or one of those
-- that the paper has the call test.
module _ (t : List ℕ) where
  pub refusal_numbered : among (table_refusal t) (0 ∷ table_numbers) ≡ true
  unfolding table_refusal table_rules each
  refusal_numbered = refusal_among (table_rules t)

  pub judge_numbered : OneOf (λ n. answered n tt) (table_refusal t) table_numbers (judged t)
  unfolding judged
  judge_numbered = one_of (table_refusal t) refl refusal_numbered

  pub judge_number : number_of (judged_numbers (judged t)) ≡ table_refusal t
  unfolding judged any among each
  judge_number = answered_number _ (table_refusal t) _ (known (table_refusal t) table_numbers refl judge_numbered.known)

  pub examine_numbered : OneOf (λ n. answered n (sections t)) (table_refusal t) table_numbers (examined t)
  unfolding examined
  examine_numbered = one_of (table_refusal t) refl refusal_numbered

  pub examine_number : number_of (examined_numbers (examined t)) ≡ table_refusal t
  unfolding examined any among each
  examine_number = answered_number _ (table_refusal t) _ (known (table_refusal t) table_numbers refl examine_numbered.known)

  pub parts_numbered : OneOf (λ n. answered n (record { base = base_length t; end = extended_end t })) (table_refusal t) table_numbers (parted t)
  unfolding parted
  parts_numbered = one_of (table_refusal t) refl refusal_numbered

  pub parts_number : number_of (parted_numbers (parted t)) ≡ table_refusal t
  unfolding parted any among each
  parts_number = answered_number _ (table_refusal t) _ (known (table_refusal t) table_numbers refl parts_numbered.known)

  module _ (bus kind address : ℕ) where
    pub address_numbered : OneOf (λ n. answered n (seen_by t bus kind address)) (refusal (address_rules t bus kind)) address_numbers (seen t bus kind address)
    unfolding seen address_rules table_rules each
    address_numbered = one_of (refusal (address_rules t bus kind)) refl (refusal_among (address_rules t bus kind))

    pub address_number : number_of (seen_numbers (seen t bus kind address)) ≡ refusal (address_rules t bus kind)
    unfolding seen any among each
    address_number = answered_number _ (refusal (address_rules t bus kind)) _ (known (refusal (address_rules t bus kind)) address_numbers refl address_numbered.known)

  module _ (q : Question) (room : List ℕ) where
    pub routes_numbered : OneOf (λ n. answered n (length (routes_of q t) / pair_size)) (route_refusal q t room) route_numbers (routed q t room)
    unfolding routed route_refusal lent_refusal room_rules line_rules table_rules each
    routes_numbered = one_of (route_refusal q t room) refl (refusal_among (room_rules (line_rules q t) (too_small (length (routes_of q t)) room)))

    pub routes_number : number_of (lent_numbers (routed q t room)) ≡ route_refusal q t room
    unfolding routed any among each
    routes_number = answered_number _ (route_refusal q t room) _ (known (route_refusal q t room) route_numbers refl routes_numbered.known)

  module _ (s : Slot) (room : List ℕ) where
    pub slot_numbered : OneOf (λ n. answered n (length (slot_routes_of s t) / pair_size)) (slot_refusal s t room) slot_numbers (slot_routed s t room)
    unfolding slot_routed slot_refusal lent_refusal room_rules slot_rules table_rules each
    slot_numbered = one_of (slot_refusal s t room) refl (refusal_among (room_rules (slot_rules s t) (too_small (length (slot_routes_of s t)) room)))

    pub slot_number_lem : number_of (lent_numbers (slot_routed s t room)) ≡ slot_refusal s t room
    unfolding slot_routed any among each
    slot_number_lem = answered_number _ (slot_refusal s t room) _ (known (slot_refusal s t room) slot_numbers refl slot_numbered.known)

  module _ (room : List ℕ) where
    pub slots_numbered : OneOf (λ n. answered n (length (slots_of t) / slot_size)) (slots_refusal t room) slots_numbers (slots_listed t room)
    unfolding slots_listed slots_refusal lent_refusal room_rules table_rules each
    slots_numbered = one_of (slots_refusal t room) refl (refusal_among (room_rules (table_rules t) (too_small (length (slots_of t)) room)))

    pub slots_number : number_of (lent_numbers (slots_listed t room)) ≡ slots_refusal t room
    unfolding slots_listed any among each
    slots_number = answered_number _ (slots_refusal t room) _ (known (slots_refusal t room) slots_numbers refl slots_numbered.known)

    pub renumber_numbered :
        OneOf (λ n. answered n (record { count = length (new_numbers_of t); used = bits_set (used_numbers (base_entries t)) }))
        (renumber_refusal t room) renumber_numbers (renumbered t room)
    unfolding renumbered renumber_refusal renumber_rules room_rules table_rules each
    renumber_numbered = one_of (renumber_refusal t room) refl (refusal_among (renumber_rules t room))

    pub renumber_number : number_of (renumbered_numbers (renumbered t room)) ≡ renumber_refusal t room
    unfolding renumbered any among each
    renumber_number = answered_number _ (renumber_refusal t room) _ (known (renumber_refusal t room) renumber_numbers refl renumber_numbered.known)

  -- "A refusal returns its number alone, except 23": the inner number goes with it (Edits, inner-number).
  module _ (e : Edit) where
    pub edit_numbered : OneOf (λ n. edited_of n (inner_refusal t e)) (edit_refusal t e) edit_numbers (edited t e)
    unfolding edited edit_refusal edit_rules table_rules each
    edit_numbered = one_of (edit_refusal t e) refl (refusal_among (edit_rules t e))

    pub edit_number : number_of (edited_numbers (edited t e)) ≡ edit_refusal t e
    unfolding edited any among each
    edit_number = edited_number edit_numbers (edit_refusal t e) (inner_refusal t e) refl edit_numbered.known

module _ (d : List ℕ) where
  pub find_numbered : OneOf (λ n. answered n (told d)) (refusal (pointer_rules d)) pointer_numbers (pointed d)
  unfolding pointed pointer_rules each
  find_numbered = one_of (refusal (pointer_rules d)) refl (refusal_among (pointer_rules d))

  pub find_number : number_of (held_numbers (pointed d)) ≡ refusal (pointer_rules d)
  unfolding pointed any among each
  find_number = answered_number _ (refusal (pointer_rules d)) _ (known (refusal (pointer_rules d)) pointer_numbers refl find_numbered.known)

  read_among : among (dump_refusal d) (0 ∷ read_numbers) ≡ true
  unfolding dump_refusal dump_rules pointer_rules each
  read_among = rw (← append-nil (only (not (is_default d)) (table_rules (table_in d)))) (dump_among d (not (is_default d)) [])

  pub read_numbered : OneOf (λ n. answered n (told d)) (dump_refusal d) read_numbers (held d)
  unfolding held
  read_numbered = one_of (dump_refusal d) refl read_among

  pub read_number : number_of (held_numbers (held d)) ≡ dump_refusal d
  unfolding held any among each
  read_number = answered_number _ (dump_refusal d) _ (known (dump_refusal d) read_numbers refl read_numbered.known)

  module _ (room : List ℕ) where
    pub list_numbered : OneOf (λ n. answered n (length (listing d))) (list_refusal d room) list_numbers (listed d room)
    unfolding listed list_refusal lent_refusal room_rules dump_rules pointer_rules each
    list_numbered = one_of (list_refusal d room) refl (dump_among d (not (is_default d)) (room_number when too_small (length (listing d)) room ∷ []))

    pub list_number : number_of (lent_numbers (listed d room)) ≡ list_refusal d room
    unfolding listed any among each
    list_number = answered_number _ (list_refusal d room) _ (known (list_refusal d room) list_numbers refl list_numbered.known)

    pub print_numbered : OneOf (λ n. answered n (length (program_output d))) (room_refusal (program_output d) room) print_numbers (printed d room)
    unfolding printed fitted room_refusal lent_refusal room_rules each
    print_numbered = one_of (room_refusal (program_output d) room) refl (refusal_among (room_number when too_small (length (program_output d)) room ∷ []))

    pub print_number : number_of (lent_numbers (printed d room)) ≡ room_refusal (program_output d) room
    unfolding printed fitted any among each
    print_number = answered_number _ (room_refusal (program_output d) room) _ (known (room_refusal (program_output d) room) print_numbers refl print_numbered.known)

-- ---- The tables of the default configurations, and the full listing

module _ (n boot : ℕ) (room : List ℕ) where
  pub make_numbered : OneOf (λ k. answered k (length (default_table n boot))) (make_refusal n boot room) make_numbers (made n boot room)
  unfolding made make_refusal lent_refusal room_rules each
  make_numbered =
      one_of (make_refusal n boot room) refl
      (refusal_among (room_rules (default_number when no_default n boot ∷ []) (too_small (length (default_table n boot)) room)))

  pub make_number : number_of (lent_numbers (made n boot room)) ≡ make_refusal n boot room
  unfolding made any among each
  make_number = answered_number _ (make_refusal n boot room) _ (known (make_refusal n boot room) make_numbers refl make_numbered.known)

module _ (d : List ℕ) (boot : ℕ) (room : List ℕ) where
  full_among : among (full_refusal d boot room) (0 ∷ full_numbers) ≡ true
  unfolding full_refusal lent_refusal room_rules full_rules dump_rules pointer_rules each
  full_among =
      let wrong = default_number when wrong_boot d boot in
      let short = room_number when too_small (length (full_listing d boot)) room in
      rw (append_assoc (only (not (is_default d)) (table_rules (table_in d))) (wrong ∷ []) (short ∷ []))
      (dump_among d (not (is_default d)) (wrong ∷ short ∷ []))

  pub full_numbered : OneOf (λ k. answered k (length (full_listing d boot))) (full_refusal d boot room) full_numbers (full_listed d boot room)
  unfolding full_listed
  full_numbered = one_of (full_refusal d boot room) refl full_among

  pub full_number : number_of (lent_numbers (full_listed d boot room)) ≡ full_refusal d boot room
  unfolding full_listed any among each
  full_number = answered_number _ (full_refusal d boot room) _ (known (full_refusal d boot room) full_numbers refl full_numbered.known)

-- An image whose parts fit passes 5 to 9: its length, its signature, its base length, its sum and its revision are made so.
module _ (p : Parts) (room : List ℕ) (early : early_refusal p room ≡ 0) where
  low : base_size p < 256 ^ 2
  low = let f = (early_fits p room early).base in omega arith

  near : length p.extended < 256 ^ 2
  near = let f = (early_fits p room early).extended in omega arith

  image_sum : sum256 (base_bytes (image p)) ≡ 0
  unfolding base_sum_of
  image_sum =
      rw (image_base_length p low near, image_front p)
      (header_sum p (base_sum_of p) (extended_sum_of p) p.base ∙ stored_append (header p 0 (extended_sum_of p) ++ p.base) _ refl)

  image_long : header_cut (image p) ≡ false
  unfolding header_cut
  image_long = rw (length_image p) (le-ltb (image_size p) header_size (omega arith))

  image_signed : wrong_signature (image p) ≡ false
  unfolding wrong_signature image header text same
  image_signed = refl

  image_lengths : wrong_base_length (image p) ≡ false
  unfolding wrong_base_length
  image_lengths =
      let f = (early_fits p room early).base in
      rw (image_base_length p low near, length_image p, le-ltb (base_size p) header_size (omega arith), le-ltb part_most (base_size p) f)
      (le-ltb (image_size p) (base_size p) (omega arith))

  image_revised : wrong_revision (image p) ≡ false
  unfolding wrong_revision known_revision image header text bytes
  image_revised = refl

  image_passes : any so (take 5 (table_rules (image p))) ≡ false
  unfolding table_rules any wrong_base_sum
  image_passes = rw (image_long, image_signed, image_lengths, image_sum, image_revised)

  pub image_number : table_refusal (image p) ≡ refusal (drop 5 (table_rules (image p)))
  unfolding table_refusal table_rules
  image_number = refusal_passed (take 5 (table_rules (image p))) (drop 5 (table_rules (image p))) image_passes

module _ (p : Parts) (room : List ℕ) where
  early_among : among (early_refusal p room) (0 ∷ 7 ∷ 13 ∷ 19 ∷ []) ≡ true
  unfolding early_refusal lent_refusal room_rules part_rules each
  early_among = refusal_among (room_rules (part_rules p) (too_small (image_size p) room))

  write_among : among (write_refusal p room) (0 ∷ write_numbers) ≡ true
  unfolding write_refusal each table_rules
  write_among =
      whether (eqb (early_refusal p room) 0)
      (λ z.
      let none = eqb-true (early_refusal p room) 0 z in
      rw (none, image_number p room none) (among_more _ (0 ∷ []) (7 ∷ 13 ∷ 19 ∷ []) later_numbers (refusal_among (drop 5 (table_rules (image p))))))
      (λ z.
      rw (first_some (early_refusal p room) (table_refusal (image p)) (eqb-false (early_refusal p room) 0 z))
      (among_more _ (0 ∷ 7 ∷ 13 ∷ 19 ∷ []) later_numbers [] early_among))

  pub write_numbered : OneOf (λ n. answered n (image_size p)) (write_refusal p room) write_numbers (written p room)
  unfolding written
  write_numbered = one_of (write_refusal p room) refl write_among

  pub write_number : number_of (lent_numbers (written p room)) ≡ write_refusal p room
  unfolding written any among each
  write_number = answered_number _ (write_refusal p room) _ (known (write_refusal p room) write_numbers refl write_numbered.known)

-- ---- The numbers of the listing and the writer, given exactly when

module _ (d room : List ℕ) where
  -- 1 to 18: those of the dump, before all else.
  pub list_dump : (n : ℕ) → 0 < n → eqb n 19 ≡ false → (list_refusal d room ≡ n) ↔ (dump_refusal d ≡ n)
  unfolding list_refusal dump_refusal dump_rules pointer_rules table_rules among each
  list_dump n h k =
      lent_before (dump_rules d) (too_small (length (listing d)) room)
      (absent_only 0 (not (is_default d)) (table_rules (table_in d)) refl) n h k

  -- 19: "answer longer than the lent room"
  pub list_19 : Exactly (list_refusal d room) 19 (dump_rules d) (too_small (length (listing d)) room)
  unfolding list_refusal dump_rules pointer_rules table_rules among each
  list_19 =
      lent_19 (dump_rules d) (too_small (length (listing d)) room)
      (absent_only 19 (not (is_default d)) (table_rules (table_in d)) refl)

  pub print_19 : Exactly (room_refusal (program_output d) room) 19 [] (too_small (length (program_output d)) room)
  unfolding room_refusal among each
  print_19 = lent_19 [] (too_small (length (program_output d)) room) refl

module _ (p : Parts) (room : List ℕ) where
  pub write_7 : Exactly (early_refusal p room) 7 [] (ltb part_most (base_size p))
  unfolding early_refusal lent_refusal room_rules part_rules among each
  write_7 =
      given_exactly [] 7 (ltb part_most (base_size p))
      (13 when ltb part_most (length p.extended) ∷ 19 when too_small (image_size p) room ∷ []) (omega arith) refl refl

  pub write_13 : Exactly (early_refusal p room) 13 (take 1 (part_rules p)) (ltb part_most (length p.extended))
  unfolding early_refusal lent_refusal room_rules part_rules among each
  write_13 =
      given_exactly (take 1 (part_rules p)) 13 (ltb part_most (length p.extended))
      (19 when too_small (image_size p) room ∷ []) (omega arith) refl refl

  pub write_19 : Exactly (early_refusal p room) 19 (part_rules p) (too_small (image_size p) room)
  unfolding early_refusal part_rules among each
  write_19 = lent_19 (part_rules p) (too_small (image_size p) room) refl

  -- These come before the judge's, and where none of them is given the image's number is.
  pub write_early : (early_refusal p room ≡ 0 → ⊥) → write_refusal p room ≡ early_refusal p room
  unfolding write_refusal
  write_early z = first_some (early_refusal p room) (table_refusal (image p)) z

  pub write_judged : early_refusal p room ≡ 0 → write_refusal p room ≡ table_refusal (image p)
  unfolding write_refusal
  write_judged e = rw e

-- No number is both the pointer's and the table's.
not_both : (n : ℕ) → among n pointer_numbers ≡ true → among n (0 ∷ table_numbers) ≡ true → ⊥
unfolding among
not_both n p q =
    among_cases n 1 (2 ∷ 3 ∷ 4 ∷ []) p (λ e. false≢true (rw e at q)) (λ r.
    among_cases n 2 (3 ∷ 4 ∷ []) r (λ e. false≢true (rw e at q)) (λ s.
    among_cases n 3 (4 ∷ []) s (λ e. false≢true (rw e at q)) (λ t.
    among_cases n 4 [] t (λ e. false≢true (rw e at q)) (among_none n))))

-- The pointer's answer is the dump's, but that no table is judged yet: 1 to 4 are given by both.
module _ (d : List ℕ) where
  pointer_first : dump_refusal d ≡ first (refusal (pointer_rules d)) (refusal (only (not (is_default d)) (table_rules (table_in d))))
  unfolding dump_refusal dump_rules pointer_rules among each
  pointer_first = refusal_append (pointer_rules d) (only (not (is_default d)) (table_rules (table_in d))) refl

  rest_among : (b : Bool) → among (refusal (only b (table_rules (table_in d)))) (0 ∷ table_numbers) ≡ true
  unfolding table_rules each refusal among
  rest_among true = refusal_among (table_rules (table_in d))
  rest_among false = refl

  pub find_refused : (n : ℕ) → refusal (pointer_rules d) ≡ suc n → held d ≡ pointed d
  unfolding pointed held
  find_refused n e = let m : dump_refusal d ≡ suc n = pointer_first ∙ rw e in rw (m, e)

  pub find_accepted : dump_refusal d ≡ 0 → pointed d ≡ held d
  unfolding pointed held
  find_accepted z = let m = (first_none (refusal (pointer_rules d)) _ (sym pointer_first ∙ z)).0 in rw (m, z)

  pub find_given : among (dump_refusal d) pointer_numbers ≡ true → pointed d ≡ held d
  unfolding pointed held
  find_given q =
      whether (eqb (refusal (pointer_rules d)) 0)
      (λ z.
      let table = refusal (only (not (is_default d)) (table_rules (table_in d))) in
      let m : dump_refusal d ≡ table = pointer_first ∙ rw (eqb-true (refusal (pointer_rules d)) 0 z) in
      absurd (not_both (dump_refusal d) q (rw (← m) at (rest_among (not (is_default d))))))
      (λ z. rw (pointer_first ∙ first_some (refusal (pointer_rules d)) _ (eqb-false (refusal (pointer_rules d)) 0 z)))

-- The inner number is a table's.
pub inner_known : (t : List ℕ) (e : Edit) → Known (inner_refusal t e)
unfolding inner_refusal any among each
inner_known t e = known (table_refusal (edited_table t e)) table_numbers refl (refusal_numbered (edited_table t e))
