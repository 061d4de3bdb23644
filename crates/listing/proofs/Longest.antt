-- A room of 65,536 bytes holds the listing of every accepted dump, and all that the listing program writes for any dump. A
-- base entry has 8 bytes or more and a line of at most 48; the line of an extended entry that is not cut has at most 9
-- times the entry's bytes. Assumes nothing.
use Prim.Native.Nat.{ℕ, zero, suc, pred, ◌+◌, ◌*◌, ◌-◌, ◌/◌, ◌≤◌}
use mathlib.Core.Path.{◌≡◌, refl, ap, sym, ◌∙◌}
use mathlib.Core.Bool.{Bool, true, false, cond, not}
use mathlib.Core.List.{List, [], ◌∷◌, ◌++◌}
use native.Mathlib.Omega.{arith}
use lib.ListN.{length, take, drop, length-append, length-take}
use lib.Dec.{eqb}
use borrow.Author.Tests.{eqb-true}
use Rattle.mps.specs.Words.{byte, among, each, only, cut, joined, put}
use Rattle.mps.specs.Refusals.{refusal}
use Rattle.mps.specs.Layout.{Entry, type, of_type, mapping_type, hierarchy_type, modifier_type, mapping_size, link_size, least_length, header_size}
use Rattle.mps.specs.Layout.{base_length, extended_length, extended_end, entry_count, base_part, extended_part, base_entry_length, extended_entry_length, own_length, base_entries, extended_entries, feature1}
use Rattle.mps.specs.Table.{extended_fault, extended_from}
use Rattle.mps.specs.Pointer.{pointer, pointer_bytes, is_default, imcr_of, table_address, table_in}
use Rattle.mps.specs.Judge.{pointer_rules, table_rules, dump_rules, dump_refusal, table_refusal}
use Rattle.mps.specs.Listing.{base_line, map_line, tree_line, mod_line, skip_line, extended_line, pointer_line, table_line, end_line, listing}
use Rattle.mps.specs.Listing.{list_refusal, program_output, printed, print_left}
use Rattle.mps.specs.Rooms.{room_refusal, fitted, fit_left}
use Rattle.std.specs.Prelude.{Result, Ok}
use Rattle.mps.specs.declared.refusals.Refusal.{Refusal}
use Rattle.laws.proofs.Tests.{whether, or_parts}
use Rattle.laws.proofs.Refusals.{first_none, refusal_append}
use Rattle.laws.proofs.Lent.{left_put, fits}
use Rattle.accepted.proofs.Sound.{sound}
use Rattle.reader.proofs.Walk.{no_extended_fault}
use Rattle.listing.specs.Texts.{table_text, entries_text}
use Rattle.listing.proofs.Most.{base_most, map_most, tree_most, mod_most, skip_most, pointer_most, table_most, end_most, default_most_lem, refused_most}
use Rattle.listing.proofs.Laws.{text_is, list_none}

-- ---- The lines of the base entries

at_least : (s : List ℕ) → 8 ≤ base_entry_length s
unfolding base_entry_length
at_least s = whether (eqb (byte s 0) 0) (λ t. rw t (omega arith)) (λ f. rw f (omega arith))

-- Each entry that begins in s once k bytes are passed has 8 bytes, but the last may be cut.
base_lines : (k : ℕ) (s : List ℕ) → length (joined base_line (cut base_entry_length k s)) ≤ 48 * ((length s - k + 7) / 8)
unfolding joined cut
base_lines k [] = omega arith
base_lines (suc k) (x ∷ xs) = omega (arith, base_lines k xs)
base_lines zero (x ∷ xs) =
    let n = base_entry_length (x ∷ xs) in
    let e = take n (x ∷ xs) in
    omega (
      arith,
      length-append (base_line e) (joined base_line (cut base_entry_length (pred n) xs)),
      base_most e,
      at_least (x ∷ xs),
      base_lines (pred n) xs,
    )

-- ---- The lines of the extended entries

paired : (b : Bool) (x y : List ℕ) (m n : ℕ) → length x ≤ 9 * m → length y ≤ 9 * n → length (cond b x y) ≤ 9 * cond b m n
paired true x y m n h g = h
paired false x y m n h g = g

own_most : (e : Entry) → least_length ≤ extended_entry_length e → length (extended_line e) ≤ 9 * own_length e
unfolding extended_line own_length
own_most e h =
    paired (of_type mapping_type e) (map_line e) _ mapping_size _ (omega (arith, map_most e))
    (paired (of_type hierarchy_type e) (tree_line e) _ link_size _ (omega (arith, tree_most e))
    (paired (of_type modifier_type e) (mod_line e) (skip_line e) link_size (extended_entry_length e) (omega (arith, mod_most e))
    (omega (arith, skip_most e))))

whole_most : (before : ℕ) (e : Entry) → extended_fault before e ≡ false → length (extended_line e) ≤ 9 * length e
whole_most before e f =
    let fine = no_extended_fault before e f in
    omega (arith, fine.1, fine.3, own_most e fine.0)

extended_lines :
    (before k : ℕ) (s : List ℕ) → extended_from before (cut extended_entry_length k s) ≡ false
    → length (joined extended_line (cut extended_entry_length k s)) ≤ 9 * (length s - k)
unfolding joined cut extended_from
extended_lines before k [] f = omega arith
extended_lines before (suc k) (x ∷ xs) f = omega (arith, extended_lines before k xs f)
extended_lines before zero (x ∷ xs) f =
    let n = extended_entry_length (x ∷ xs) in
    let e = take n (x ∷ xs) in
    let rest = cut extended_entry_length (pred n) xs in
    let fine = or_parts (extended_fault before e) (extended_from (type e) rest) f in
    omega (
      arith,
      length-append (extended_line e) (joined extended_line rest),
      length-take n (x ∷ xs),
      whole_most before e fine.0,
      extended_lines (type e) (pred n) xs fine.1,
    )

-- ---- The lines of a table

module _ (t : List ℕ) (a : table_refusal t ≡ 0) where
  -- By the lengths of its parts.
  entries_longest : length (entries_text t) ≤ 48 * ((base_length t - header_size + 7) / 8) + 9 * extended_length t
  unfolding entries_text base_entries extended_entries
  entries_longest =
      omega (
        arith,
        length-append (joined base_line (base_entries t)) (joined extended_line (extended_entries t)),
        base_lines 0 (base_part t),
        length-take (base_length t - header_size) (drop header_size t),
        extended_lines 0 0 (extended_part t) (sound t a).extended_walked,
        length-take (extended_end t - base_length t) (drop (base_length t) t),
      )

  pub entries_most : length (entries_text t) ≤ 65535
  entries_most = let s = sound t a in omega (arith, entries_longest, s.most, s.extended_most)

  pub table_longest :
      (pointer imcr address : ℕ)
      → length (table_text pointer imcr address t) ≤ 6 * base_length t + 9 * extended_length t
  table_longest pointer imcr address =
      let first = pointer_line pointer imcr in
      let head = table_line address (base_length t) (extended_length t) (entry_count t) in
      omega (
        arith,
        ap length (text_is pointer imcr address t),
        length-append first (head ++ (entries_text t ++ end_line)),
        length-append head (entries_text t ++ end_line),
        length-append (entries_text t) end_line,
        pointer_most pointer imcr,
        table_most address (base_length t) (extended_length t) (entry_count t),
        end_most,
        entries_longest,
        (sound t a).low,
      )

-- ---- The whole

-- The table in an accepted dump is accepted.
accepted_table : (d : List ℕ) → is_default d ≡ false → dump_refusal d ≡ 0 → table_refusal (table_in d) ≡ 0
unfolding dump_refusal dump_rules pointer_rules table_refusal among each
accepted_table d f e =
    let first = pointer_rules d in
    let rows = only (not (is_default d)) (table_rules (table_in d)) in
    rw f at (first_none (refusal first) (refusal rows) (sym (refusal_append first rows refl) ∙ e)).1

pub listing_most : (d : List ℕ) → dump_refusal d ≡ 0 → length (listing d) ≤ 65536
unfolding listing table_text
listing_most d e =
    whether (is_default d)
    (λ t. rw t (omega (arith, default_most_lem (feature1 (pointer_bytes d)) (imcr_of d))))
    (λ f.
    let a = accepted_table d f e in
    let s = sound (table_in d) a in
    rw f
    (omega (
      arith,
      table_longest (table_in d) a (pointer d).address (imcr_of d) (table_address d),
      s.most,
      s.extended_most,
    )))

-- So the count that the call answers is no more.
pub list_most : (d room : List ℕ) → list_refusal d room ≡ 0 → length (listing d) ≤ 65536
list_most d room e = listing_most d (list_none d room e)

pub output_most : (d : List ℕ) → length (program_output d) ≤ 65536
unfolding program_output
output_most d =
    whether (eqb (dump_refusal d) 0)
    (λ t. rw t (listing_most d (eqb-true (dump_refusal d) 0 t)))
    (λ f. rw f (omega (arith, refused_most (dump_refusal d))))

-- So the program's call refuses nothing in such a room: it answers how many bytes it wrote, and they stand at the room's start.
module _ (d room : List ℕ) where
  roomy : 65536 ≤ length room → room_refusal (program_output d) room ≡ 0
  roomy h = fits (program_output d) room (omega (arith, output_most d))

  pub print_fits_always : {r : Result ℕ Refusal} → 65536 ≤ length room → r ≡ printed d room → r ≡ Ok (length (program_output d))
  unfolding printed fitted
  print_fits_always h e = e ∙ rw (roomy h)

  pub print_leaves_always : 65536 ≤ length room → print_left d room ≡ put (program_output d) room
  unfolding print_left fit_left
  print_leaves_always h = rw (roomy h) (left_put (program_output d) room)
