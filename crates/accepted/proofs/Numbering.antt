-- The numbers of an accepted table's enabled APICs: those that are held are apart and below 255, and whether one that needs a new
-- number finds none is a matter of how many there are; where each finds one, so is how many are used. Assumes nothing.
use Prim.Native.Nat.{ℕ, ◌+◌, ◌≤◌}
use mathlib.Core.Path.{◌≡◌, sym, ◌∙◌}
use mathlib.Core.Bool.{Bool, true, false, not, false≢true}
use mathlib.Core.List.{List, ◌++◌}
use native.Mathlib.Omega.{arith}
use lib.ListN.{length, length-append}
use lib.Dec.{ltb}
use borrow.Author.Tests.{ltb-true, lt-ltb, not-true}
use Rattle.mps.specs.Words.{among, twice, keep, each}
use Rattle.mps.specs.Layout.{Entry, of_type, processor_type, io_apic_type, everyone, enabled, id_of, base_entries}
use Rattle.mps.specs.Rules.{enabled_of, enabled_ids}
use Rattle.mps.specs.Judge.{table_refusal}
use Rattle.mps.specs.Renumber.{shares, kept_ids, free, held_ids, new_numbers, none_free, used_numbers, bits_set, new_numbers_of}
use Rattle.laws.proofs.Tests.{either, same_test}
use Rattle.laws.proofs.Lists.{length_each, keep_each}
use Rattle.laws.proofs.Small.{Bytes, below_each, small_keep, small_base}
use Rattle.laws.proofs.Pigeons.{among_byte}
use Rattle.laws.proofs.Counting.{Below, keep_both, among_append, among_kept, apart_kept, apart_append, apart_count, apart_below}
use Rattle.laws.proofs.Renumber.{kept_of, free_count, length_numbers, finds_count, numbers_below, numbers_apart}
use Rattle.accepted.proofs.Obeyed.{obeyed}

-- ---- The IDs of the enabled ones

-- None is 255, so of bytes each is below it.
ids_below : (n : ℕ) (t : List ℕ) → Bytes t → among everyone (enabled_ids n (base_entries t)) ≡ false
    → Below everyone (enabled_ids n (base_entries t))
unfolding enabled_ids enabled_of
ids_below n t b own z a =
    let small = below_each 1 (small_keep enabled (small_keep (of_type n) (small_base t b))) in
    let other : z ≡ everyone → ⊥ = λ q. false≢true (sym own ∙ rw q at a) in
    omega (arith, among_byte _ small z a, other)

-- ---- Those that keep theirs, by their numbers

pub kept_ids_lem : (es : List Entry)
    → kept_ids es ≡ keep (λ (n : ℕ). not (among n (enabled_ids processor_type es))) (enabled_ids io_apic_type es)
unfolding kept_ids shares enabled_ids
kept_ids_lem es = sym (keep_each id_of (λ (n : ℕ). not (among n (enabled_ids processor_type es))) (enabled_of io_apic_type es))

kept_in : (es : List Entry) (z : ℕ) → among z (kept_ids es) ≡ true
    → (among z (enabled_ids io_apic_type es) ≡ true) × (among z (enabled_ids processor_type es) ≡ false)
kept_in es z h =
    let other : ℕ → Bool = λ (n : ℕ). not (among n (enabled_ids processor_type es)) in
    let r = among_kept other z (enabled_ids io_apic_type es) (rw (kept_ids_lem es) at h) in
    (r.0, not-true _ r.1)

-- ---- Those that are held before the first new one

held_length : (es : List Entry)
    → length (held_ids es)
    ≡ length (enabled_ids processor_type es) + length (keep (λ (apic : Entry). not (shares es apic)) (enabled_of io_apic_type es))
unfolding held_ids kept_ids
held_length es =
    let kept = keep (λ (apic : Entry). not (shares es apic)) (enabled_of io_apic_type es) in
    omega (arith, length-append (enabled_ids processor_type es) (each id_of kept), length_each id_of kept)

module _ (t : List ℕ) (a : table_refusal t ≡ 0) where
  held_apart : twice (held_ids (base_entries t)) ≡ false
  unfolding held_ids
  held_apart =
      let es = base_entries t in
      let o = obeyed t a in
      apart_append (enabled_ids processor_type es) (kept_ids es) o.processors
      (rw (kept_ids_lem es) (apart_kept _ (enabled_ids io_apic_type es) o.ioapics))
      (λ z h. (kept_in es z h).1)

  module _ (b : Bytes t) where
    pub processors_below : Below everyone (enabled_ids processor_type (base_entries t))
    processors_below = ids_below processor_type t b (obeyed t a).processors_not_255

    pub ioapics_below : Below everyone (enabled_ids io_apic_type (base_entries t))
    ioapics_below = ids_below io_apic_type t b (obeyed t a).ioapics_not_255

    kept_below : Below everyone (kept_ids (base_entries t))
    kept_below z h = ioapics_below z (kept_in (base_entries t) z h).0

    pub held_below : Below everyone (held_ids (base_entries t))
    unfolding held_ids
    held_below z h =
        let es = base_entries t in
        either _ _ (sym (among_append z (enabled_ids processor_type es) (kept_ids es)) ∙ h) (processors_below z) (kept_below z)

    -- There is a byte for each enabled I/O APIC, and no more than 255.
    pub new_most : length (new_numbers_of t) ≤ everyone
    unfolding new_numbers_of new_numbers enabled_ids
    new_most =
        let apics = enabled_of io_apic_type (base_entries t) in
        let most = apart_below everyone (each id_of apics) (obeyed t a).ioapics ioapics_below in
        omega (arith, length_numbers (shares (base_entries t)) (held_ids (base_entries t)) apics, most, length_each id_of apics)

    -- One that needs a number finds none free exactly when the enabled processors and the enabled I/O APICs are more than the
    -- numbers 0 to 254.
    pub none_free_lem : none_free (base_entries t)
        ≡ ltb everyone (length (enabled_ids processor_type (base_entries t)) + length (enabled_of io_apic_type (base_entries t)))
    unfolding none_free
    none_free_lem =
        let es = base_entries t in
        let apics = enabled_of io_apic_type es in
        let others = length (free (held_ids es)) in
        let sharing = length (keep (shares es) apics) in
        let all = length (enabled_ids processor_type es) + length apics in
        let held = held_length es in
        let counted = free_count (held_ids es) held_apart held_below in
        let both = keep_both (shares es) apics in
        finds_count (shares es) (held_ids es) apics
        ∙ same_test (ltb others sharing) (ltb everyone all)
        (λ h. lt-ltb everyone all (omega (arith, ltb-true others sharing h, held, counted, both)))
        (λ h. lt-ltb others sharing (omega (arith, ltb-true everyone all h, held, counted, both)))

  -- ---- Where each finds one

  module _ (some : none_free (base_entries t) ≡ false) where
    pub used_apart : twice (used_numbers (base_entries t)) ≡ false
    unfolding used_numbers new_numbers none_free held_ids kept_ids kept_of
    used_apart =
        let es = base_entries t in
        numbers_apart (shares es) (enabled_ids processor_type es) (held_ids es) (enabled_of io_apic_type es) some (λ z h. h) held_apart

    pub new_below : Bytes t → Below everyone (new_numbers_of t)
    unfolding new_numbers_of new_numbers none_free kept_ids kept_of
    new_below b =
        let es = base_entries t in
        numbers_below (shares es) (held_ids es) (enabled_of io_apic_type es) some (kept_below b)

    -- As many numbers are used as there are enabled processors and enabled I/O APICs.
    pub used_count : Bytes t
        → bits_set (used_numbers (base_entries t))
        ≡ length (enabled_ids processor_type (base_entries t)) + length (enabled_of io_apic_type (base_entries t))
    unfolding bits_set used_numbers new_numbers_of new_numbers
    used_count b =
        let es = base_entries t in
        let ids = enabled_ids processor_type es in
        let new = new_numbers es in
        let inside : Below 256 (ids ++ new) =
        λ z h. either (among z ids) (among z new) (sym (among_append z ids new) ∙ h)
        (λ c. omega (arith, processors_below b z c))
        (λ c. omega (arith, new_below b z c)) in
        omega (
          arith,
          apart_count 256 (ids ++ new) used_apart inside,
          length-append ids new,
          length_numbers (shares es) (held_ids es) (enabled_of io_apic_type es),
        )
