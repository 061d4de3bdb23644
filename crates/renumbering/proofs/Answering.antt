-- The ways out: what the code has found there, and the answer. Assumes nothing.
use Prim.Native.Nat.{ℕ, ◌+◌, ◌≤◌, ◌<◌}
use mathlib.Core.Path.{◌≡◌, refl, sym, ap, ◌∙◌}
use mathlib.Core.Bool.{Bool, true, false, not, true≢false}
use mathlib.Core.List.{List, [], ◌∷◌, ◌++◌}
use native.Mathlib.Omega.{arith}
use lib.Dec.{ltb}
use Rattle.std.specs.Prelude.{Result, Ok, Err}
use lib.ListN.{length, replicate}
use lib.Seq.{sets}
use borrow.Author.Tests.{lt-ltb, le-ltb, ne_eqb}
use Rattle.mps.specs.Words.{among, each, keep, first, part}
use Rattle.mps.specs.Refusals.{◌when◌, refusal, room_number}
use Rattle.mps.specs.Layout.{Entry, of_type, header_size, processor_size, entry_size, processor_type, io_apic_type, id_of, enabled, everyone, base_entries}
use Rattle.mps.specs.Rules.{enabled_of, enabled_ids}
use Rattle.mps.specs.Judge.{table_refusal, examined}
use Rattle.mps.specs.Reasons.{refusal_numbered}
use Rattle.mps.specs.Rooms.{too_small}
use Rattle.mps.specs.Renumber.{shares, kept_ids, held_ids, new_numbers, new_numbers_of, none_free, used_numbers, bits_set}
use Rattle.mps.specs.Renumber.{renumber_rules, renumber_refusal, renumbered, renumber_left}
use Rattle.mps.specs.declared.Sections.{Sections}
use Rattle.mps.specs.declared.refusals.Refusal.{Refusal}
use Rattle.mps.specs.declared.refusals.Refusal.TheVariants.{RoomTooSmall, NumbersUsedUp}
use Rattle.mps.specs.declared.Renumbered.{Renumbered}
use Rattle.laws.proofs.Answers.{answered_err}
use Rattle.laws.proofs.Lists.{length_each}
use Rattle.laws.proofs.Tests.{whether}
use Rattle.laws.proofs.Refusals.{first_some}
use Rattle.laws.proofs.Lent.{left_kept, left_put}
use Rattle.laws.proofs.Stores.{sets_at_start}
use Rattle.laws.proofs.Small.{Bytes, Small, small_base, small_keep}
use Rattle.laws.proofs.Counting.{Below, among_append, apart_below}
use Rattle.laws.proofs.Renumber.{Same, length_numbers}
use Rattle.apics.specs.Enabled.{enabled_in}
use Rattle.sets.specs.Sets.{holds, put_all, members}
use Rattle.accepted.proofs.Obeyed.{obeyed}
use Rattle.accepted.proofs.Numbering.{kept_ids_lem, processors_below, ioapics_below, held_below, none_free_lem, new_below, used_count}
use Rattle.judge.specs.Placed.{Placed}
use Rattle.judge.proofs.Laws.{refused_table, placed_processors, placed_ioapics, behind_room}
use Rattle.renumbering.specs.Giving.{numbers_in}
use Rattle.renumbering.proofs.Laws.{Has, has_none, has_all, has_count, Both, both_has, numbers_are}

-- ---- The number, and the answer

-- What answers it, and what is left in the room.
abbrev pub Answers : List ℕ → List ℕ → Result Renumbered Refusal → List ℕ → Type 0
Answers t room r u = (r ≡ renumbered t room) × (u ≡ renumber_left t room)

module _ (t room : List ℕ) where
  abbrev small : Bool
  small = too_small (length (new_numbers_of t)) room

  -- The table's rows, 19, then 26.
  is_number :
      renumber_refusal t room ≡ first (table_refusal t) (refusal (room_number when small ∷ 26 when none_free (base_entries t) ∷ []))
  unfolding renumber_refusal renumber_rules
  is_number = behind_room t small (26 when none_free (base_entries t) ∷ [])

  refused : {n : ℕ} → renumber_refusal t room ≡ n → (n ≡ 0 → ⊥) → {r : Refusal} → r ≡ refusal_numbered n → Answers t room (Err r) room
  unfolding renumbered renumber_left
  refused {n} e z q = (rw e (answered_err n _ z q), rw e (sym (left_kept n _ room z)))

  pub examined_refused : {found : Result Sections Refusal} {r : Refusal} → found ≡ examined t → found ≡ Err r → Answers t room (Err r) room
  examined_refused e k =
      let g = refused_table t e k in
      refused (is_number ∙ first_some (table_refusal t) _ g.0) g.0 g.1

  module _ (a : table_refusal t ≡ 0) where
    short : small ≡ true → Answers t room (Err RoomTooSmall) room
    unfolding refusal refusal_numbered
    short s = refused {n = 19} (is_number ∙ rw (a, s)) (λ e. omega (arith, e)) refl

    module _ (s : small ≡ false) where
      none_left : none_free (base_entries t) ≡ true → Answers t room (Err NumbersUsedUp) room
      unfolding refusal refusal_numbered
      none_left e = refused {n = 26} (is_number ∙ rw (a, s, e)) (λ q. omega (arith, q)) refl

      given :
          none_free (base_entries t) ≡ false → {n k : ℕ} {u : List ℕ} → n ≡ length (new_numbers_of t) → k ≡ bits_set (used_numbers (base_entries t))
          → length (new_numbers_of t) ≤ length room → u ≡ sets room 0 (new_numbers_of t) → Answers t room (Ok (record { count = n; used = k })) u
      unfolding refusal renumbered renumber_left
      given e en ek h g =
          let z : renumber_refusal t room ≡ 0 = is_number ∙ rw (a, s, e) in
          (rw (z, en, ek), rw (z, left_put (new_numbers_of t) room) (g ∙ sets_at_start room (new_numbers_of t) h))

-- ---- What is held: the numbers of all that are enabled, since one that shares its number has it of a processor

among_keep : (p : ℕ → Bool) (z : ℕ) (xs : List ℕ) → p z ≡ true → among z xs ≡ among z (keep p xs)
unfolding among keep
among_keep p z [] e = refl
among_keep p z (x ∷ xs) e =
    whether (p x)
    (λ t. rw (t, keep, among_keep p z xs e))
    (λ f. rw (f, keep, ne_eqb z x (λ q. true≢false (sym e ∙ ap p q ∙ f)), among_keep p z xs e))

held_same : (es : List Entry) → Same (enabled_ids processor_type es ++ enabled_ids io_apic_type es) (held_ids es)
unfolding held_ids
held_same es z =
    let own = enabled_ids processor_type es in
    let all = enabled_ids io_apic_type es in
    rw (among_append z own all, among_append z own (kept_ids es), kept_ids_lem es)
    (whether (among z own) (λ t. rw t) (λ f. rw f (among_keep (λ (n : ℕ). not (among n own)) z all (rw f))))

-- ---- From what the passes over an accepted table have found

module _ (t : List ℕ) (p : Sections) (a : table_refusal t ≡ 0) (placed : Placed t p) (room : List ℕ) where
  abbrev base : List Entry
  base = base_entries t

  -- The parts that they go over.
  abbrev cpu_rows : List ℕ
  cpu_rows = part header_size p.buses t

  abbrev apic_rows : List ℕ
  apic_rows = part p.ioapics p.interrupts t

  -- The sets of the processors' IDs and of the I/O APICs', and how many are in the one and enabled of the others.
  module _ {cpus own : List ℕ} (ec : cpus ≡ put_all (replicate 4 0) (enabled_in processor_size cpu_rows))
      (eo : own ≡ put_all (replicate 4 0) (enabled_in entry_size apic_rows))
      {n m : ℕ} (en : n ≡ length (members cpus)) (em : m ≡ length (enabled_in entry_size apic_rows)) where
    small_apics : Small (enabled_of io_apic_type base)
    unfolding enabled_of
    small_apics = small_keep enabled (small_keep (of_type io_apic_type) (small_base t placed.bytes))

    ids : enabled_in entry_size apic_rows ≡ each id_of (enabled_of io_apic_type base)
    unfolding enabled_ids
    ids = sym (placed_ioapics t p placed)

    apics_is : m ≡ length (enabled_of io_apic_type base)
    apics_is = em ∙ ap length ids ∙ length_each id_of (enabled_of io_apic_type base)

    count_is : length (new_numbers_of t) ≡ m
    unfolding new_numbers_of new_numbers
    count_is = length_numbers (shares base) (held_ids base) (enabled_of io_apic_type base) ∙ sym apics_is

    cpus_has : Has cpus (enabled_ids processor_type base)
    cpus_has =
        rw (ec, placed_processors t p placed)
        (has_all (replicate 4 0) [] has_none (enabled_in processor_size cpu_rows))

    shared_is : (apic : Entry) → Bytes apic → holds cpus (id_of apic) ≡ shares base apic
    unfolding shares
    shared_is apic b = cpus_has.same (id_of apic) (b 1)

    own_has : Has own (enabled_ids io_apic_type base)
    own_has = rw (eo, placed_ioapics t p placed) (has_all (replicate 4 0) [] has_none (enabled_in entry_size apic_rows))

    held_has : Both own cpus (held_ids base)
    held_has = both_has own cpus (enabled_ids io_apic_type base) (enabled_ids processor_type base) (held_ids base) own_has cpus_has (held_same base)

    -- 26 by counting: both counts are of numbers below 255 that are apart.
    enabled_is : n ≡ length (enabled_ids processor_type base)
    enabled_is =
        en
        ∙ has_count cpus (enabled_ids processor_type base) cpus_has (obeyed t a).processors
        (λ z q. omega (arith, processors_below t a placed.bytes z q))

    pub few : n + m ≤ 510
    few =
        let bytes = placed.bytes in
        let obey = obeyed t a in
        omega (
          arith,
          enabled_is,
          em,
          ap length (placed_ioapics t p placed),
          apart_below everyone (enabled_ids processor_type base) obey.processors (processors_below t a bytes),
          apart_below everyone (enabled_ids io_apic_type base) obey.ioapics (ioapics_below t a bytes),
        )

    none_by : none_free base ≡ ltb everyone (n + m)
    none_by = none_free_lem t a placed.bytes ∙ rw (enabled_is, apics_is)

    -- No number that is held is 255.
    none_255 : among everyone (held_ids base) ≡ false
    none_255 = whether (among everyone (held_ids base)) (λ e. absurd (omega (arith, held_below t a placed.bytes everyone e))) (λ e. e)

    pub room_short : length room < m → Answers t room (Err RoomTooSmall) room
    unfolding too_small
    room_short h = short t room a (rw count_is (lt-ltb (length room) m h))

    module _ (h : m ≤ length room) where
      fits : too_small (length (new_numbers_of t)) room ≡ false
      unfolding too_small
      fits = rw count_is (le-ltb (length room) m h)

      pub all_used : everyone < n + m → Answers t room (Err NumbersUsedUp) room
      all_used k = none_left t room a fits (none_by ∙ lt-ltb everyone (n + m) k)

      module _ (k : n + m ≤ everyone) where
        some : none_free base ≡ false
        some = none_by ∙ le-ltb everyone (n + m) k

        -- What is given.
        numbers_is : numbers_in cpus own (enabled_in entry_size apic_rows) ≡ new_numbers_of t
        unfolding new_numbers_of new_numbers none_free
        numbers_is =
            ap (numbers_in cpus own) ids
            ∙ numbers_are (shares base) cpus shared_is small_apics own (held_ids base) held_has none_255 some

        pub give_room :
            (length (enabled_in entry_size apic_rows) ≤ length room) × Below everyone (numbers_in cpus own (enabled_in entry_size apic_rows))
        give_room = (rw (← em) h, rw numbers_is (new_below t a some placed.bytes))

        -- Every number that is used then is a processor's or given.
        pub all_given : {u : List ℕ} → u ≡ sets room 0 (numbers_in cpus own (enabled_in entry_size apic_rows)) → Answers t room (Ok (record { count = m; used = n + m })) u
        all_given e =
            given t room a fits some (sym count_is) (rw (enabled_is, apics_is) (sym (used_count t a some placed.bytes)))
            (rw count_is h) (rw numbers_is at e)
