-- The steps of the loops over rows, and what a chain has. Assumes nothing.
use Prim.Native.Nat.{ℕ, zero, suc, ◌+◌, ◌-◌, ◌*◌, ◌/◌, ◌%◌, ◌≤◌, ◌<◌}
use Rattle.std.specs.Prelude.{Option, Some, None}
use mathlib.Core.Path.{◌≡◌, refl, sym, ap, ◌∙◌}
use mathlib.Core.Bool.{true, false, cond, ◌&&◌}
use mathlib.Core.List.{List, []}
use native.Mathlib.Nat.{sub-zero}
use native.Mathlib.Numerals.{add-one}
use native.Mathlib.Omega.{arith}
use lib.ListN.{length, get_or, set, length-set, replicate, length-replicate}
use lib.Seq.{get_or-set_same, get_or-set_other}
use lib.Dec.{eqb, leb}
use borrow.Author.Tests.{eq-eqb, ne_eqb, eqb-true, eqb-false, lt-leb, le-leb}
use Rattle.mps.specs.Numbers.{le}
use Rattle.mps.specs.Layout.{book_head, book_rows, book_row, machine_at, edition_at, body_start, body_size}
use Rattle.mps.specs.Words.{last, keep, each}
use Rattle.mps.specs.Book.{layout1, of_machine, latest, row_at, rows_at, editions_run}
use Rattle.mps.specs.History.{is_edition}
use Rattle.pages.specs.Pages.{row_place, rows_before, found_from, found_in, rows_most}
use Rattle.pages.proofs.Bytes.{rows_at_more}
use Rattle.pages.proofs.Editions.{latest_append, found_here, found_next}
use Rattle.laws.proofs.Tests.{whether}
use Rattle.laws.proofs.Lists.{zeros_at}
use Rattle.laws.proofs.Small.{Bytes}
use Rattle.numbers.proofs.Laws.{le_four, le_eight, le_below}
use Rattle.rows.specs.declared.Row.{Row}
use Rattle.rows.specs.Fields.{fields_at, found_row, place_of}
use Rattle.rows.specs.Chains.{chain_count, chain_of, chain_at, last_in, Linked}

-- ---- A row

-- Its four numbers stand behind one another in one of eight bytes, the first one lowest.
module _ (s : List ℕ) (b : Bytes s) (at : ℕ) {n : ℕ} (e : n ≡ le 8 s at) where
  parts : n ≡ machine_at s at + 65536 * edition_at s at + 4294967296 * body_start 2 s at + 281474976710656 * body_size 2 s at
  parts = omega (arith, e, le_eight s at, le_four s at, le_four s (at + 4))

  machine_read : n % 65536 ≡ machine_at s at
  machine_read = omega (arith, parts, le_below 2 s at b)

  edition_read : n / 65536 % 65536 ≡ edition_at s at
  edition_read = omega (arith, parts, le_below 2 s at b, le_below 2 s (at + 2) b)

  start_read : n / 4294967296 % 65536 ≡ body_start 2 s at
  start_read = omega (arith, parts, le_below 2 s at b, le_below 2 s (at + 2) b, le_below 2 s (at + 4) b)

  size_read : n / 281474976710656 ≡ body_size 2 s at
  size_read = omega (arith, parts, le_below 2 s at b, le_below 2 s (at + 2) b, le_below 2 s (at + 4) b)

  pub row_read :
      record { at = at; machine = n % 65536; edition = n / 65536 % 65536; start = n / 4294967296 % 65536; size = n / 281474976710656 }
      ≡ fields_at s at
  row_read = rw (machine_read, edition_read, start_read, size_read)

-- ---- The latest edition

-- One row more: it is the machine's, or it is not.
module _ (m : ℕ) (s : List ℕ) (k : ℕ) where
  more :
      latest m (rows_before layout1 s (k + 1))
      ≡ cond (eqb (machine_at s (row_place layout1 k)) m) (edition_at s (row_place layout1 k)) (latest m (rows_before layout1 s k))
  unfolding row_at
  more =
      ap (latest m) (rows_at_more 2 s book_head k) ∙ latest_append m (rows_before layout1 s k) (row_at 2 s (row_place layout1 k))

  pub latest_own : machine_at s (row_place layout1 k) ≡ m → latest m (rows_before layout1 s (k + 1)) ≡ edition_at s (row_place layout1 k)
  latest_own e = more ∙ rw (eq-eqb _ _ e)

  pub latest_other : (machine_at s (row_place layout1 k) ≡ m → ⊥) → latest m (rows_before layout1 s (k + 1)) ≡ latest m (rows_before layout1 s k)
  latest_other e = more ∙ rw (ne_eqb _ _ e)

-- Of no rows.
pub latest_none : (m : ℕ) (s : List ℕ) → latest m (rows_before layout1 s 0) ≡ 0
unfolding latest of_machine last each keep rows_at
latest_none m s = refl

-- ---- Where an edition stands

-- What the row that is found tells of the place where it is found.
module _ (m e : ℕ) (s : List ℕ) where
  pub row_none : found_row m e s ≡ None → found_in layout1 m e s ≡ 0
  unfolding found_row
  row_none z =
      whether (eqb (found_in layout1 m e s) 0) (λ t. eqb-true _ _ t) (λ f. let q = rw f at z in absurd (cc))

  pub row_some : {r : Row} → found_row m e s ≡ Some r → (found_in layout1 m e s ≡ 0 → ⊥) × (r ≡ fields_at s (found_in layout1 m e s))
  unfolding found_row
  row_some z =
      whether (eqb (found_in layout1 m e s) 0)
      (λ t. let q = rw t at z in absurd (cc))
      (λ f. let q = rw f at z in (eqb-false _ _ f, cc))

  -- What `find` promised as a number: the place of the row, 0 where there is none.
  pub place_found : (x : Option Row) → x ≡ found_row m e s → place_of x ≡ found_in layout1 m e s
  place_found None q = sym (row_none (sym q))
  place_found (Some r) q = ap (λ (x : Row). x.at) (row_some (sym q)).1

-- Of the rows from k on the same is found as of all.
module _ (m e : ℕ) (s : List ℕ) where
  abbrev pub Finds : ℕ → Type 0
  Finds k = found_from 2 m e s (row_place layout1 k) (book_rows s - k) ≡ found_in layout1 m e s

  pub finds_first : Finds 0
  unfolding found_in
  finds_first = rw (sub-zero (book_rows s))

  module _ (k : ℕ) (inv : Finds k) where
    pub finds_done : book_rows s ≤ k → None ≡ found_row m e s
    unfolding found_from found_row
    finds_done h = let z : book_rows s - k ≡ 0 = omega arith in rw (← inv, z)

    pub place_done : book_rows s ≤ k → 0 ≡ found_in layout1 m e s
    place_done h = place_found m e s None (finds_done h)

    module _ (h : k < book_rows s) where
      left : book_rows s - k ≡ suc (book_rows s - (k + 1))
      left = omega arith

      module _ {r : Row} (o : r ≡ fields_at s (row_place layout1 k)) where
        pub finds_stop : (eqb r.machine m && eqb r.edition e) ≡ true → Some r ≡ found_row m e s
        unfolding is_edition row_at found_row
        finds_stop t =
            let at = row_place layout1 k in
            rw (← inv, left, found_here m e 2 s at (book_rows s - (k + 1)) (rw o at t), o, ne_eqb at 0 (λ z. omega (arith, z)))

        pub place_stop : (eqb r.machine m && eqb r.edition e) ≡ true → r.at ≡ found_in layout1 m e s
        place_stop t = place_found m e s (Some r) (finds_stop t)

        pub finds_next : (eqb r.machine m && eqb r.edition e) ≡ false → Finds (k + 1)
        unfolding is_edition row_at
        finds_next f =
            let at : row_place layout1 (k + 1) ≡ row_place layout1 k + book_row 2 = omega arith in
            rw at (sym (found_next m e 2 s (row_place layout1 k) (book_rows s - (k + 1)) (rw o at f)) ∙ (rw left at inv))

-- ---- A chain

module _ (s : List ℕ) (c : ℕ) where
  last_below : (k : ℕ) → last_in s c k ≤ k
  unfolding last_in
  last_below zero = omega arith
  last_below (suc k) =
      whether (eqb (chain_at s k) c) (λ t. rw t (omega arith)) (λ f. rw f (omega (arith, last_below k)))

  -- The row behind so many is the last one of its chain, and it leaves the others as they are.
  last_own : (k : ℕ) → chain_at s k ≡ c → last_in s c (suc k) ≡ suc k
  unfolding last_in
  last_own k e = rw (eq-eqb _ _ e)

  last_other : (k : ℕ) → (chain_at s k ≡ c → ⊥) → last_in s c (suc k) ≡ last_in s c k
  unfolding last_in
  last_other k e = rw (ne_eqb _ _ e)

  -- The last row of a chain is in it.
  last_chain : (k : ℕ) → last_in s c (suc k) ≡ suc k → chain_at s k ≡ c
  last_chain k e =
      whether (eqb (chain_at s k) c)
      (λ t. eqb-true _ _ t)
      (λ f. absurd (let o = last_other k (eqb-false _ _ f) in omega (arith, o, e, last_below k)))

  last_again : (k : ℕ) → last_in s c (last_in s c k) ≡ last_in s c k
  unfolding last_in
  last_again zero = refl
  last_again (suc k) =
      whether (eqb (chain_at s k) c)
      (λ t. let o = last_own k (eqb-true _ _ t) in rw o o)
      (λ f. rw (last_other k (eqb-false _ _ f)) (last_again k))

-- Behind the last row of its chain no row is the machine's.
latest_chain :
    (m : ℕ) (s : List ℕ) (k : ℕ) → latest m (rows_before layout1 s (last_in s (chain_of m) k)) ≡ latest m (rows_before layout1 s k)
unfolding last_in
latest_chain m s zero = refl
latest_chain m s (suc k) =
    whether (eqb (chain_at s k) (chain_of m))
    (λ t. rw (last_own s (chain_of m) k (eqb-true _ _ t)))
    (λ f. rw (last_other s (chain_of m) k (eqb-false _ _ f))
    (latest_chain m s k ∙ sym (rw (add-one k) at (latest_other m s k (λ e. eqb-false _ _ f (ap chain_of e))))))

-- ---- Along a chain

-- The latest edition is still to be found behind the row that the chain has come to.
abbrev pub Along : List ℕ → List ℕ → ℕ → ℕ → ℕ → Type 0
Along s before last m k =
    (k ≤ last)
    × Linked s before last
    × (last_in s (chain_of m) k ≡ k)
    × (latest m (rows_before layout1 s k) ≡ latest m (rows_before layout1 s last))

module _ (s before : List ℕ) (last m k : ℕ) (inv : Along s before last m k) where
  pub along_none : k ≤ 0 → 0 ≡ latest m (rows_before layout1 s last)
  along_none h = let e : k ≡ 0 = omega arith in sym (latest_none m s) ∙ (rw e at inv.3)

  module _ (h : 0 < k) {r : Row} (is : r ≡ fields_at s (row_place layout1 (k - 1))) where
    one : k ≡ suc (k - 1)
    one = omega (arith, h)

    again : latest m (rows_before layout1 s (k - 1 + 1)) ≡ latest m (rows_before layout1 s last)
    again = let e : k - 1 + 1 ≡ k = omega (arith, h) in rw e inv.3

    pub along_own : r.machine ≡ m → r.edition ≡ latest m (rows_before layout1 s last)
    along_own o = rw is (sym (latest_own m s (k - 1) (rw is at o)) ∙ again)

    link : get_or before (k - 1) 0 ≡ last_in s (chain_of m) (k - 1)
    link =
        inv.1 (k - 1) (omega (arith, h, inv.0))
        ∙ ap (λ (c : ℕ). last_in s c (k - 1)) (last_chain s (chain_of m) (k - 1) (rw one at inv.2))

    pub along_less : get_or before (k - 1) 0 < k
    along_less = omega (arith, h, link, last_below s (chain_of m) (k - 1))

    pub along_next : (r.machine ≡ m → ⊥) → Along s before last m (get_or before (k - 1) 0)
    along_next o = (
      omega (arith, along_less, inv.0),
      inv.1,
      rw link (last_again s (chain_of m) (k - 1)),
      rw link (latest_chain m s (k - 1) ∙ sym (latest_other m s (k - 1) (rw is at o)) ∙ again),
    )

-- ---- Editions that run

-- What both loops keep: all editions run where those of the rows left do.
abbrev pub Runs : List ℕ → ℕ → ℕ → Type 0
Runs s rows k =
    editions_run (rows_before layout1 s k) (rows_at 2 s (row_place layout1 k) (rows - k)) ≡ editions_run [] (rows_before layout1 s rows)

module _ (s : List ℕ) (rows : ℕ) where
  pub runs_first : Runs s rows 0
  unfolding rows_at
  runs_first = rw (sub-zero rows)

  module _ (k : ℕ) (inv : Runs s rows k) where
    pub runs_done : rows ≤ k → true ≡ editions_run [] (rows_before layout1 s rows)
    unfolding editions_run rows_at
    runs_done h = let z : rows - k ≡ 0 = omega arith in rw z at inv

    module _ (h : k < rows) {r : Row} (o : r ≡ fields_at s (row_place layout1 k)) {n : ℕ} (was : n ≡ latest r.machine (rows_before layout1 s k)) where
      step :
          editions_run (rows_before layout1 s k) (rows_at 2 s (row_place layout1 k) (rows - k))
          ≡ (eqb r.edition (n + 1)
          && editions_run (rows_before layout1 s (k + 1)) (rows_at 2 s (row_place layout1 (k + 1)) (rows - (k + 1))))
      unfolding editions_run rows_at row_at
      step =
          let left : rows - k ≡ suc (rows - (k + 1)) = omega arith in
          let at : row_place layout1 (k + 1) ≡ row_place layout1 k + book_row 2 = omega arith in
          rw (left, at, was, o, rows_at_more 2 s book_head k)

      pub runs_stop : (r.edition ≡ n + 1 → ⊥) → false ≡ editions_run [] (rows_before layout1 s rows)
      runs_stop g = sym (rw (ne_eqb r.edition (n + 1) g) at step) ∙ inv

      pub runs_next : r.edition ≡ n + 1 → Runs s rows (k + 1)
      runs_next g = sym (rw (eq-eqb r.edition (n + 1) g) at step) ∙ inv

-- The chains of the rows before.
abbrev pub Chains : List ℕ → List ℕ → List ℕ → ℕ → Type 0
Chains s last before k =
    ((length last ≡ chain_count) × ((c : ℕ) → c < chain_count → get_or last c 0 ≡ last_in s c k))
    × (length before ≡ rows_most)
    × Linked s before k

module _ (s : List ℕ) where
  pub chains_first : Chains s (replicate chain_count 0) (replicate rows_most 0) 0
  unfolding last_in
  chains_first = (
    (length-replicate {A = ℕ} chain_count 0, λ c h. zeros_at chain_count c),
    length-replicate {A = ℕ} rows_most 0,
    λ k h. absurd (omega (arith, h)),
  )

  module _ (last before : List ℕ) (k : ℕ) (inv : Chains s last before k) where
    module _ (h : k < rows_most) {r : Row} (o : r ≡ fields_at s (row_place layout1 k)) {chain : ℕ} (is : chain ≡ chain_of r.machine)
        (low : chain < chain_count) where
      abbrev m : ℕ
      m = r.machine

      own : chain_at s k ≡ chain
      own = sym (rw o at is)

      here : get_or last chain 0 ≡ last_in s chain k
      here = inv.0.1 chain low

      -- What `chained` asks, and what its answer is then.
      pub chains_asked :
          (get_or last chain 0 ≤ rows_most)
          × Linked s before (get_or last chain 0)
          × (last_in s (chain_of m) (get_or last chain 0) ≡ get_or last chain 0)
      chains_asked =
          let most = last_below s chain k in (
            omega (arith, here, most, h),
            λ j l. inv.2 j (omega (arith, here, most, l)),
            rw (← is, here) (last_again s chain k),
          )

      pub chains_told : latest m (rows_before layout1 s (get_or last chain 0)) ≡ latest m (rows_before layout1 s k)
      chains_told = rw (here, is) (latest_chain m s k)

      -- The row is the last one of its chain now, and beside it stands the one that was.
      lasts : (c : ℕ) → c < chain_count → get_or (set last chain (k + 1)) c 0 ≡ last_in s c (k + 1)
      lasts c l =
          whether (eqb c chain)
          (λ t. let same = eqb-true c chain t in
          rw (same, add-one k)
          (get_or-set_same last chain (suc k) 0 (omega (arith, low, inv.0.0)) ∙ sym (last_own s chain k own)))
          (λ f. let apart = eqb-false c chain f in
          rw (add-one k)
          (get_or-set_other last chain c (suc k) 0 apart ∙ inv.0.1 c l ∙ sym (last_other s c k (λ e. apart (sym e ∙ own)))))

      links : Linked s (set before k (get_or last chain 0)) (k + 1)
      links j l =
          whether (eqb j k)
          (λ t. rw (eqb-true j k t)
          (get_or-set_same before k (get_or last chain 0) 0 (omega (arith, h, inv.1))
          ∙ here
          ∙ ap (λ (c : ℕ). last_in s c k) (sym own)))
          (λ f. let apart = eqb-false j k f in
          get_or-set_other before k j (get_or last chain 0) 0 apart ∙ inv.2 j (omega (arith, l, apart)))

      pub chains_next : Chains s (set last chain (k + 1)) (set before k (get_or last chain 0)) (k + 1)
      chains_next = (
        (length-set last chain (k + 1) ∙ inv.0.0, lasts),
        length-set before k (get_or last chain 0) ∙ inv.1,
        links,
      )

-- ---- How many rows a good book has at most

pub many_rows : (rows : ℕ) → rows_most < rows → leb rows rows_most ≡ false
many_rows rows h = lt-leb rows rows_most h

pub no_more_rows : (rows : ℕ) → rows ≤ rows_most → leb rows rows_most ≡ true
no_more_rows rows h = le-leb rows rows_most h
