-- Laws of the sets of slots: how many there are, and what the passes over the entries keep. Assumes nothing.
use Prim.Native.Nat.{ℕ, ◌/◌, ◌≤◌, ◌<◌, max}
use mathlib.Core.Path.{◌≡◌, refl, sym, ap, ◌∙◌}
use mathlib.Core.Bool.{Bool, true, false, ◌||◌, or_assoc}
use mathlib.Core.List.{List, [], ◌∷◌, ◌++◌}
use native.Mathlib.Omega.{arith}
use lib.Dec.{eqb, ltb}
use lib.ListN.{length}
use borrow.Author.Tests.{ne_eqb, ltb-true, ltb-false}
use Rattle.mps.specs.Words.{among, keep, each, below}
use Rattle.mps.specs.Layout.{Entry, id_of, source_bus, source_irq}
use Rattle.mps.specs.Sections.{rows}
use Rattle.laws.proofs.Tests.{whether, or_swap}
use Rattle.laws.proofs.Lists.{keep_in, keep_out, keep_nothing}
use Rattle.laws.proofs.Rising.{keep_rising, keep_more, keep_again}
use Rattle.laws.proofs.Rows.{rows_short, rows_cut}
use Rattle.roll.specs.Roll.{bus_bit, marked}
use Rattle.sets.specs.Sets.{holds, with_number}
use Rattle.sets.proofs.Laws.{length_put, holds_put}
use Rattle.slots.specs.Sets.{slots_most, slot_number, named_on, Held}

-- ---- How many there are

-- No more than the numbers that they are among.
pub among_few : (ns : List ℕ) (k : ℕ) → length (keep (λ (n : ℕ). among n ns) (below k)) ≤ length ns
unfolding among
among_few [] k = rw (keep_nothing (below k)) (omega arith)
among_few (x ∷ ns) k =
    let has : ℕ → Bool = λ n. among n ns in
    let also : ℕ → Bool = λ n. eqb n x || among n ns in
    let one : (y : ℕ) → also y ≡ (eqb y x || has y) = λ y. refl in
    let rest = among_few ns k in
    whether (among x ns)
    (λ t. omega (arith, ap length (keep_again has also x one k 0 t), rest))
    (λ f. whether (ltb x k)
    (λ l. omega (arith, keep_more has also x one k 0 (omega arith) (omega (arith, ltb-true x k l)) f, rest))
    (λ l. omega (arith, ap length (keep_rising also has k 0 (λ y a h. rw (ne_eqb y x (λ e. omega (arith, e, h, ltb-false x k l))))), rest)))

-- ---- The pass over the bus entries

-- What it keeps: above the number that it has, only the rows left have an ID.
abbrev pub Tops : List ℕ → List ℕ → ℕ → Type 0
Tops s rest top = (x : ℕ) → top < x → among x (each id_of (rows 8 s)) ≡ among x (each id_of (rows 8 rest))

module _ (s rest : List ℕ) (top : ℕ) (inv : Tops s rest top) where
  pub tops_done : length rest < 8 → (x : ℕ) → top < x → among x (each id_of (rows 8 s)) ≡ false
  unfolding among each
  tops_done f x h = inv x h ∙ rw (rows_short 8 rest f)

  pub tops_next : (e left : List ℕ) → length e ≡ 8 → rest ≡ e ++ left → {u : ℕ} → u ≡ max top (id_of e) → Tops s left u
  unfolding among each
  tops_next e left l c {u} m x h =
      inv x (omega (arith, h, m)) ∙ rw (c, rows_cut 8 e left (omega arith) l, ne_eqb x (id_of e) (λ q. omega (arith, q, h, m)))

-- ---- The pass over the interrupts

-- What it keeps: what the rows left name and what is in the set are together what there is to be.
abbrev pub Notes : List ℕ → List ℕ → List ℕ → List ℕ → List ℕ → Type 0
Notes words₀ roll s words rest =
    ((n : ℕ) → (among n (named_on roll (rows 8 rest)) || holds words n) ≡ (among n (named_on roll (rows 8 s)) || holds words₀ n))
    × (length words ≡ length words₀)

module _ (words₀ roll s words rest : List ℕ) (inv : Notes words₀ roll s words rest) where
  pub notes_done : length rest < 8 → (n : ℕ) → holds words n ≡ (among n (named_on roll (rows 8 s)) || holds words₀ n)
  unfolding named_on keep each among
  notes_done f n = rw (rows_short 8 rest f) at (inv.0 n)

  -- The row there names a slot on a bus of the roll, or it does not. r is what the roll told.
  module _ (e left : List ℕ) (l : length e ≡ 8) (c : rest ≡ e ++ left) {r : Bool} (told : r ≡ marked 3 roll (source_bus e)) where
    on_it : Entry → Bool
    on_it x = marked bus_bit roll (source_bus x)

    pub notes_inside : {n : ℕ} → r ≡ true → Held roll (length words₀) → n ≡ slot_number (source_bus e) (source_irq e) → n < slots_most → n / 64 < length words
    unfolding slot_number
    notes_inside {n} t held g b = omega (arith, held (source_bus e) (omega (arith, g, b)) (sym told ∙ t), g, inv.1)

    pub notes_in :
        {n : ℕ} {u : List ℕ} → r ≡ true → n ≡ slot_number (source_bus e) (source_irq e) → n / 64 < length words
        → u ≡ with_number words n → Notes words₀ roll s u left
    unfolding named_on each among on_it
    notes_in {n} t g h v =
        let here : named_on roll (rows 8 rest) ≡ n ∷ named_on roll (rows 8 left) =
        rw (c, rows_cut 8 e left (omega arith) l, keep_in on_it e (rows 8 left) (sym told ∙ t), g) in (
          λ m. rw (v, holds_put words n m (λ e. omega (arith, h)))
              (or_swap (among m (named_on roll (rows 8 left))) (eqb m n) (holds words m)
              ∙ sym (or_assoc (eqb m n) (among m (named_on roll (rows 8 left))) (holds words m)) ∙ rw here at (inv.0 m)),
          rw v (length_put words n ∙ inv.1),
        )

    pub notes_out : r ≡ false → Notes words₀ roll s words left
    unfolding named_on on_it
    notes_out t =
        let same : named_on roll (rows 8 rest) ≡ named_on roll (rows 8 left) =
        rw (c, rows_cut 8 e left (omega arith) l, keep_out on_it e (rows 8 left) (sym told ∙ t)) in
        (rw same at inv.0, inv.1)
