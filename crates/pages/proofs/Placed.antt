-- Rows whose bodies stand one behind the other, in the rows' order. Assumes nothing.
use Prim.Native.Nat.{ℕ, zero, suc, ◌+◌, ◌-◌, ◌*◌, ◌^◌, ◌≤◌, ◌<◌}
use mathlib.Core.Path.{◌≡◌, refl, sym, ◌∙◌}
use mathlib.Core.Bool.{true}
use mathlib.Core.List.{List}
use native.Mathlib.Nat.{zero-mul, suc-mul, mod-eq_of_lt}
use native.Mathlib.Omega.{arith}
use lib.ListN.{length, take, drop, length-append}
use lib.Dec.{leb, eqb}
use borrow.Author.Tests.{leb-true, le-leb, eqb-true, eq-eqb}
use Rattle.mps.specs.Words.{every, each, joined, part}
use Rattle.mps.specs.Layout.{book_row, body_start, body_size}
use Rattle.mps.specs.Book.{body_in, good_body, rows_from, row_at, rows_at}
use Rattle.laws.proofs.Tests.{whether, and_parts}
use Rattle.laws.proofs.Parts.{length_part, pieces_join}
use Rattle.laws.proofs.Small.{Bytes}
use Rattle.pages.specs.Pages.{good_place, walked}
use Rattle.pages.proofs.Bytes.{row_machine, row_edition, row_body, row_stands, row_reads}

module _ (w limit : ℕ) (s : List ℕ) where
  -- The row at a place tells of a good body that begins at `start` and does not pass the limit.
  pub record Fits (at start : ℕ) : Type 0 where
    pub starts : body_start w s at ≡ start
    pub sized : body_size w s at ≡ length (row_at w s at).body
    pub ends : start + length (row_at w s at).body ≤ limit
    pub good : good_body (row_at w s at).body ≡ true

  -- And so do n rows, each body where the one before it ends.
  pub data Placed : ℕ → ℕ → ℕ → Type 0 where
    placed_none : {at start : ℕ} → Placed at start 0
    placed_row : {at start n : ℕ} → Fits at start
        → Placed (at + book_row w) (start + length (row_at w s at).body) n → Placed at start (suc n)

  body_is : (at start : ℕ) → body_start w s at ≡ start → (row_at w s at).body ≡ part start (start + body_size w s at) s
  body_is at start e = row_body w s at ∙ rw e

  row_fits : (at start : ℕ) → limit ≤ length s → good_place w limit s at start ≡ true → Fits at start
  unfolding good_place
  row_fits at start h g =
      let p = and_parts _ (good_body (part start (start + body_size w s at) s)) g in
      let q = and_parts (eqb (body_start w s at) start) (leb (start + body_size w s at) limit) p.0 in
      let starts = eqb-true (body_start w s at) start q.0 in
      let ends = leb-true (start + body_size w s at) limit q.1 in
      let b = body_is at start starts in
      let sized : body_size w s at ≡ length (row_at w s at).body =
      rw b (omega (arith, ends, h, length_part start (start + body_size w s at) s (omega (arith, ends, h)))) in
      record { starts = starts; sized = sized; ends = omega (arith, sized, ends); good = rw b p.1 }

  fits_row : (at start : ℕ) → Fits at start → good_place w limit s at start ≡ true
  unfolding good_place
  fits_row at start f =
      rw (
        eq-eqb (body_start w s at) start f.starts,
        le-leb (start + body_size w s at) limit (omega (arith, f.sized, f.ends)),
        ← body_is at start f.starts,
      )
      f.good

  pub walked_placed : (at start n : ℕ) → limit ≤ length s → (walked w limit s at start n ≡ 0 → ⊥) → Placed at start n
  unfolding walked
  walked_placed at start zero h e = placed_none
  walked_placed at start (suc n) h e =
      whether (good_place w limit s at start)
      (λ g. let f = row_fits at start h g in
      placed_row f (rw (← f.sized) (walked_placed (at + book_row w) (start + body_size w s at) n h (λ z. e (rw (g, walked) z)))))
      (λ g. absurd (e (rw (g, walked))))

  pub placed_walked : {at start n : ℕ} → Placed at start n
      → walked w limit s at start n ≡ start + length (joined body_in (rows_at w s at n))
  unfolding walked rows_at joined
  placed_walked placed_none = omega arith
  placed_walked (placed_row {at} {start} {n} f p) =
      let b = (row_at w s at).body in
      let c = joined body_in (rows_at w s (at + book_row w) n) in
      rw (fits_row at start f, walked, f.sized, placed_walked p, length-append b c) (omega arith)

  pub placed_within : {at start n : ℕ} → Placed at start n → start ≤ limit
      → start + length (joined body_in (rows_at w s at n)) ≤ limit
  unfolding rows_at joined
  placed_within placed_none h = omega arith
  placed_within (placed_row {at} {start} {n} f p) h =
      rw (length-append (row_at w s at).body (joined body_in (rows_at w s (at + book_row w) n)))
      (omega (arith, placed_within p f.ends))

  pub placed_good : {at start n : ℕ} → Placed at start n → every good_body (each body_in (rows_at w s at n)) ≡ true
  unfolding rows_at every each
  placed_good placed_none = refl
  placed_good (placed_row f p) = rw (f.good, placed_good p)

  -- The bytes of the rows are those that their rows make, and so are the bodies'.
  pub placed_rows : {at start n : ℕ} → Placed at start n → Bytes s → at + n * book_row w ≤ length s
      → take (n * book_row w) (drop at s) ≡ rows_from w start (rows_at w s at n)
  unfolding rows_at rows_from
  placed_rows placed_none b h = rw (zero-mul (book_row w))
  placed_rows (placed_row {at} {start} {n} f p) b h =
      let e : suc n * book_row w ≡ book_row w + n * book_row w = rw (suc-mul n (book_row w)) (omega arith) in
      rw (
        e,
        row_stands s at w (n * book_row w) b (omega (arith, e, h)),
        f.starts,
        f.sized,
        placed_rows p b (omega (arith, e, h)),
        row_machine w s at,
        row_edition w s at,
      )

  pub placed_bodies : {at start n : ℕ} → Placed at start n
      → take (length (joined body_in (rows_at w s at n))) (drop start s) ≡ joined body_in (rows_at w s at n)
  unfolding rows_at joined
  placed_bodies placed_none = refl
  placed_bodies (placed_row {at} {start} {n} f p) =
      let b = (row_at w s at).body in
      let c = joined body_in (rows_at w s (at + book_row w) n) in
      let m : start + body_size w s at - start ≡ length b = omega (arith, f.sized) in
      let first : take (length b) (drop start s) ≡ b = sym (rw m at (body_is at start f.starts)) in
      rw (length-append b c) (pieces_join s start (length b) (length c) b c first (placed_bodies p))

  -- Where the bytes of rows are those that they make, they are so placed.
  pub rows_placed : (at start n : ℕ) → limit < 256 ^ w → take (n * book_row w) (drop at s) ≡ rows_from w start (rows_at w s at n)
      → start + length (joined body_in (rows_at w s at n)) ≤ limit → every good_body (each body_in (rows_at w s at n)) ≡ true
      → Placed at start n
  unfolding rows_at rows_from joined every each
  rows_placed at start zero r e h g = placed_none
  rows_placed at start (suc n) r e h g =
      let b = (row_at w s at).body in
      let c = joined body_in (rows_at w s (at + book_row w) n) in
      let k : suc n * book_row w ≡ book_row w + n * book_row w = rw (suc-mul n (book_row w)) (omega arith) in
      let i : start + (length b + length c) ≤ limit = rw (length-append b c) at h in
      let q = row_reads s at w (n * book_row w) _ _ start (length b) _ (rw k at e) in
      let p = and_parts (good_body b) _ g in
      placed_row
      (record {
        starts = q.2 ∙ mod-eq_of_lt (omega (arith, i, r));
        sized = q.3 ∙ mod-eq_of_lt (omega (arith, i, r));
        ends = omega (arith, i);
        good = p.0;
      })
      (rows_placed (at + book_row w) (start + length b) n r q.4 (omega (arith, i)) p.1)
