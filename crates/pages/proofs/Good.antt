-- A good book, by what the code tests. Assumes nothing.
use Prim.Native.Nat.{ℕ, ◌+◌, ◌*◌, ◌^◌, ◌≤◌, ◌<◌}
use mathlib.Core.Path.{◌≡◌, refl, ap, sym, ◌∙◌}
use mathlib.Core.Bool.{true, false, cond, not, ◌&&◌}
use mathlib.Core.List.{List, [], ◌∷◌, ◌++◌}
use native.Mathlib.Omega.{arith}
use lib.ListN.{length, take, drop, length-append, length-take, take-append-drop}
use lib.Seq.{drop-cons, get_or-take}
use lib.Dec.{ltb, leb, eqb}
use borrow.Author.Tests.{ltb-true, ltb-false, leb-true, le-leb, eqb-true, eqb-false, eq-eqb}
use Rattle.mps.specs.Words.{byte, same, first, among, every, each, joined}
use Rattle.mps.specs.Refusals.{◌when◌, refusal, base_number}
use Rattle.mps.specs.Numbers.{bytes}
use Rattle.mps.specs.Layout.{header_size, extended_end, book_head, book_rows, book_row}
use Rattle.mps.specs.Judge.{table_rules, table_refusal}
use Rattle.mps.specs.Book.{Row, body_in, BookLayout, layout1, body_rules, body_refusal, good_body, editions_run}
use Rattle.mps.specs.Book.{bodies_at, rows_from, book_of, rows_of, begins, good_book}
use Rattle.laws.proofs.Tests.{whether, contrary, same_test, and_parts}
use Rattle.laws.proofs.Parts.{pieces_join}
use Rattle.laws.proofs.Refusals.{refusal_append, refusal_before}
use Rattle.laws.proofs.Small.{Bytes}
use Rattle.numbers.proofs.Laws.{bytes_le}
use Rattle.slices.proofs.Laws.{same_is, same_true}
use Rattle.accepted.proofs.Sound.{sound}
use Rattle.pages.specs.Pages.{walked, limit_of, headed, end_of, Readable, rows_most}
use Rattle.pages.proofs.Again.{stands}
use Rattle.pages.proofs.Bytes.{length_book, length_rows}
use Rattle.pages.proofs.Placed.{Placed, walked_placed, placed_walked, placed_within, placed_good}
use Rattle.pages.proofs.Placed.{placed_rows, placed_bodies, rows_placed}

-- ---- A book whose rows are so placed

module _ (l : BookLayout) (s : List ℕ) where
  pub limit_inside : limit_of l s ≤ length s
  unfolding limit_of
  limit_inside = whether (ltb (length s) l.most) (λ t. rw t (omega arith)) (λ f. rw f (ltb-false (length s) l.most f))

  pub limit_most : limit_of l s ≤ l.most
  unfolding limit_of
  limit_most =
      whether (ltb (length s) l.most) (λ t. rw t (omega (arith, ltb-true (length s) l.most t))) (λ f. rw f (omega arith))

  pub limit_least : (n : ℕ) → n ≤ length s → n ≤ l.most → n ≤ limit_of l s
  unfolding limit_of
  limit_least n h k = whether (ltb (length s) l.most) (λ t. rw t h) (λ f. rw f k)

  -- What the code has found where it tells an end.
  record Standing : Type 0 where
    pub marked : byte s 0 ≡ l.mark
    pub roomy : bodies_at l.width (book_rows s) ≤ limit_of l s
    pub placed : Placed l.width (limit_of l s) s book_head (bodies_at l.width (book_rows s)) (book_rows s)

  end_walked : headed l s ≡ true
      → end_of l s ≡ walked l.width (limit_of l s) s book_head (bodies_at l.width (book_rows s)) (book_rows s)
  unfolding end_of
  end_walked h = rw (h, end_of)

  end_none : headed l s ≡ false → end_of l s ≡ 0
  unfolding end_of
  end_none h = rw (h, end_of)

  headed_standing : headed l s ≡ true → (end_of l s ≡ 0 → ⊥) → Standing
  unfolding headed
  headed_standing h e =
      let w = l.width in
      let p = and_parts _ (leb (bodies_at w (book_rows s)) (limit_of l s)) h in
      record {
        marked = eqb-true (byte s 0) l.mark (and_parts (leb book_head (limit_of l s)) (eqb (byte s 0) l.mark) p.0).1;
        roomy = leb-true (bodies_at w (book_rows s)) (limit_of l s) p.1;
        placed =
            walked_placed w (limit_of l s) s book_head (bodies_at w (book_rows s)) (book_rows s) limit_inside
            (λ z. e (end_walked h ∙ z));
      }

  ends_standing : (end_of l s ≡ 0 → ⊥) → Standing
  ends_standing e = whether (headed l s) (λ h. headed_standing h e) (λ h. absurd (e (end_none h)))

  standing_headed : Standing → headed l s ≡ true
  unfolding headed bodies_at
  standing_headed t =
      rw (
        le-leb book_head (limit_of l s) (omega (arith, t.roomy)),
        eq-eqb (byte s 0) l.mark t.marked,
        le-leb (bodies_at l.width (book_rows s)) (limit_of l s) t.roomy,
      )

  standing_ends : Standing → end_of l s ≡ length (book_of l (rows_of l s))
  unfolding rows_of
  standing_ends t =
      end_walked (standing_headed t)
      ∙ placed_walked l.width (limit_of l s) s t.placed
      ∙ sym (rw (length_rows l s) at (length_book l (rows_of l s)))

  -- The bytes of the book that the rows make are one byte, two bytes, the rows and the bodies.
  book_pieces : book_of l (rows_of l s)
      ≡ (l.mark ∷ [])
      ++ (bytes 2 (book_rows s)
      ++ (rows_from l.width (bodies_at l.width (book_rows s)) (rows_of l s) ++ joined body_in (rows_of l s)))
  unfolding book_of
  book_pieces = rw (length_rows l s)

  length_pieces : length (book_of l (rows_of l s))
      ≡ 1 + (2 + (book_rows s * book_row l.width + length (joined body_in (rows_of l s))))
  unfolding bodies_at
  length_pieces = length_book l (rows_of l s) ∙ rw (length_rows l s) (omega arith)

  standing_begins : Bytes s → Standing → take (length (book_of l (rows_of l s))) s ≡ book_of l (rows_of l s)
  unfolding bodies_at rows_of
  standing_begins b t =
      let w = l.width in
      let n = book_rows s * book_row w in
      let bodies = joined body_in (rows_of l s) in
      let room = limit_inside in
      let mark : take 1 (drop 0 s) ≡ l.mark ∷ [] = rw (drop-cons s 0 0 (omega (arith, t.roomy, room)), t.marked) in
      rw (length_pieces, book_pieces)
      (pieces_join s 0 1 (2 + (n + length bodies)) (l.mark ∷ []) _
      mark
      (pieces_join s 1 2 (n + length bodies) (bytes 2 (book_rows s)) _
      (sym (bytes_le 2 s 1 (omega (arith, t.roomy, room)) b))
      (pieces_join s book_head n (length bodies) _ bodies
      (placed_rows w (limit_of l s) s t.placed b (omega (arith, t.roomy, room)))
      (placed_bodies w (limit_of l s) s t.placed))))

  -- Where the room begins with that book, its rows are so placed.
  begins_placed : (limit : ℕ) → limit < 256 ^ l.width → take (length (book_of l (rows_of l s))) s ≡ book_of l (rows_of l s)
      → length (book_of l (rows_of l s)) ≤ limit → every good_body (each body_in (rows_of l s)) ≡ true
      → Placed l.width limit s book_head (bodies_at l.width (book_rows s)) (book_rows s)
  unfolding bodies_at rows_of
  begins_placed limit r e h g =
      let w = l.width in
      let rows = rw (length_rows l s) at (stands l (rows_of l s) s e).first in
      rows_placed w limit s book_head (bodies_at w (book_rows s)) (book_rows s) r rows (omega (arith, length_pieces, h)) g

  begins_mark : take (length (book_of l (rows_of l s))) s ≡ book_of l (rows_of l s) → byte s 0 ≡ l.mark
  unfolding book_of
  begins_mark e =
      let b = book_of l (rows_of l s) in
      sym (get_or-take (length b) s 0 0 (omega arith)) ∙ ap (λ (b : List ℕ). byte b 0) e

  -- ---- What a good book is

  good_parts : good_book l s ≡ true
      → (take (length (book_of l (rows_of l s))) s ≡ book_of l (rows_of l s)) × (length (book_of l (rows_of l s)) ≤ l.most)
      × (editions_run [] (rows_of l s) ≡ true) × (every good_body (each body_in (rows_of l s)) ≡ true)
  unfolding good_book begins
  good_parts g =
      let b = book_of l (rows_of l s) in
      let p = and_parts _ (every good_body (each body_in (rows_of l s))) g in
      let q = and_parts _ (editions_run [] (rows_of l s)) p.0 in
      let r = and_parts (same (take (length b) s) b) (leb (length b) l.most) q.0 in
      (same_true (take (length b) s) b r.0, leb-true (length b) l.most r.1, q.1, p.1)

  -- The room is the book, and what lies behind it.
  pub book_stands : good_book l s ≡ true → s ≡ book_of l (rows_of l s) ++ drop (length (book_of l (rows_of l s))) s
  book_stands g =
      let n = length (book_of l (rows_of l s)) in
      sym (take-append-drop n s) ∙ ap (λ (b : List ℕ). b ++ drop n s) (good_parts g).0

  pub book_inside : good_book l s ≡ true → length (book_of l (rows_of l s)) ≤ length s
  book_inside g =
      let b = book_of l (rows_of l s) in
      omega (arith, ap length (good_parts g).0, length-take (length b) s)

  pub book_most_lem : good_book l s ≡ true → length (book_of l (rows_of l s)) ≤ l.most
  book_most_lem g = (good_parts g).1

  pub good_run : good_book l s ≡ true → editions_run [] (rows_of l s) ≡ true
  good_run g = (good_parts g).2

  pub good_bodies : good_book l s ≡ true → every good_body (each body_in (rows_of l s)) ≡ true
  good_bodies g = (good_parts g).3

  -- It is so placed within its own bytes.
  pub good_placed : Readable l → good_book l s ≡ true
      → Placed l.width (length (book_of l (rows_of l s))) s book_head (bodies_at l.width (book_rows s)) (book_rows s)
  good_placed r g =
      let n = length (book_of l (rows_of l s)) in
      begins_placed n (omega (arith, r.reaches, book_most_lem g)) (good_parts g).0 (omega arith) (good_bodies g)

  good_standing : Readable l → good_book l s ≡ true → Standing
  unfolding bodies_at
  good_standing r g =
      let limit = limit_of l s in
      let inside = limit_least (length (book_of l (rows_of l s))) (book_inside g) (book_most_lem g) in
      record {
        marked = begins_mark (good_parts g).0;
        roomy = omega (arith, inside, length_pieces);
        placed = begins_placed limit (omega (arith, r.reaches, limit_most)) (good_parts g).0 inside (good_bodies g);
      }

  standing_within : Standing → length (book_of l (rows_of l s)) ≤ limit_of l s
  unfolding rows_of
  standing_within t =
      rw (length_book l (rows_of l s), length_rows l s) (placed_within l.width (limit_of l s) s t.placed t.roomy)

  standing_bodies : Standing → every good_body (each body_in (rows_of l s)) ≡ true
  unfolding rows_of
  standing_bodies t = placed_good l.width (limit_of l s) s t.placed

  standing_good : Bytes s → Standing → editions_run [] (rows_of l s) ≡ true → good_book l s ≡ true
  unfolding good_book begins
  standing_good b t e =
      let k = book_of l (rows_of l s) in
      rw (
        same_is (take (length k) s) k (standing_begins b t),
        le-leb (length k) l.most (omega (arith, standing_within t, limit_most)),
        e,
        standing_bodies t,
      )

  -- ---- A good book, by where the code says that it ends

  -- A book has at least three bytes.
  book_some : length (book_of l (rows_of l s)) ≡ 0 → ⊥
  book_some z = omega (arith, length_pieces, z)

  good_ends : Readable l → good_book l s ≡ true → end_of l s ≡ length (book_of l (rows_of l s))
  good_ends r g = standing_ends (good_standing r g)

  pub ends_good : Bytes s → (end_of l s ≡ 0 → ⊥) → editions_run [] (rows_of l s) ≡ true
      → (good_book l s ≡ true) × (end_of l s ≡ length (book_of l (rows_of l s)))
  ends_good b some e = let t = ends_standing some in (standing_good b t e, standing_ends t)

  pub bad_end : Readable l → end_of l s ≡ 0 → good_book l s ≡ false
  bad_end r z =
      whether (good_book l s) (λ g. absurd (book_some (sym (good_ends r g) ∙ z))) (λ f. f)

  pub bad_editions : editions_run [] (rows_of l s) ≡ false → good_book l s ≡ false
  bad_editions f = contrary (good_book l s) (editions_run [] (rows_of l s)) good_run f

  -- The head is there, the rows are good one behind the other, and the editions run.
  pub good_exactly : Readable l → Bytes s
      → good_book l s
      ≡ (headed l s
      && not (eqb (walked l.width (limit_of l s) s book_head (bodies_at l.width (book_rows s)) (book_rows s)) 0)
      && editions_run [] (rows_of l s))
  good_exactly r b =
      let n = walked l.width (limit_of l s) s book_head (bodies_at l.width (book_rows s)) (book_rows s) in
      whether (headed l s)
      (λ h.
      whether (eqb n 0)
      (λ z. rw (h, z) (bad_end r (end_walked h ∙ eqb-true n 0 z)))
      (λ f.
      let some : end_of l s ≡ 0 → ⊥ = λ z. eqb-false n 0 f (sym (end_walked h) ∙ z) in
      rw (h, f) (same_test (good_book l s) (editions_run [] (rows_of l s)) good_run (λ e. (ends_good b some e).0))))
      (λ h. rw h (bad_end r (end_none h)))

-- ---- A body

-- "the new body's own number, or 7 if bytes follow the table"
pub body_own : (b : List ℕ) → body_refusal b ≡ first (table_refusal b) (cond (ltb (extended_end b) (length b)) base_number 0)
unfolding body_refusal body_rules table_refusal table_rules refusal among each
body_own b = refusal_append (table_rules b) (base_number when ltb (extended_end b) (length b) ∷ []) refl

pub good_accepted : (b : List ℕ) → good_body b ≡ true → table_refusal b ≡ 0
unfolding good_body body_refusal body_rules table_refusal
good_accepted b g = refusal_before (table_rules b) _ (eqb-true _ 0 g)

-- ---- How many rows there are

-- A good body has at least the bytes of a header.
bodies_least : (rows : List Row) → every good_body (each body_in rows) ≡ true
    → length rows * header_size ≤ length (joined body_in rows)
unfolding every each joined
bodies_least [] g = omega arith
bodies_least (r ∷ rows) g =
    let p = and_parts (good_body r.body) (every good_body (each body_in rows)) g in
    let long = (sound r.body (good_accepted r.body p.0)).long in
    omega (arith, length-append r.body (joined body_in rows), long, bodies_least rows p.1)

pub ends_rows : (s : List ℕ) → (end_of layout1 s ≡ 0 → ⊥) → book_rows s ≤ rows_most
ends_rows s some =
    let t = ends_standing layout1 s some in
    omega (
      arith,
      length_pieces layout1 s,
      length_rows layout1 s,
      bodies_least (rows_of layout1 s) (standing_bodies layout1 s t),
      standing_within layout1 s t,
      limit_most layout1 s,
    )
