-- The offsets of a book's rows, stored one by one. Assumes nothing.
use Rattle.std.proofs.Common.{◌≡◌, ℕ, zero, suc, ◌+◌, ◌-◌, ◌%◌, ◌^◌, ◌<◌, ◌≤◌, List, ◌++◌, length, drop, sym, refl, ◌∙◌, arith, drop-drop}
use lib.Seq.{sets, length-sets}
use Rattle.mps.specs.Words.{part}
use Rattle.mps.specs.Numbers.{le, bytes}
use Rattle.mps.specs.Layout.{book_row, body_start}
use Rattle.laws.proofs.Parts.{length_part}
use Rattle.laws.proofs.Stores.{sets_append, sets_standing, sets_drop}
use Rattle.numbers.proofs.Laws.{le_drop, length_bytes, bytes_wrap}
use Rattle.pages.specs.Pages.{moved_rows}

-- ---- Only what stands from the first row on is read

drop_alike : (s u : List ℕ) (at a : ℕ) → drop at u ≡ drop at s → at ≤ a → drop a u ≡ drop a s
drop_alike s u at a e h =
    let f : at + (a - at) ≡ a = omega arith in
    sym (rw f at (drop-drop (a - at) at u)) ∙ rw e (rw f at (drop-drop (a - at) at s))

moved_alike : (w : ℕ) (s u : List ℕ) (at n : ℕ) → drop at u ≡ drop at s → moved_rows w u at n ≡ moved_rows w s at n
unfolding moved_rows
moved_alike w s u at zero e = refl
moved_alike w s u at (suc n) e =
    let start : le w u (at + 4) ≡ le w s (at + 4) = sym (le_drop w at u 4) ∙ rw e (le_drop w at s 4) in
    let behind : (k : ℕ) → at ≤ k → drop k u ≡ drop k s = λ k h. drop_alike s u at k e h in
    rw (
      e,
      start,
      behind (at + 4 + w) (omega arith),
      moved_alike w s u (at + book_row w) n (behind (at + book_row w) (omega arith)),
    )

-- ---- The offsets

-- Bytes that stand there already.
part_standing : (s u : List ℕ) (at k : ℕ) → at + k ≤ length s → drop at s ≡ drop at u → sets s at (part at (at + k) u) ≡ s
part_standing s u at k h e =
    let f : at + k - at ≡ k = omega arith in
    let l : length (part at (at + k) s) ≡ k = length_part at (at + k) s h ∙ f in
    rw (← e) (sets_standing s at (part at (at + k) s) (omega (arith, l)) (rw (l, f)))

module _ (w : ℕ) (s : List ℕ) (at : ℕ) where
  pub moved_done : (rows k : ℕ) → rows ≤ k → sets s at (moved_rows w s at (rows - k)) ≡ s
  unfolding moved_rows
  moved_done rows k h = let e : rows - k ≡ 0 = omega arith in rw e

  moved_one :
      (n : ℕ) (u : List ℕ) → at + book_row w ≤ length s → u ≡ sets s (at + 4) (bytes w (body_start w s at + book_row w))
      → sets u (at + book_row w) (moved_rows w u (at + book_row w) n) ≡ sets s at (moved_rows w s at (suc n))
  unfolding moved_rows
  moved_one n u h e =
      let a = part at (at + 4) s in
      let b = bytes w (body_start w s at + book_row w) in
      let p = part (at + 4 + w) (at + book_row w) s in
      let m = moved_rows w s (at + book_row w) n in
      let lb = length_bytes w (body_start w s at + book_row w) in
      let lu : length u ≡ length s = rw e (length-sets s (at + 4) b) in
      let behind : (k : ℕ) → at + 4 + w ≤ k → drop k u ≡ drop k s = λ k g. rw e (sets_drop s (at + 4) b k (omega (arith, lb, g))) in
      let one : sets s at a ≡ s = part_standing s s at 4 (omega arith) refl in
      let end : at + 4 + w + w ≡ at + book_row w = omega arith in
      let two : sets u (at + 4 + w) p ≡ u =
      rw end at (part_standing u s (at + 4 + w) w (omega (arith, lu)) (behind (at + 4 + w) (omega arith))) in
      let ea : at + length a ≡ at + 4 = omega (arith, length_part at (at + 4) s (omega arith)) in
      let eb : at + 4 + length b ≡ at + 4 + w = omega (arith, lb) in
      let ep : at + 4 + w + length p ≡ at + book_row w = omega (arith, length_part (at + 4 + w) (at + book_row w) s (omega arith)) in
      rw (moved_alike w s u (at + book_row w) n (behind (at + book_row w) (omega arith)))
      (sym
      (sets_append s at a (b ++ (p ++ m))
      ∙ rw (one, ea) (sets_append s (at + 4) b (p ++ m) ∙ rw (← e, eb) (sets_append u (at + 4 + w) p m ∙ rw (two, ep) refl))))

  -- One row's offset is stored.
  pub moved_next :
      (rows k : ℕ) {x y : ℕ} {u : List ℕ} → k < rows → at + book_row w ≤ length s → x ≡ body_start w s at → y ≡ (x + book_row w) % 256 ^ w
      → u ≡ sets s (at + 4) (bytes w y)
      → sets u (at + book_row w) (moved_rows w u (at + book_row w) (rows - (k + 1))) ≡ sets s at (moved_rows w s at (rows - k))
  moved_next rows k {x} {y} {u} h fits e f g =
      let n : rows - k ≡ suc (rows - (k + 1)) = omega arith in
      rw n (moved_one (rows - (k + 1)) u fits (g ∙ rw (f, bytes_wrap w (x + book_row w), e)))
