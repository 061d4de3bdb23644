-- The walk over the entries of an accepted table, by the places that the reader would hand out. Assumes nothing.
use Prim.Native.Nat.{ℕ, ◌+◌, ◌≤◌, ◌<◌}
use mathlib.Core.Path.{◌≡◌, refl, ap, sym, ◌∙◌}
use mathlib.Core.Bool.{false}
use mathlib.Core.List.{List, [], ◌∷◌, ◌++◌, append_assoc, append-nil}
use native.Mathlib.Omega.{arith}
use lib.ListN.{length, length-append}
use Rattle.mps.specs.Words.{joined, part}
use Rattle.mps.specs.Layout.{Entry, type, of_type, processor_type, first_extended_type, header_size, extended_end, base_entry_length, base_entries, extended_entries}
use Rattle.mps.specs.Table.{entry_fault, walk_from, extended_fault, extended_from}
use Rattle.mps.specs.Judge.{table_refusal}
use Rattle.mps.specs.Reader.{next_place}
use Rattle.mps.specs.Listing.{base_line, extended_line}
use Rattle.laws.proofs.Tests.{whether, or_parts}
use Rattle.laws.proofs.Refusals.{first_none}
use Rattle.laws.proofs.Joined.{joined_append}
use Rattle.accepted.proofs.Sound.{sound}
use Rattle.accepted.proofs.Pieces.{no_fault}
use Rattle.reader.specs.Walked.{Reads}
use Rattle.reader.specs.Walked.Reads.{reads_none, reads_more}
use Rattle.reader.proofs.Walk.{Ahead, no_extended_fault, stays_past, reads_table, reads_stop, reads_go}
use Rattle.lines.specs.Entry.{entry_line, shown}
use Rattle.lines.proofs.EntryLines.{base_line_lem, extended_line_lem, base_shown, extended_shown}
use Rattle.listing.specs.Texts.{entries_text}

-- ---- The lines of entries without a fault

-- A base entry has at least eight bytes.
base_eight : (e : Entry) → 8 ≤ base_entry_length e
unfolding base_entry_length
base_eight e = whether (of_type processor_type e) (λ t. rw t (omega arith)) (λ f. rw f (omega arith))

-- What a walk makes of an entry, where that is the entry's line: by its type, or from the bytes that it shows.
pub record Lines (f : Entry → List ℕ) : Type 0 where
  pub base : (e : Entry) → type e < first_extended_type → 8 ≤ length e → f e ≡ base_line e
  pub extended : (e : Entry) → first_extended_type ≤ type e → f e ≡ extended_line e

pub by_type : Lines entry_line
by_type = record { base = λ e h l. base_line_lem e refl h; extended = λ e h. extended_line_lem e refl h }

pub by_bytes : Lines shown
by_bytes = record { base = λ e h l. base_shown e refl h l; extended = λ e h. extended_shown e refl h }

module _ {f : Entry → List ℕ} (is : Lines f) where
  joined_base : (before : ℕ) (es : List Entry) → walk_from before es ≡ 0 → joined f es ≡ joined base_line es
  unfolding walk_from joined
  joined_base before [] w = refl
  joined_base before (e ∷ es) w =
      let p = first_none (entry_fault before e) (walk_from (type e) es) w in
      let q = no_fault before e p.0 in
      rw (is.base e (omega (arith, q.0)) (omega (arith, q.1, base_eight e)), joined_base (type e) es p.1)

  joined_extended :
      (before : ℕ) (es : List Entry) → extended_from before es ≡ false → joined f es ≡ joined extended_line es
  unfolding extended_from joined
  joined_extended before [] w = refl
  joined_extended before (e ∷ es) w =
      let p = or_parts (extended_fault before e) (extended_from (type e) es) w in
      rw (is.extended e (no_extended_fault before e p.0).2, joined_extended (type e) es p.1)

  all_lines : (t : List ℕ) → table_refusal t ≡ 0 → joined f (base_entries t ++ extended_entries t) ≡ entries_text t
  unfolding entries_text
  all_lines t a =
      let s = sound t a in
      joined_append f (base_entries t) (extended_entries t)
      ∙ rw (joined_base 0 (base_entries t) s.walked, joined_extended 0 (extended_entries t) s.extended_walked)

-- ---- The walk

-- The lines of the entries before a place, of which something is so, and the entries that the reader hands out behind it.
pub record Walking (f : Entry → List ℕ) (t : List ℕ) (place : ℕ) (So : List ℕ → Type 0) : Type 0 where
  pub lines : List ℕ
  pub so : So lines
  pub rest : List Entry
  pub reads : Reads t place rest (extended_end t)
  pub high : header_size ≤ place
  pub whole : lines ++ joined f rest ≡ entries_text t

pub walking_first :
    {f : Entry → List ℕ} {So : List ℕ → Type 0} → Lines f → (t : List ℕ) → table_refusal t ≡ 0 → So [] → Walking f t header_size So
walking_first is t a s =
    let all = base_entries t ++ extended_entries t in
    record { lines = []; so = s; rest = all; reads = (reads_table t a).0; high = omega arith; whole = all_lines is t a }

-- At the end all lines are there.
pub walking_done :
    {f : Entry → List ℕ} {So : List ℕ → Type 0} {t : List ℕ} {place end : ℕ} → Walking f t place So → end ≡ extended_end t → end ≤ place
    → So (entries_text t)
unfolding joined
walking_done {f} {So} {t} {place} w e h =
    let s = stays_past t place (omega (arith, e, h)) (omega (arith, e, h)) in
    let z = reads_stop w.reads (omega (arith, s.same)) in
    let same : w.lines ≡ entries_text t = sym (append-nil w.lines) ∙ rw z at w.whole in
    rw same at w.so

-- Before it an entry stands.
reads_stands : {t : List ℕ} {p q : ℕ} {es : List Entry} → Reads t p es q → p < q → p < next_place t p
reads_stands reads_none h = absurd (omega (arith, h))
reads_stands (reads_more g r) h = omega (arith, g.more, g.next)

pub walking_stands :
    {f : Entry → List ℕ} {So : List ℕ → Type 0} {t : List ℕ} {place end : ℕ} → Walking f t place So → end ≡ extended_end t → place < end
    → place < next_place t place
walking_stands w e h = reads_stands w.reads (omega (arith, e, h))

pub walking_goes :
    {f : Entry → List ℕ} {So : List ℕ → Type 0} {t : List ℕ} {place end next : ℕ} → Walking f t place So → end ≡ extended_end t → place < end
    → next ≡ next_place t place → place < next
walking_goes w e h n = omega (arith, walking_stands w e h, n)

-- It goes on: the next entry stands between the two places.
module _
    {f : Entry → List ℕ} {So : List ℕ → Type 0} {t : List ℕ} {place next : ℕ}
    (w : Walking f t place So) (e : next ≡ next_place t place) (ahead : place < next) where
  pub walking_ahead : Ahead t place w.rest (extended_end t) next
  walking_ahead = reads_go w.reads (stays_past t (extended_end t) (omega arith) (omega arith)) e ahead

  -- One line more.
  more : (w.lines ++ f (part place next t)) ++ joined f walking_ahead.rest ≡ entries_text t
  unfolding joined
  more = append_assoc w.lines _ _ ∙ ap (λ es. w.lines ++ joined f es) (sym walking_ahead.first) ∙ w.whole

  pub walking_next : {Then : List ℕ → Type 0} → Then (w.lines ++ f (part place next t)) → Walking f t next Then
  walking_next s = record { lines = _; so = s; rest = walking_ahead.rest; reads = walking_ahead.reads; high = omega (arith, w.high); whole = more }

  -- No more bytes than all lines have.
  pub walking_most : length w.lines + length (f (part place next t)) ≤ length (entries_text t)
  walking_most =
      let line = f (part place next t) in
      omega (
        arith,
        ap length more,
        length-append (w.lines ++ line) (joined f walking_ahead.rest),
        length-append w.lines line,
      )
