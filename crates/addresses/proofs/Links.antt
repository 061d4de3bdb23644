-- The links that an answer carries: no more than there are other listed buses. Assumes nothing.
use Prim.Native.Nat.{ℕ, zero, suc, ◌+◌, ◌-◌, ◌≤◌, ◌<◌}
use mathlib.Core.Path.{◌≡◌, refl, sym, ◌∙◌}
use mathlib.Core.List.{List}
use native.Mathlib.Nat.{zero-add}
use native.Mathlib.Omega.{arith}
use lib.ListN.{length, drop}
use Rattle.mps.specs.Words.{among, each, keep, head}
use Rattle.mps.specs.Refusals.{refusal}
use Rattle.mps.specs.Answers.{answered, links_in, links_of}
use Rattle.mps.specs.Layout.{Entry, of_type, bus_type, id_of, base_entries, extended_entries}
use Rattle.mps.specs.Rules.{ids_of, links, parents_of}
use Rattle.mps.specs.Judge.{table_rules, table_refusal}
use Rattle.mps.specs.Addresses.{Say, says, answer, leaves, climb, seen_by, address_rules, seen}
use Rattle.mps.specs.declared.Seen.{Seen}
use Rattle.mps.specs.declared.Seen.TheVariants.{Undeclared}
use Rattle.laws.proofs.Lists.{keep_most, length_each}
use Rattle.laws.proofs.Claims.{unclaimed_cases}
use Rattle.laws.proofs.Refusals.{refusal_append, first_none}
use Rattle.laws.proofs.Small.{Bytes}
use Rattle.accepted.proofs.Sound.{entries_most}

links_answer : (s : Say) (k n : ℕ) (above : Seen) → k ≤ n → links_in above ≤ n → links_in (answer s k above) ≤ n
links_answer Say.no k n above h g = h
links_answer Say.yes k n above h g = h
links_answer Say.parent k n above h g = g
links_answer Say.undeclared k n above h g = h

-- "The earlier steps and the link count stay.": an answer is amended, and not its links.
pub links_leaves : (xs : List Entry) (up bus kind address : ℕ) (above : Seen) → links_in (leaves xs up bus kind address above) ≡ links_in above
unfolding leaves
links_leaves xs up bus kind address above =
    unclaimed_cases (λ x. links_in x ≡ links_in above) _ _ above refl (λ k e. rw e) (λ k e. rw e)

pub links_climb : (left : ℕ) (xs : List Entry) (bus kind address k : ℕ) → links_in (climb left xs bus kind address k) ≤ k + left
unfolding climb
links_climb zero xs bus kind address k = links_answer (says xs bus kind address) k (k + 0) (Undeclared k) (omega arith) (omega arith)
links_climb (suc left) xs bus kind address k =
    let up = head bus (parents_of (links xs) bus) in
    links_answer (says xs bus kind address) k (k + suc left) _ (omega arith)
    (omega (arith, links_leaves xs up bus kind address (climb left xs up kind address (k + 1)), links_climb left xs up kind address (k + 1)))

links_by : (t : List ℕ) (bus kind address : ℕ) → links_in (seen_by t bus kind address) ≤ length (ids_of bus_type (base_entries t)) - 1
unfolding seen_by
links_by t bus kind address =
    let left = length (ids_of bus_type (base_entries t)) - 1 in
    rw (zero-add left) at (links_climb left (extended_entries t) bus kind address 0)

links_of_lem : (n k : ℕ) (r : Seen) → links_in r ≤ k → links_of (answered n r) ≤ k
links_of_lem zero k r h = h
links_of_lem (suc n) k r h = omega arith

-- "by the definition that is at most the listed buses less one"
pub links_bound : (t : List ℕ) (bus kind address : ℕ) → links_of (seen t bus kind address) ≤ length (ids_of bus_type (base_entries t)) - 1
unfolding seen
links_bound t bus kind address = links_of_lem (refusal (address_rules t bus kind)) _ (seen_by t bus kind address) (links_by t bus kind address)

-- ---- Two bytes hold them

pub ids_fewer : (n : ℕ) (es : List Entry) → length (ids_of n es) ≤ length es
unfolding ids_of
ids_fewer n es = rw (length_each id_of (keep (of_type n) es)) (keep_most (of_type n) es)

-- A question that is not refused is asked of an accepted table.
table_none : (t : List ℕ) (bus kind : ℕ) → refusal (address_rules t bus kind) ≡ 0 → table_refusal t ≡ 0
unfolding address_rules table_refusal table_rules among each
table_none t bus kind e =
    (first_none (refusal (table_rules t)) _ (sym (refusal_append (table_rules t) (drop 14 (address_rules t bus kind)) refl) ∙ e)).0

pub links_most : (t : List ℕ) (bus kind address : ℕ) → Bytes t → links_of (seen t bus kind address) < 65536
unfolding seen
links_most t bus kind address b = cases (refusal (address_rules t bus kind)) refl
  where
    cases : (n : ℕ) → refusal (address_rules t bus kind) ≡ n → links_of (answered n (seen_by t bus kind address)) < 65536
    cases zero e =
        omega (arith, links_by t bus kind address, ids_fewer bus_type (base_entries t), entries_most t b (table_none t bus kind e))
    cases (suc n) e = omega arith
