-- How many pairs an answer has at most: an accepted table counts its entries in two bytes. Assumes nothing.
use Prim.Native.Nat.{ℕ, ◌*◌, ◌/◌, ◌^◌, ◌<◌, ◌≤◌}
use mathlib.Core.Path.{◌≡◌}
use mathlib.Core.Bool.{Bool}
use mathlib.Core.List.{List}
use native.Mathlib.Nat.{mul-le-mul}
use native.Mathlib.Omega.{arith}
use lib.ListN.{length}
use Rattle.mps.specs.Words.{keep, each, joined}
use Rattle.mps.specs.Layout.{Entry, of_type, io_apic_type, enabled, id_of, base_entries}
use Rattle.mps.specs.Rules.{enabled_of}
use Rattle.mps.specs.Judge.{table_refusal}
use Rattle.mps.specs.Routes.{Question, matches, names, pair_size, pair, pairs_to, routes, routes_of, line_rules, route_refusal}
use Rattle.mps.specs.Slots.{Slot, wired_from, slot_routes, slot_routes_of, slot_rules, slot_refusal}
use Rattle.laws.proofs.Lists.{keep_most, length_each}
use Rattle.laws.proofs.Joined.{joined_most}
use Rattle.laws.proofs.Small.{Bytes}
use Rattle.accepted.proofs.Sound.{entries_most}
use Rattle.routes.proofs.Laws.{kept_most}
use Rattle.routes.proofs.Numbers.{line_own, line_some, slot_own, slot_some, given_none}

enabled_most : (n : ℕ) (es : List Entry) → length (enabled_of n es) ≤ length es
unfolding enabled_of
enabled_most n es = omega (arith, keep_most enabled (keep (of_type n) es), keep_most (of_type n) es)

pairs_most : (apics : List Entry) (e : Entry) → length (pairs_to apics e) ≤ length apics * 2
unfolding pairs_to pair
pairs_most apics e =
    let named = keep (names e) apics in
    omega (arith, joined_most (pair e) 2 (λ id. omega arith) (each id_of named), length_each id_of named, keep_most (names e) apics)

-- The pairs of those entries that pass any test.
lines_most : (n : ℕ) (test : Entry → Bool) (es : List Entry) → length (joined (pairs_to (enabled_of n es)) (keep test es)) ≤ length es * (length es * 2)
lines_most n test es =
    let apics = enabled_of n es in
    kept_most (pairs_to apics) (length es * 2) (λ e. omega (arith, pairs_most apics e, enabled_most n es)) test es

table_most : (n : ℕ) (test : Entry → Bool) (t : List ℕ) → Bytes t → table_refusal t ≡ 0
    → length (joined (pairs_to (enabled_of n (base_entries t))) (keep test (base_entries t))) / pair_size < 2 ^ 32
table_most n test t b a =
    let es = base_entries t in
    let c : length es ≤ 65535 = omega (arith, entries_most t b a) in
    let d : length es * 2 ≤ 131070 = omega arith in
    omega (arith, lines_most n test es, mul-le-mul c d)

-- What is not refused is asked of an accepted table.
pub routes_most : (q : Question) (t room : List ℕ) → Bytes t → route_refusal q t room ≡ 0 → length (routes_of q t) / pair_size < 2 ^ 32
unfolding routes_of routes route_refusal line_rules
routes_most q t room b e =
    table_most q.side.targets (matches q) t b (given_none t (line_own q t) (line_some q t) (routes_of q t) room e)

pub slot_most : (s : Slot) (t room : List ℕ) → Bytes t → slot_refusal s t room ≡ 0 → length (slot_routes_of s t) / pair_size < 2 ^ 32
unfolding slot_routes_of slot_routes slot_refusal slot_rules
slot_most s t room b e = table_most io_apic_type (wired_from s) t b (given_none t (slot_own s t) (slot_some s t) (slot_routes_of s t) room e)
