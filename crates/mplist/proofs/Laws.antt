-- What is written is all of the program's output. Assumes nothing.
use Prim.Native.Nat.{ℕ, ◌≤◌}
use mathlib.Core.Path.{◌≡◌, sym, ◌∙◌}
use mathlib.Core.List.{List, ◌++◌}
use native.Mathlib.Omega.{arith}
use lib.ListN.{length, take, drop, length-append}
use lib.Seq.{take_at}
use Rattle.std.specs.Prelude.{Result, Ok}
use Rattle.mps.specs.Listing.{program_output, printed, print_left}
use Rattle.mps.specs.declared.refusals.Refusal.{Refusal}
use Rattle.listing.proofs.Longest.{print_fits_always, print_leaves_always}

module _ (d room : List ℕ) (h : 65536 ≤ length room) {r : Result ℕ Refusal} (e : r ≡ printed d room) where
  pub never_refused : r ≡ Ok (length (program_output d))
  never_refused = print_fits_always d room h e

  pub all_written :
      (u : List ℕ) {n : ℕ} → u ≡ print_left d room → r ≡ Ok n
      → (n ≡ length (program_output d)) × (n ≤ length u) × (take n u ≡ program_output d)
  all_written u {n} k b =
      let w = program_output d in
      let rest = drop (length w) room in
      let same = sym b ∙ never_refused in
      let m : n ≡ length w = cc in
      let v : u ≡ w ++ rest = k ∙ print_leaves_always d room h in
      (m, rw v (omega (arith, m, length-append w rest)), rw v (take_at w rest n (sym m)))
