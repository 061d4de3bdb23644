-- Laws for `read`: what it answers by what the pointer tells, and by what the judge says of the table. Assumes nothing.
use Prim.Native.Nat.{ℕ, ◌≤◌}
use mathlib.Core.Path.{◌≡◌, sym, ◌∙◌}
use mathlib.Core.List.{List}
use lib.ListN.{length}
use Rattle.std.specs.Prelude.{Result, Ok, Err}
use Rattle.std.specs.Result.{IsErrAnd}
use Rattle.std.proofs.lemmas.Result.{err_from_is_err_and}
use Rattle.mps.specs.Words.{part}
use Rattle.mps.specs.Judge.{pointed, held, judged}
use Rattle.mps.specs.declared.Held.{Held}
use Rattle.mps.specs.declared.Held.TheVariants.{Default, Table}
use Rattle.mps.specs.declared.refusals.Refusal.{Refusal}
use Rattle.judge.proofs.Laws.{judged_accepted, judged_refused}
use Rattle.dump.proofs.Laws.{pointed_refused, pointed_default, pointed_table, held_refused, held_accepted}

module _ (d : List ℕ) {x : Result Held Refusal} (find : x ≡ pointed d) where
  pub read_refused : {r : Refusal} → x ≡ Err r → Err r ≡ held d
  read_refused q = let g = pointed_refused d (sym find ∙ q) in held_refused d g.0 g.1

  -- .. as a `?` passes it on.
  pub passed_refused : {r : Refusal} {o : Result Held Refusal} → x ≡ Err r → IsErrAnd o (λ e. e ≡ r) → o ≡ held d
  passed_refused {r} {o} q h = let p = err_from_is_err_and o h in rw (p.1, p.2) (read_refused q)

  pub read_default : (n b : ℕ) → x ≡ Ok (Default n b) → Ok (Default n b) ≡ held d
  read_default n b q = held_accepted d (pointed_default d n b (sym find ∙ q)).0 (sym q ∙ find)

  module _ (p b a s e : ℕ) (q : x ≡ Ok (Table p b a s e)) where
    -- The table's place, inside the dump.
    pub read_place : (s ≤ e) × (e ≤ length d)
    read_place = let t = pointed_table d p b a s e (sym find ∙ q) in (t.order, t.inside)

    module _ {y : Result (Unit {0}) Refusal} (judge : y ≡ judged (part s e d)) where
      pub read_wrong : {r : Refusal} → y ≡ Err r → Err r ≡ held d
      read_wrong w =
          let t = pointed_table d p b a s e (sym find ∙ q) in
          let g = judged_refused (part s e d) judge w in
          held_refused d (λ z. g.0 (sym t.rules ∙ z)) (rw t.rules g.1)

      pub read_table : {u : Unit {0}} → y ≡ Ok u → Ok (Table p b a s e) ≡ held d
      read_table w =
          held_accepted d ((pointed_table d p b a s e (sym find ∙ q)).rules ∙ judged_accepted (part s e d) judge w) (sym q ∙ find)

pub ruleset read_laws = (passed_refused, read_default, read_place, read_table)
