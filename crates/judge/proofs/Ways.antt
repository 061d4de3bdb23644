-- The ways out of the rules 14 to 18: what each function of the judge has found, and the number that follows. Assumes nothing.
use Prim.Native.Nat.{ℕ, ◌%◌}
use mathlib.Core.Path.{◌≡◌, sym, ◌∙◌}
use mathlib.Core.Bool.{Bool, true, false, or-true}
use mathlib.Core.List.{List, []}
use lib.ListN.{replicate}
use borrow.Author.Tests.{eq-eqb, ne_eqb}
use Rattle.mps.specs.Words.{part, any}
use Rattle.mps.specs.Layout.{header_size, processor_type, bus_type, local_apic, local_apic_step, everyone}
use Rattle.mps.specs.Refusals.{refusal}
use Rattle.mps.specs.Judge.{table_rules}
use Rattle.mps.specs.Sections.{rows}
use Rattle.mps.specs.declared.Sections.{Sections}
use Rattle.laws.proofs.Refusals.{refusal_stop, refusal_go, refusal_end}
use Rattle.roll.specs.Roll.{with_marks}
use Rattle.roll.specs.Calls.{called}
use Rattle.apics.specs.Apics.{processor_call, io_apic_call, wrong_processors_in}
use Rattle.buses.specs.Buses.{bus_call}
use Rattle.interrupts.specs.Interrupts.{wrong_interrupt_in}
use Rattle.spaces.specs.Spaces.{wrong_mapping_in, wrong_modifier_in}
use Rattle.parents.specs.Parents.{wrong_links}
use Rattle.judge.specs.Placed.{Placed}
use Rattle.judge.specs.Rolled.{nobody, listed, Rolled, Named}
use Rattle.judge.specs.Stages.{from14, from15, from16, from17, from18}
use Rattle.judge.proofs.Rules.{rule_14, next_14, rule_15, next_15, rule_16, next_16, rule_17, rule_18}

module _ {t : List ℕ} {p : Sections} (h : Placed t p) where
  module _ {roll : List ℕ} (r : Named t roll) where
    -- ---- 18

    module _ {m : Bool} (em : m ≡ any (wrong_mapping_in roll) (rows 20 (part p.mappings p.links t))) where
      pub by_mapping : m ≡ true → 18 ≡ refusal (from18 t)
      unfolding table_rules from14 from15 from16 from17 from18
      by_mapping y = sym (refusal_stop 18 [] (rule_18 t p h r ∙ rw (← em, y)))

      module _ {o : Bool} (eo : o ≡ any (wrong_modifier_in roll) (rows 8 (part p.modifiers p.others t))) where
        pub by_modifier : o ≡ true → 18 ≡ refusal (from18 t)
        unfolding table_rules from14 from15 from16 from17 from18
        by_modifier y = sym (refusal_stop 18 [] (rule_18 t p h r ∙ rw (← eo, y, or-true)))

        module _ {l : Bool} (el : l ≡ wrong_links roll (rows 8 (part p.links p.modifiers t))) where
          pub by_link : l ≡ true → 18 ≡ refusal (from18 t)
          unfolding table_rules from14 from15 from16 from17 from18
          by_link y = sym (refusal_stop 18 [] (rule_18 t p h r ∙ rw (← el, y, or-true)))

          pub past_18 : m ≡ false → o ≡ false → l ≡ false → 0 ≡ refusal (from18 t)
          unfolding table_rules from14 from15 from16 from17 from18
          past_18 a b c = sym (refusal_go 18 [] (rule_18 t p h r ∙ rw (← em, ← eo, ← el, a, b, c)) ∙ refusal_end)

    -- ---- 17

    module _ {i : Bool} (ei : i ≡ any (wrong_interrupt_in roll 2 255) (rows 8 (part p.interrupts p.locals t))) where
      pub by_interrupt : i ≡ true → 17 ≡ refusal (from17 t)
      unfolding table_rules from14 from15 from16 from17 from18
      by_interrupt y = sym (refusal_stop 17 (from18 t) (rule_17 t p h r ∙ rw (← ei, y)))

      module _ {l : Bool} (el : l ≡ any (wrong_interrupt_in roll 0 1) (rows 8 (part p.locals p.mappings t))) where
        pub by_local : l ≡ true → 17 ≡ refusal (from17 t)
        unfolding table_rules from14 from15 from16 from17 from18
        by_local y = sym (refusal_stop 17 (from18 t) (rule_17 t p h r ∙ rw (← el, y, or-true)))

        pub past_17 : i ≡ false → l ≡ false → refusal (from18 t) ≡ refusal (from17 t)
        unfolding table_rules from14 from15 from16 from17 from18
        past_17 a b = sym (refusal_go 17 (from18 t) (rule_17 t p h r ∙ rw (← ei, ← el, a, b)))

  -- ---- 16

  module _ {roll : List ℕ} (r : Rolled roll (listed processor_type t) (listed bus_type t))
      {b : Bool} (e : b ≡ (called io_apic_call roll (rows 8 (part p.ioapics p.interrupts t))).wrong) where
    pub by_apic : b ≡ true → 16 ≡ refusal (from16 t)
    unfolding table_rules from14 from15 from16 from17 from18
    by_apic y = sym (refusal_stop 16 (from17 t) (rule_16 t p h roll r.size r.io_taken_shown ∙ rw (← e, y)))

    pub past_16 : b ≡ false → refusal (from17 t) ≡ refusal (from16 t)
    unfolding table_rules from14 from15 from16 from17 from18
    past_16 n = sym (refusal_go 16 (from17 t) (rule_16 t p h roll r.size r.io_taken_shown ∙ rw (← e, n)))

    pub roll_16 :
        b ≡ false → {next last : List ℕ} → next ≡ (called io_apic_call roll (rows 8 (part p.ioapics p.interrupts t))).roll
        → last ≡ with_marks 5 next everyone → Named t last
    roll_16 n f g = rw (g, f) (next_16 t p h r (sym e ∙ n))

  -- ---- 15

  module _ {roll : List ℕ} (r : Rolled roll (listed processor_type t) nobody)
      {b : Bool} (e : b ≡ (called bus_call roll (rows 8 (part p.buses p.ioapics t))).wrong) where
    pub by_bus : b ≡ true → 15 ≡ refusal (from15 t)
    unfolding table_rules from14 from15 from16 from17 from18
    by_bus y = sym (refusal_stop 15 (from16 t) (rule_15 t p h roll r.size r.buses_shown ∙ rw (← e, y)))

    pub past_15 : b ≡ false → refusal (from16 t) ≡ refusal (from15 t)
    unfolding table_rules from14 from15 from16 from17 from18
    past_15 n = sym (refusal_go 15 (from16 t) (rule_15 t p h roll r.size r.buses_shown ∙ rw (← e, n)))

    pub roll_15 :
        b ≡ false → {next : List ℕ} → next ≡ (called bus_call roll (rows 8 (part p.buses p.ioapics t))).roll
        → Rolled next (listed processor_type t) (listed bus_type t)
    roll_15 n f = rw f (next_15 t p h r (sym e ∙ n))

  -- ---- 14

  module _ {x : ℕ} (ex : x ≡ local_apic t) where
    pub by_local_apic : (x % local_apic_step ≡ 0 → ⊥) → 14 ≡ refusal (from14 t)
    unfolding table_rules from14 from15 from16 from17 from18
    by_local_apic n = sym (refusal_stop 14 (from15 t) (rule_14 t p h ∙ rw (← ex, ne_eqb (x % local_apic_step) 0 n)))

    module _ {roll : List ℕ} (s : roll ≡ with_marks 18 (replicate 256 0) everyone)
        {b : Bool} (e : b ≡ wrong_processors_in roll (rows 20 (part header_size p.buses t))) where
      pub by_processor : b ≡ true → 14 ≡ refusal (from14 t)
      unfolding table_rules from14 from15 from16 from17 from18
      by_processor y = sym (refusal_stop 14 (from15 t) (rule_14 t p h ∙ rw (← s, ← e, y, or-true)))

      pub past_14 : x % local_apic_step ≡ 0 → b ≡ false → refusal (from15 t) ≡ refusal (from14 t)
      unfolding table_rules from14 from15 from16 from17 from18
      past_14 z n = sym (refusal_go 14 (from15 t) (rule_14 t p h ∙ rw (← ex, eq-eqb (x % local_apic_step) 0 z, ← s, ← e, n)))

      pub roll_14 :
          b ≡ false → {next : List ℕ} → next ≡ (called processor_call roll (rows 20 (part header_size p.buses t))).roll
          → Rolled next (listed processor_type t) nobody
      roll_14 n f = rw (f, s) (next_14 t p h (rw s at (sym e ∙ n)))
