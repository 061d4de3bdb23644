-- Laws of `wrong_interrupt_in`: that it is the rule of mps. Assumes nothing.
use Prim.Native.Nat.{ℕ}
use mathlib.Core.Path.{◌≡◌, ◌∙◌}
use mathlib.Core.Bool.{◌||◌, or-false}
use mathlib.Core.List.{List}
use native.Mathlib.Omega.{arith}
use lib.Dec.{ltb, eqb}
use borrow.Author.Tests.{le-ltb}
use Rattle.mps.specs.Words.{among}
use Rattle.mps.specs.Layout.{Entry, bus_type, everyone, input, source_bus, destination}
use Rattle.mps.specs.Rules.{ids_of, is_listed, wrong_interrupt, wrong_input}
use Rattle.laws.proofs.Small.{Bytes}
use Rattle.roll.specs.Roll.{marked, bus_bit, Shows}
use Rattle.interrupts.specs.Interrupts.{wrong_interrupt_in}

-- ---- The rule of mps, of an entry whose bus and destination the roll has as the rule does, whatever the highest input is

module _ (es : List Entry) (roll : List ℕ) (targets k : ℕ) (e : Entry)
    (bus : marked bus_bit roll (source_bus e) ≡ among (source_bus e) (ids_of bus_type es))
    (target : marked k roll (destination e) ≡ (eqb (destination e) everyone || among (destination e) (ids_of targets es))) where
  pub wrong_named : (most : ℕ) → wrong_interrupt_in roll k most e ≡ (wrong_interrupt es targets e || ltb most (input e))
  unfolding wrong_interrupt_in wrong_interrupt is_listed
  wrong_named most = rw (bus, target)

  -- I/O interrupts: no input is over 255.
  pub wrong_named_io : Bytes e → wrong_interrupt_in roll k 255 e ≡ wrong_interrupt es targets e
  wrong_named_io bytes =
      wrong_named 255 ∙ rw (le-ltb 255 (input e) (omega (arith, bytes 7))) (or-false (wrong_interrupt es targets e))

  -- Local interrupts.
  pub wrong_named_local : wrong_interrupt_in roll k 1 e ≡ (wrong_interrupt es targets e || wrong_input e)
  unfolding wrong_input
  wrong_named_local = wrong_named 1

-- So of every entry whose bytes are bytes, where the roll has the listed buses, and the listed targets with 255 beside them.
module _ (es : List Entry) (roll : List ℕ) (bus : Shows bus_bit roll (λ (y : ℕ). among y (ids_of bus_type es)))
    (targets k : ℕ) (target : Shows k roll (λ (y : ℕ). eqb y everyone || among y (ids_of targets es)))
    (e : Entry) (bytes : Bytes e) where
  pub wrong_interrupt_io : wrong_interrupt_in roll k 255 e ≡ wrong_interrupt es targets e
  wrong_interrupt_io = wrong_named_io es roll targets k e (bus (source_bus e) (bytes 4)) (target (destination e) (bytes 6)) bytes

  pub wrong_interrupt_local : wrong_interrupt_in roll k 1 e ≡ (wrong_interrupt es targets e || wrong_input e)
  wrong_interrupt_local = wrong_named_local es roll targets k e (bus (source_bus e) (bytes 4)) (target (destination e) (bytes 6))
