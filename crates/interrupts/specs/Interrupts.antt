-- Interrupt entries that are wrong, by the roll: bit 3 is set at the ID of a listed bus, and bit k at each ID that a
-- destination may name. Document 01, refusal 17.
use Rattle.std.specs.Prelude.{ℕ, Bool, not, ◌||◌, List, ltb, eqb}
use Rattle.mps.specs.Layout.{Entry, interrupt_type_most, reserved_mode, interrupt_type, polarity, trigger, source_bus, destination, input}
use Rattle.roll.specs.Roll.{marked, bus_bit}

-- An entry whose interrupt type is over 3, whose polarity or trigger is the reserved one, whose bus or destination is not
-- on the roll, or whose input is over `most`.
unfoldable pub wrong_interrupt_in : List ℕ → ℕ → ℕ → Entry → Bool
wrong_interrupt_in roll k most e =
    ltb interrupt_type_most (interrupt_type e)
    || eqb (polarity e) reserved_mode
    || eqb (trigger e) reserved_mode
    || not (marked bus_bit roll (source_bus e))
    || not (marked k roll (destination e))
    || ltb most (input e)
