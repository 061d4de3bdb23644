-- Laws of `wrong_mapping_in` and `wrong_modifier_in`: that they are the rules of mps. Assumes nothing.
use Rattle.std.proofs.Common.{◌≡◌, ℕ, List}
use Rattle.mps.specs.Words.{among}
use Rattle.mps.specs.Layout.{Entry, bus_type, extended_bus}
use Rattle.mps.specs.Rules.{ids_of, is_listed, wrong_mapping, wrong_modifier}
use Rattle.laws.proofs.Small.{Bytes}
use Rattle.roll.specs.Roll.{bus_bit, Shows}
use Rattle.spaces.specs.Spaces.{wrong_mapping_in, wrong_modifier_in}

-- ---- The rules of mps, of an entry whose bytes are bytes, where the roll has the listed buses

module _ (es : List Entry) (roll : List ℕ) (bus : Shows bus_bit roll (λ (y : ℕ). among y (ids_of bus_type es)))
    (e : Entry) (bytes : Bytes e) where
  pub wrong_mapping_in_lem : wrong_mapping_in roll e ≡ wrong_mapping es e
  unfolding wrong_mapping_in wrong_mapping is_listed
  wrong_mapping_in_lem = rw (bus (extended_bus e) (bytes 2))

  pub wrong_modifier_in_lem : wrong_modifier_in roll e ≡ wrong_modifier es e
  unfolding wrong_modifier_in wrong_modifier is_listed
  wrong_modifier_in_lem = rw (bus (extended_bus e) (bytes 2))
