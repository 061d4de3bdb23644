-- The line of an entry, by the part of a table that its type belongs to. Assumes nothing.
use Prim.Native.Nat.{ℕ, ◌≤◌, ◌<◌}
use mathlib.Core.Path.{◌≡◌, refl}
use mathlib.Core.List.{[], ◌∷◌}
use native.Mathlib.Omega.{arith}
use lib.ListN.{length}
use borrow.Author.Tests.{lt-ltb, le-ltb}
use Rattle.mps.specs.Numbers.{le}
use Rattle.mps.specs.Layout.{Entry, type, first_extended_type}
use Rattle.mps.specs.Listing.{cpu_line, bus_line, io_apic_line, interrupt_line, base_line, extended_line}
use Rattle.lines.specs.Entry.{entry_line, eight, shown}

-- Eight bytes of an entry tell all that its line shows.
eight_tell : (e : Entry) → 8 ≤ length e → base_line (eight e) ≡ base_line e
unfolding eight base_line cpu_line bus_line io_apic_line interrupt_line le
eight_tell (a ∷ b ∷ c ∷ d ∷ e ∷ f ∷ g ∷ h ∷ rest) l = refl
eight_tell (a ∷ b ∷ c ∷ d ∷ e ∷ f ∷ g ∷ []) l = absurd (omega (arith, l))
eight_tell (a ∷ b ∷ c ∷ d ∷ e ∷ f ∷ []) l = absurd (omega (arith, l))
eight_tell (a ∷ b ∷ c ∷ d ∷ e ∷ []) l = absurd (omega (arith, l))
eight_tell (a ∷ b ∷ c ∷ d ∷ []) l = absurd (omega (arith, l))
eight_tell (a ∷ b ∷ c ∷ []) l = absurd (omega (arith, l))
eight_tell (a ∷ b ∷ []) l = absurd (omega (arith, l))
eight_tell (a ∷ []) l = absurd (omega (arith, l))
eight_tell [] l = absurd (omega (arith, l))

module _ (e : Entry) {kind : ℕ} (k : kind ≡ type e) where
  pub base_line_lem : kind < first_extended_type → entry_line e ≡ base_line e
  unfolding entry_line
  base_line_lem h = rw (lt-ltb (type e) first_extended_type (omega arith))

  pub extended_line_lem : first_extended_type ≤ kind → entry_line e ≡ extended_line e
  unfolding entry_line
  extended_line_lem h = rw (le-ltb (type e) first_extended_type (omega arith))

  -- What any bytes show, where they are a whole entry.
  pub base_shown : kind < first_extended_type → 8 ≤ length e → shown e ≡ base_line e
  unfolding shown
  base_shown h l = rw (lt-ltb (type e) first_extended_type (omega arith)) (eight_tell e l)

  pub extended_shown : first_extended_type ≤ kind → shown e ≡ extended_line e
  unfolding shown
  extended_shown h = rw (le-ltb (type e) first_extended_type (omega arith))
