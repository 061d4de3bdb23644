-- What document 02's ask 2 speaks of: the enabled I/O APIC of a byte of the answer, and the lowest number that was free for it.
use Rattle.std.specs.Prelude.{ℕ, ◌<◌, ◌≡◌, Bool, true, false, ◌||◌, List, [], get_or}
use Rattle.mps.specs.Words.{among}
use Rattle.mps.specs.Layout.{Entry, processor_type, io_apic_type, everyone}
use Rattle.mps.specs.Rules.{enabled_of, enabled_ids}
use Rattle.mps.specs.Renumber.{kept_ids}

-- "in table order, each enabled I/O APIC": the one at a place.
abbrev pub apic_at : List Entry → ℕ → Entry
apic_at es k = get_or (enabled_of io_apic_type es) k []

-- "Free means held by no enabled processor, no I/O APIC that keeps its number, and none numbered before": whether a number is
-- held by one of these.
unfoldable pub held : List Entry → List ℕ → ℕ → Bool
held es before n = among n (enabled_ids processor_type es) || among n (kept_ids es) || among n before

-- "the lowest free number from 0 to 254"
pub record LowestFree (es : List Entry) (before : List ℕ) (n : ℕ) : Type 0 where
  pub low : n < everyone
  pub free : held es before n ≡ false
  pub lower_held : (m : ℕ) → m < n → held es before m ≡ true
