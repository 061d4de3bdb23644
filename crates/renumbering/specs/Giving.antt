-- The new numbers by sets of words (sets's specs/Sets.antt), as the code makes them: from the IDs of the enabled I/O APICs, the
-- set of the enabled processors' IDs and the set of the I/O APICs' numbers. That they are the definition's in an accepted table is
-- proved in proofs/Laws.antt.
use Rattle.std.specs.Prelude.{ℕ, cond, List, [], ◌∷◌}
use Rattle.sets.specs.Sets.{holds, with_number, lowest_out}

-- The number of an I/O APIC with this ID: the lowest that is in neither set where it shares a processor's, else its own.
unfoldable pub number_in : List ℕ → List ℕ → ℕ → ℕ
number_in cpus own id = cond (holds cpus id) (lowest_out own cpus) id

-- The I/O APICs' set then: with the new number, where it gets one.
unfoldable pub own_with : List ℕ → List ℕ → ℕ → List ℕ
own_with cpus own id = cond (holds cpus id) (with_number own (lowest_out own cpus)) own

-- The numbers of all, each of them used before the next is given.
unfoldable pub numbers_in : List ℕ → List ℕ → List ℕ → List ℕ
numbers_in cpus own [] = []
numbers_in cpus own (id ∷ ids) = number_in cpus own id ∷ numbers_in cpus (own_with cpus own id) ids
