-- By a law for each rule that is broken.
use native.Mathlib.Omega.{arith}
use Rattle.contents.proofs.Reading.{sound_not}
use Rattle.contents.proofs.sound.Goals as goal

pub returns-then-d-eq0 : goal.returns-then-d-eq0
returns-then-d-eq0 c = sound_not _ (λ s. omega (arith, s.some))

pub returns-then-d-gt-DUMP_MOST : goal.returns-then-d-gt-DUMP_MOST
returns-then-d-gt-DUMP_MOST c = sound_not _ (λ s. omega (arith, s.most))

pub returns-then-d-gt-REGIONS_MOST : goal.returns-then-d-gt-REGIONS_MOST
returns-then-d-gt-REGIONS_MOST c = sound_not _ (λ s. omega (arith, s.count))
