-- 30 by each test; else what the writer makes of what is laid.
use mathlib.Core.Path.{refl, sym}
use mathlib.Core.Logic.{⊎_elim}
use mathlib.Core.List.{[]}
use native.Mathlib.Omega.{arith}
use lib.Seq.{length-take-le}
use Rattle.mps.specs.Defaults.{default_fields}
use Rattle.defaults.proofs.Laws.{There}
use Rattle.defaults.proofs.Calls.{no_zero, no_more, no_boot, none_made, laid_inside, make_written}
use Rattle.defaults.proofs.make.Goals as goal
use Rattle.defaults.proofs.make.Goals.{After-base-2-1}

pub returns-then-number-eq0 : goal.returns-then-number-eq0
returns-then-number-eq0 c =
    let a = c.args in
    let none =
    ⊎_elim (no_zero a.number a.boot) (⊎_elim (λ h. no_more a.number a.boot h.1) (λ h. no_boot a.number a.boot h.2)) c.then-number-eq0.either in
    let both = none_made a.number a.boot a.room.now none in
    record { value = both.0; room_after = both.1 }

-- A configuration and a boot processor that there are.
there : (c : After-base-2-1) → There c.args.number c.args.boot
there c = record { some = omega (arith, c.if-number-eq0.false); most = c.if-number-gt-DEFAULT_MOST.false; boots = c.if-boot-gt-BOOT_MOST.false }

pub slice_bounds-base-end : goal.slice_bounds-base-end
slice_bounds-base-end c =
    laid_inside (there (goal.at.slice_bounds-base-end c).After-base-2-1) [] c.lay-size.ensures.value c.lay-size.ensures.out_after

pub slice_bounds-write-end : goal.slice_bounds-write-end
slice_bounds-write-end c =
    sym (length-take-le _ _ (slice_bounds-base-end (goal.at.slice_bounds-write-end c).After-base-2-1))

pub returns : goal.returns
unfolding default_fields
returns c =
    let both = make_written (there (goal.at.returns c).After-base-2-1) _ c.lay-size.ensures.value c.lay-size.ensures.out_after refl refl refl (c.write.ensures.value, c.write.ensures.room_after) in record { value = both.0; room_after = both.1 }
