-- 24 and 25 of what is no PCI bus, 25 of one; else the answer of the I/O side.
use Prim.Native.Nat.{◌<◌}
use native.Mathlib.Omega.{arith}
use Rattle.mps.specs.Layout.{pins, devices}
use Rattle.routes.proofs.Ways.{slot_inside, not_listed, not_pci, wrong_slot_lem, right_slot}
use Rattle.routes.proofs.slot_behind_table.Goals as goal
use Rattle.routes.proofs.slot_behind_table.Goals.{Else-device-pin}

pub returns-then-is_listed : goal.returns-then-is_listed
returns-then-is_listed c =
    let a = c.args in let both = not_pci a.t.now a.p c.requires.0 c.requires.1 a.bus a.device a.pin a.out.now
    c.is_pci.ensures c.if-not-is_pci.true c.is_listed.ensures c.if-is_listed.true in record { value = both.0; out_after = both.1 }

pub returns-then-not-is_pci : goal.returns-then-not-is_pci
returns-then-not-is_pci c =
    let a = c.args in let both = not_listed a.t.now a.p c.requires.0 c.requires.1 a.bus a.device a.pin a.out.now
    c.is_pci.ensures c.if-not-is_pci.true c.is_listed.ensures c.if-is_listed.false in record { value = both.0; out_after = both.1 }

pub returns-then-device-pin : goal.returns-then-device-pin
returns-then-device-pin c =
    let a = c.args in let both = wrong_slot_lem a.t.now a.p c.requires.0 c.requires.1 a.bus a.device a.pin a.out.now
    c.is_pci.ensures c.if-not-is_pci.false c.if-device-pin.true in record { value = both.0; out_after = both.1 }

-- Device and pin are in range, so the packed byte is one.
inside : (c : Else-device-pin) → let a = c.args in (a.device < devices) × (a.pin < pins)
inside c = slot_inside _ _ c.if-device-pin.false

pub overflow_mul-irq : goal.overflow_mul-irq
overflow_mul-irq c =
    omega (arith, (inside (goal.at.overflow_mul-irq c).Else-device-pin).0, (inside (goal.at.overflow_mul-irq c).Else-device-pin).1)

pub overflow_add-irq : goal.overflow_add-irq
overflow_add-irq c =
    omega (arith, (inside (goal.at.overflow_add-irq c).Else-device-pin).0, (inside (goal.at.overflow_add-irq c).Else-device-pin).1)

pub of_side-requires : goal.of_side-requires
of_side-requires c = c.requires

pub returns : goal.returns
returns c =
    let a = c.args in let both = right_slot a.t.now a.p c.requires.0 c.requires.1 a.bus a.device a.pin a.out.now
    c.is_pci.ensures c.if-not-is_pci.false c.if-device-pin.false (c.of_side.ensures.value, c.of_side.ensures.out_after) in record { value = both.0; out_after = both.1 }
