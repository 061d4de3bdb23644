-- The type's law at each return, from what each word's call ensures.
use native.Mathlib.Omega.{arith}
use Rattle.widths.proofs.Laws.{map_type, tree_type, mod_type, skip_type}
use Rattle.widths.proofs.extended.Goals as goal

pub returns-in-128 : goal.returns-in-128
returns-in-128 c = map_type c.args.e.now c.byte.ensures c.in-128.is c.field.ensures.0 c.field-in-128.ensures.0

pub returns-in-129 : goal.returns-in-129
returns-in-129 c = tree_type c.args.e.now c.byte.ensures c.in-129.is c.field-in-129.ensures.0 c.field-in-129-2.ensures.0

pub returns-in-130 : goal.returns-in-130
returns-in-130 c = mod_type c.args.e.now c.byte.ensures c.in-130.is c.field-in-130.ensures.0 c.le32.ensures c.width.ensures.0

pub returns-in_default : goal.returns-in_default
returns-in_default c =
    skip_type c.args.e.now c.byte.ensures (λ h. omega arith) (λ h. omega arith) (λ h. omega arith) c.field-in_default.ensures.0 c.field-in_default-2.ensures.0
