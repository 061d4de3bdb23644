use Rattle.std.proofs.Common.{◌≡◌, drop}
use Rattle.mps.specs.Words.{same, any}
use Rattle.mps.specs.Buses.{bus_names, is_bus_name}
use Rattle.tables.proofs.names.is_bus_name.Given as goal

abbrev pub invariant-loop-row : goal.invariant-loop-row
invariant-loop-row l = any (same l.name) (drop l.row-index bus_names) ≡ is_bus_name l.name
