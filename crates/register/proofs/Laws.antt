-- What holds of every section.
use Rattle.circuit.proofs.Inverse.{layout_is_accepted}
use Rattle.circuit.proofs.OneState.{one_same}
use Rattle.circuit.proofs.Told.{usable_read, read_near}

pub ruleset laws = (layout_is_accepted, one_same, usable_read, read_near)
