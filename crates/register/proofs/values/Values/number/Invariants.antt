use Rattle.std.proofs.Common.{◌≡◌, ◌-◌, map, length, drop}
use Rattle.stateset.specs.Sets.{number}
use Rattle.circuit.specs.Values.{value}
use Rattle.register.specs.Inner.{known}
use Rattle.register.proofs.values.Values.number.Given as goal

-- The number of the names that were taken, which are the last ones.
abbrev pub invariant-loop-name : goal.invariant-loop-name
invariant-loop-name l = l.total ≡ number (map (value (known l.self)) (drop (length l.names - length l.yielded) l.names))
