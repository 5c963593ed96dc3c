use Rattle.std.proofs.Common.{◌≡◌, ◌+◌, map, length, drop}
use Rattle.circuit.specs.Values.{with_gates}
use Rattle.register.specs.Parts.{gate_in}
use Rattle.register.specs.Inner.{known}
use Rattle.register.proofs.values.Values.push_gates.Given as goal

-- What is known, with the gates that are left, is what is wanted.
abbrev pub invariant-loop-x : goal.invariant-loop-x
invariant-loop-x l = record {
  same : with_gates (known l.self) (map gate_in (drop l.x-index l.gates)) ≡ with_gates (known l.initial.self) (map gate_in l.gates);
  long : length (known l.self) ≡ length (known l.initial.self) + l.x-index;
}
