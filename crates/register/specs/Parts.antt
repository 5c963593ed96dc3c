-- A circuit where it lies in its section, with lists in place of references.
use Rattle.std.specs.Prelude.{ℕ, List, map, slice_index}
use Rattle.circuit.specs.Circuit.{Gate, Circuit}
use Rattle.register.specs.declared.parts.Parts.{Parts}

-- A gate in its two bytes.
abbrev pub gate_in : List ℕ → Gate
gate_in bytes = record { left = slice_index bytes 0; right = slice_index bytes 1 }

abbrev pub circuit_in : Parts → Circuit
circuit_in p = record {
  inputs = p.inputs;
  gates = map gate_in p.gates.now;
  next = p.next.now;
  start = p.start;
  atoms = p.atoms.now;
  fairs = p.fairness_sets.now;
}
