-- What the functions of the crate tell each other; no promise of the crate speaks of it.
use Rattle.std.specs.Prelude.{◌≡◌, ℕ, ◌≤◌, Bool, List}
use Rattle.circuit.specs.Read.{Counts, announced}
use Rattle.register.specs.declared.read.Counts.{Counts as Read}
use Rattle.register.specs.declared.values.Values.{Values}

-- The values that are known.
abbrev pub known : Values → List Bool
known v = v.known.items

-- The counts that lead a section; and what cutting it rests on: it has the length that they announce, and few parts.
abbrev pub counts_in : Read → Counts
counts_in n = record { registers = n.registers; inputs = n.inputs; gates = n.gates; atoms = n.atoms; fairs = n.fairness_sets }

pub record Sizes (n : Counts) (long : ℕ) : Type 0 where
  pub few_registers : n.registers ≤ 10
  pub few_inputs : n.inputs ≤ 4
  pub few_gates : n.gates ≤ 200
  pub exact : long ≡ announced n
