-- The parts of a section, as the code cuts them.
use Rattle.std.proofs.Common.{◌≡◌, ℕ, ◌-◌, ◌*◌, ◌/◌, List, map, length, get_or, take, drop, refl, add-one, add-zero}
use Rattle.std.specs.Simd.{first_chunks}
use Rattle.std.proofs.lemmas.List.{take_rest, drop-drop, get_or-drop}
use Rattle.stateset.proofs.Pairs.{in_pairs}
use Rattle.circuit.specs.Circuit.{gates_of}
use Rattle.circuit.specs.Read.{Counts, circuit_of}
use Rattle.register.specs.Parts.{gate_in}

-- The gates in pairs of bytes.
gates_cut : (bytes : List ℕ) → map gate_in (first_chunks 2 (length bytes / 2) bytes) ≡ gates_of bytes
gates_cut bytes = in_pairs gate_in gates_of refl (λ x. refl) (λ x y xs. refl) bytes

module _ (n : Counts) (rest : List ℕ) where
  abbrev pub gates : List ℕ
  gates = take (2 * n.gates) rest

  abbrev pub sets : List ℕ
  sets = drop n.registers (drop (2 * n.gates) rest)

  abbrev pub tail : List ℕ
  tail = take (length sets - 1) (drop 1 sets)

  pub circuit_cut : record { inputs = n.inputs; gates = map gate_in (first_chunks 2 (length gates / 2) gates); next = take n.registers (drop (2 * n.gates) rest); start = get_or sets 0 0; atoms = take n.atoms tail; fairs = drop n.atoms tail } ≡ circuit_of n rest
  circuit_cut = rw (gates_cut, take_rest sets 1, drop-drop 1 n.registers, get_or-drop n.registers, add-zero n.registers, add-one n.registers)
