-- The circuit that a section lays out, or the first fault of the section.
use Rattle.std.specs.Prelude.{ℕ, suc, ◌+◌, ◌*◌, cond, List, [], ◌∷◌, ◌++◌, length, take, drop, Ok, Err, Result, ◌==◌, nat_le, nat_lt, slice_index}
use Rattle.fault.specs.declared.Cause.TheVariants.{TableCounts, ValueNumber, NoStart}
use Rattle.fault.specs.declared.Fault.{Fault}
use Rattle.fault.specs.Faults.{fault}
use Rattle.fault.specs.Checks.{Checked, between, need, then, first_of, first_past, none_past, given}
use Rattle.table.specs.Moves.{some_below}
use Rattle.circuit.specs.Circuit.{Gate, Circuit, registers, count, gates_of, names}
use Rattle.circuit.specs.Table.{size, holds}

-- The counts that lead a section: of registers, inputs, gates, atoms and fairness sets.
pub record Counts : Type 0 where
  pub registers : ℕ
  pub inputs : ℕ
  pub gates : ℕ
  pub atoms : ℕ
  pub fairs : ℕ

abbrev pub counts_of : List ℕ → Counts
counts_of section = record {
  registers = slice_index section 0;
  inputs = slice_index section 1;
  gates = slice_index section 2;
  atoms = slice_index section 3;
  fairs = slice_index section 4;
}

-- What follows the five leading bytes is: the gates, ..
abbrev pub gate_bytes : Counts → List ℕ → List ℕ
gate_bytes n rest = take (2 * n.gates) rest

-- .. and the value numbers: of the registers, of the start set, of the atoms, of the fairness sets.
abbrev pub name_bytes : Counts → List ℕ → List ℕ
name_bytes n rest = drop (2 * n.gates) rest

abbrev pub circuit_of : Counts → List ℕ → Circuit
circuit_of n rest = record {
  inputs = n.inputs;
  gates = gates_of (gate_bytes n rest);
  next = take n.registers (name_bytes n rest);
  start = slice_index (name_bytes n rest) n.registers;
  atoms = take n.atoms (drop (suc n.registers) (name_bytes n rest));
  fairs = drop n.atoms (drop (suc n.registers) (name_bytes n rest));
}

-- How many bytes the counts announce.
abbrev pub announced : Counts → ℕ
announced n = 2 * n.gates + (n.registers + 1 + (n.atoms + n.fairs))

-- The first operand that is not below its gate, whose own number is `limit`.
abbrev pub gates_check : (limit place : ℕ) → List Gate → Checked
gates_check limit place [] = Ok tt
gates_check limit place (g ∷ gs) =
    then (need (nat_lt g.left limit) (fault ValueNumber place))
    (then (need (nat_lt g.right limit) (fault ValueNumber (place + 1)))
    (gates_check (limit + 1) (place + 2) gs))

-- The counts are in their ranges, and the section is as long as they announce.
abbrev pub size_checks : Counts → ℕ → List Checked
size_checks n long =
    need (between 1 10 n.registers) (fault TableCounts 0)
    ∷ need (nat_le n.inputs 4) (fault TableCounts 1)
    ∷ need (nat_le n.gates 200) (fault TableCounts 2)
    ∷ need (nat_le n.atoms 16) (fault TableCounts 3)
    ∷ need (between 1 4 n.fairs) (fault TableCounts 4)
    ∷ need (long == announced n) (fault TableCounts 0)
    ∷ []

-- Every operand is below its gate, every value that is named is there, and some state starts. Places are offsets in the
-- section: the gates begin at 5.
abbrev pub value_checks : Circuit → List Checked
value_checks c =
    gates_check (1 + registers c + c.inputs) 5 c.gates
    ∷ none_past ValueNumber (5 + 2 * length c.gates) (first_past (count c) (names c))
    ∷ need (some_below (size c) (holds c c.start)) (fault NoStart (5 + 2 * length c.gates + registers c))
    ∷ []

-- All checks in their order.
abbrev pub checks : Counts → List ℕ → List Checked
checks n rest = size_checks n (length rest) ++ value_checks (circuit_of n rest)

abbrev pub body_check : Counts → List ℕ → Checked
body_check n rest = first_of (checks n rest)

-- The circuit, where every check passes. A section that is shorter than its five leading bytes has that fault before all
-- others.
abbrev pub read_body : Counts → List ℕ → Result Circuit Fault
read_body n rest = given (body_check n rest) (circuit_of n rest)

abbrev pub read_of : List ℕ → Result Circuit Fault
read_of section = cond (nat_lt (length section) 5) (Err (fault TableCounts 0)) (read_body (counts_of section) (drop 5 section))
