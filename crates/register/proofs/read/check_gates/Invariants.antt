use Rattle.std.proofs.Common.{◌≡◌, ◌+◌, ◌*◌, map, drop}
use Rattle.circuit.specs.Read.{gates_check}
use Rattle.register.specs.Parts.{gate_in}
use Rattle.register.proofs.read.check_gates.Given as goal

-- The check of the gates that are left is the check of all.
abbrev pub invariant-loop-i : goal.invariant-loop-i
invariant-loop-i l = gates_check l.known 5 (map gate_in l.parts.gates.now) ≡ gates_check (l.known + l.i) (5 + 2 * l.i) (map gate_in (drop l.i l.parts.gates.now))
