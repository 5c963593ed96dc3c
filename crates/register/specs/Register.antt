-- What a register table is.
use Rattle.std.specs.Prelude.{Option}
use Rattle.fault.specs.declared.Fault.{Fault}
use Rattle.circuit.specs.Circuit.{Circuit}
use Rattle.register.specs.declared.Register.{Register}
use Rattle.register.specs.Parts.{circuit_in}

-- The circuit that its section lays out, or the one-state circuit; and why the section was refused, if it was.
abbrev pub circuit_held : Register → Circuit
circuit_held t = circuit_in t.parts

abbrev pub refusal : Register → Option Fault
refusal t = t.fault
