use Rattle.circuit.proofs.Inverse.{accepted_is_layout, values_are}
use Rattle.register.proofs.Register.of.Goals as goal

pub returns-clause-accepted : goal.returns-clause-accepted
returns-clause-accepted c = accepted_is_layout

pub returns-clause-values : goal.returns-clause-values
returns-clause-values c = values_are
