use Rattle.circuit.proofs.Inverse.{accepted_is_layout, values_are}
use Rattle.register.proofs.Register.read.Goals as goal

pub returns-in_err-parts-clause-accepted : goal.returns-in_err-parts-clause-accepted
returns-in_err-parts-clause-accepted c = accepted_is_layout

pub returns-in_err-parts-clause-values : goal.returns-in_err-parts-clause-values
returns-in_err-parts-clause-values c = values_are

pub returns-clause-accepted : goal.returns-clause-accepted
returns-clause-accepted c = accepted_is_layout

pub returns-clause-values : goal.returns-clause-values
returns-clause-values c = values_are
